use Rattle.promise.proofs.Determined.{answers_are_determined_lem}
use Rattle.promise.proofs.answers_are_determined.Goals as goal

pub returns-clause-agree : goal.returns-clause-agree
returns-clause-agree c = answers_are_determined_lem
