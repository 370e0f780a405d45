use Rattle.promise.proofs.Agreement.{machines_agree_lem}
use Rattle.promise.proofs.machines_agree.Goals as goal

pub returns-clause-agree : goal.returns-clause-agree
returns-clause-agree c = machines_agree_lem
