use Rattle.promise.proofs.Core.{calls_are_answered, all_answers_are_true, reached_answers_are_true, settled_after}
use Rattle.promise.proofs.answers_are_true.Goals as goal

pub returns-clause-all : goal.returns-clause-all
returns-clause-all c = all_answers_are_true

pub returns-clause-answered : goal.returns-clause-answered
returns-clause-answered c = calls_are_answered

pub returns-clause-reached : goal.returns-clause-reached
returns-clause-reached c = reached_answers_are_true

pub returns-clause-settled : goal.returns-clause-settled
returns-clause-settled c = settled_after
