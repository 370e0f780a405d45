use Rattle.std.proofs.Common.{◌≡◌, take}
use Rattle.search.specs.Marks.{mark}
use Rattle.finder.proofs.problem.Problem.mark.Given as goal

abbrev pub invariant-loop-place : goal.invariant-loop-place
invariant-loop-place g l = l.marks.used ≡ mark (take l.place-index l.place-items) l.initial.marks.used
