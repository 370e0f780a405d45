use Rattle.std.proofs.Common.{◌≡◌, length}
use Rattle.printing.proofs.tests.refuses_shared_steps.Given as goal

abbrev pub invariant-loop-i : goal.invariant-loop-i
invariant-loop-i g l = length l.pieces ≡ 15
