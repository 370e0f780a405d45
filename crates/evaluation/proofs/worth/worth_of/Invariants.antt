use Rattle.std.proofs.Common.{◌≡◌, ℕ, List, length, map}
use Rattle.formulas.specs.Formula.{Formula, Formulas}
use Rattle.formulas.specs.Steps.{listed}
use Rattle.evaluation.specs.Values.{GoesBy}
use Rattle.evaluation.proofs.Values.{KnownBelow}
use Rattle.evaluation.proofs.worth.worth_of.Given as goal

abbrev pub invariant-loop-i : goal.invariant-loop-i
invariant-loop-i g l =
    (length l.values ≡ 513)
    × ((value : Formula → ℕ) (values : Formulas → List ℕ) → GoesBy (g.W.Worth.rule l.worth) value values
    → KnownBelow (g.W.Worth.meaning l.worth) value (listed l.steps) g.W.Worth.absent l.i (map g.W.Worth.number l.values))
