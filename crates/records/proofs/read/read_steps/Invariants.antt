use Rattle.std.proofs.Common.{◌≡◌, map, None}
use Rattle.std.specs.List.{range_with_len}
use Rattle.formulas.specs.Steps.{listed}
use Rattle.records.specs.Bytes.{step_at}
use Rattle.records.specs.Reading.{steps_refusal}
use Rattle.records.proofs.read.read_steps.Given as goal

abbrev pub invariant-loop-i : goal.invariant-loop-i
invariant-loop-i g l =
    (listed l.steps ≡ map (step_at l.bytes) (range_with_len 0 l.i))
    × (steps_refusal (g.S.OperatorSet.meaning l.set) l.channels.value l.bytes l.i ≡ None)
