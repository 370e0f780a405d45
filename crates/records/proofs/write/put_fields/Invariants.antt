use Rattle.std.proofs.Common.{take}
use Rattle.std.specs.List.{flat_map}
use Rattle.lent.specs.Puts.{Behind}
use Rattle.records.specs.Bytes.{field_of}
use Rattle.records.proofs.write.put_fields.Given as goal

abbrev pub invariant-loop-step : goal.invariant-loop-step
invariant-loop-step l = Behind l.initial.front l.front (flat_map field_of (take l.step-index l.steps))
