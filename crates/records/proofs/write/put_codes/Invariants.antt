use Rattle.std.proofs.Common.{map, take}
use Rattle.lent.specs.Puts.{Behind}
use Rattle.records.specs.Bytes.{step_code}
use Rattle.records.proofs.write.put_codes.Given as goal

abbrev pub invariant-loop-step : goal.invariant-loop-step
invariant-loop-step l = Behind l.initial.front l.front (map step_code (take l.step-index l.steps))
