use Rattle.std.proofs.Common.{get_or, take, subst}
use Rattle.std.specs.List.{flat_map}
use Rattle.records.specs.Bytes.{field_of}
use Rattle.lent.specs.Puts.{Behind}
use Rattle.lent.proofs.Chains.{then}
use Rattle.records.proofs.Puts.{fields_more, fields_all}
use Rattle.records.proofs.write.put_fields.Goals as goal

pub loop-step-preserved : goal.loop-step-preserved
loop-step-preserved c =
    let f = c.args.front.now in
    let xs = c.args.steps.now in
    let i = c.loop-step.step-index in
    subst (Behind f c.put_field.new.front) (fields_more xs i _ c.loop-step-test.true)
    (then f c.loop-step.front c.put_field.new.front (flat_map field_of (take i xs)) (field_of (get_or xs i _)) c.loop-step.invariant c.put_field.ensures)

pub returns : goal.returns
returns c =
    subst (Behind c.args.front.now c.loop-step.front) (fields_all c.args.steps.now c.loop-step.step-index c.loop-step-test.false) c.loop-step.invariant
