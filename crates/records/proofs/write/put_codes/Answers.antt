use Rattle.std.proofs.Common.{[], ◌∷◌, ◌++◌, map, take, subst}
use Rattle.records.specs.Bytes.{step_code}
use Rattle.lent.specs.Puts.{Behind}
use Rattle.lent.proofs.Chains.{then}
use Rattle.records.proofs.Puts.{codes_more, codes_all}
use Rattle.records.proofs.write.put_codes.Goals as goal

pub loop-step-preserved : goal.loop-step-preserved
loop-step-preserved c =
    let f = c.args.front.now in
    let xs = c.args.steps.now in
    let i = c.loop-step.step-index in
    subst (Behind f c.put.new.self) (codes_more xs i _ c.loop-step-test.true)
    (subst (λ x. Behind f c.put.new.self (map step_code (take i xs) ++ x ∷ [])) c.from-code.ensures
    (then f c.loop-step.front c.put.new.self (map step_code (take i xs)) (c.from-code.result.0 ∷ []) c.loop-step.invariant c.put.ensures.written))

pub returns : goal.returns
returns c =
    subst (Behind c.args.front.now c.loop-step.front) (codes_all c.args.steps.now c.loop-step.step-index c.loop-step-test.false) c.loop-step.invariant
