use Rattle.std.proofs.Common.{◌≡◌, ◌+◌, ◌-◌, List, length, map, get_or, sym, ap, ◌∙◌, subst, arith, length-set}
use Rattle.std.proofs.lemmas.List.{length-map, map-set}
use Rattle.fixed.proofs.Lengths.{listed-length}
use Rattle.formulas.specs.Says.{step_of}
use Rattle.formulas.specs.Steps.{listed}
use Rattle.formulas.specs.declared.steps.Step.{Step}
use Rattle.evaluation.specs.Values.{step_value}
use Rattle.evaluation.proofs.Values.{KnownBelow, known_more, last_value, at_map}
use Rattle.evaluation.proofs.worth.worth_of.Goals as goal

pub loop-i-preserved : goal.loop-i-preserved
loop-i-preserved g c =
    let m = g.W.Worth.meaning c.args.worth.now in
    let rule = g.W.Worth.rule c.args.worth.now in
    let number = g.W.Worth.number in
    let d = g.W.Worth.absent in
    let steps = listed c.args.steps.now in
    let i = c.loop-i.i in
    let table = c.loop-i.values in
    let x = c.step_worth.result in
    let t = c.loop-i-test.true in
    let same = c.as_slice-step-items.ensures in
    let count = ap length same in
    let n = listed-length c.args.steps.now in
    let few = c.args.steps.now.few in
    let long : length table ≡ 513 = c.loop-i.invariant.0 in
    let wide = length-map table number in
    let is : number x ≡ step_value m rule d (map number table) (step_of steps i) = c.step_worth.ensures ∙ ap (λ (l : List Step). step_value m rule d (map number table) (step_of l i)) same in (
      length-set table i x ∙ long,
      λ value values goes. subst (λ us. KnownBelow m value steps d (i + 1) us) (sym (map-set number table i x))
          (known_more m rule value values goes steps d i (map number table) (number x) (c.loop-i.invariant.1 value values goes) (omega (arith, count)) is),
    )

pub returns : goal.returns
returns g c value values goes f says =
    let m = g.W.Worth.meaning c.args.worth.now in
    let number = g.W.Worth.number in
    let steps = listed c.args.steps.now in
    let t = c.loop-i-test.false in
    let same = ap length c.as_slice-step-items.ensures in
    let table = c.loop-i.values in
    ap number c.at.ensures ∙ sym (at_map number table _ c.absent.result)
    ∙ ap (get_or (map number table) _) c.absent.ensures
    ∙ ap (λ k. get_or (map number table) k g.W.Worth.absent) c.saturating_sub.ensures
    ∙ ap (λ k. get_or (map number table) (k - 1) g.W.Worth.absent) c.len.ensures.length
    ∙ last_value m value steps g.W.Worth.absent c.loop-i.i (map number table) (c.loop-i.invariant.1 value values goes) (omega arith) f says
