use Rattle.std.proofs.Common.{◌≡◌, ℕ, ◌<◌, List, [], ◌∷◌, ◌++◌, map, length, IfOk, Some, None, Option, sym, ap, ◌∙◌, subst, arith}
use Rattle.std.specs.List.{range_with_len}
use Rattle.std.proofs.lemmas.List.FromFn.{length-map-range_with_len, map-range_with_len_more}
use Rattle.std.proofs.lemmas.Result.{err_from_is_err_and}
use Rattle.refusals.specs.Numbers.{record_refusal, refused_by}
use Rattle.formulas.specs.Steps.{listed}
use Rattle.formulas.specs.declared.steps.Step.{Step}
use Rattle.formulas.specs.Steps.{Steps}
use Rattle.records.specs.Bytes.{steps_in, step_at, steps_of}
use Rattle.records.specs.Reading.{step_refusal, steps_refusal}
use Rattle.fixed.proofs.Lengths.{listed-length, pushed}
use Rattle.records.proofs.Lawfulness.{first_more, first_stays, size_passes}
use Rattle.records.proofs.read.read_steps.Goals as goal

pub returns-in_err-check_step : goal.returns-in_err-check_step
returns-in_err-check_step g c =
    let m = g.S.OperatorSet.meaning c.args.set.now in
    let k = c.args.channels.value in
    let bytes = c.args.bytes.now in
    let i = c.loop-i.i in
    let p = err_from_is_err_and c.from_residual-in_err-check_step.result c.from_residual-in_err-check_step.ensures.1 in
    let f : ℕ → Option (ℕ × ℕ) = λ j. step_refusal m k j (step_at bytes j) in
    let same : c.in_ok-record.record.bytes.now ≡ bytes = c.in_ok-record.ensures.same in
    let n : c.in_ok-record.record.count ≡ steps_in bytes = c.in_ok-record.record.counted ∙ ap steps_in same in
    let here : c.step-step.result ≡ step_at bytes i = c.step-step.ensures ∙ ap (λ b. step_at b i) same in
    let t = c.loop-i-test.true in
    let l : i < steps_in bytes = omega arith in
    let fails : f i ≡ Some (record_refusal c.in_err-check_step.field-0.0) = ap (step_refusal m k i) (sym here) ∙ sym c.in_err-check_step.ensures in
    let whole = size_passes bytes (steps_refusal m k bytes (steps_in bytes)) (sym c.in_ok-record.ensures.refused) ∙ first_stays f (steps_in bytes) i (record_refusal c.in_err-check_step.field-0.0) c.loop-i.invariant.1 fails l in
    record {
      refused = ap (refused_by record_refusal) p.1 ∙ ap (λ e. Some (record_refusal e)) p.2 ∙ sym whole;
      steps = subst (λ r. IfOk r (λ (s : Steps). listed s ≡ steps_of bytes)) (sym p.1) tt;
    }

pub loop-i-preserved : goal.loop-i-preserved
loop-i-preserved g c =
    let m = g.S.OperatorSet.meaning c.args.set.now in
    let k = c.args.channels.value in
    let bytes = c.args.bytes.now in
    let i = c.loop-i.i in
    let f : ℕ → Option (ℕ × ℕ) = λ j. step_refusal m k j (step_at bytes j) in
    let same : c.in_ok-record.record.bytes.now ≡ bytes = c.in_ok-record.ensures.same in
    let here : c.step-step.result ≡ step_at bytes i = c.step-step.ensures ∙ ap (λ b. step_at b i) same in
    let few = c.in_ok-record.record.few in
    let t = c.loop-i-test.true in
    let count : c.loop-i.steps.count ≡ i = sym (listed-length c.loop-i.steps) ∙ ap length c.loop-i.invariant.0 ∙ length-map-range_with_len (step_at bytes) 0 i in
    let passes : f i ≡ None = ap (step_refusal m k i) (sym here) ∙ sym c.in_ok-check_step.ensures in (
      pushed c.loop-i.steps c.push.new.self c.step-step.result _ c.push.ensures.room c.push.ensures.values (omega arith)
          ∙ ap (λ (l : List Step). l ++ c.step-step.result ∷ []) c.loop-i.invariant.0
          ∙ ap (λ (s : Step). map (step_at bytes) (range_with_len 0 i) ++ s ∷ []) here
          ∙ sym (map-range_with_len_more (step_at bytes) 0 i i (omega arith)),
      first_more f i c.loop-i.invariant.1 ∙ passes,
    )
