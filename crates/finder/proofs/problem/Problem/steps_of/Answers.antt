use Rattle.std.proofs.Common.{rules, ◌≡◌, ◌+◌, ◌<◌, ◌≤◌, [], ◌∷◌, ◌++◌, List, length, map, sym, ap, ap₂, ◌∙◌, ◌⊎◌, inl, inr, arith}
use Rattle.search.specs.Marks.{marked_steps, renumbered, steps_of, used_marks}
use Rattle.finder.specs.View.{bank_seen, candidate_seen, place_seen}
use Rattle.finder.specs.Whole.{step_seen, steps_seen}
use Rattle.finder.specs.declared.bank.Place.{Place}
use Rattle.formulas.specs.declared.steps.Step.{Step}
use Rattle.fixed.specs.Listed.{listed}
use Rattle.fixed.proofs.Lengths.{listed-length}
use Rattle.finder.proofs.Listing.{pushed_count, pushed_seen, put_one, passed_one, left_over}
use Rattle.finder.proofs.problem.Problem.steps_of.Goals as goal

pub loop-place-init : goal.loop-place-init
loop-place-init g c =
    let f = c.args.self.now in
    let m = g.S.OperatorSet.meaning f.set in
    let n = f.sheet.rows.count in
    let b = c.args.bank.now in
    let ps = bank_seen m n b in
    let u = used_marks ps (candidate_seen m c.args.candidate) in
    let gives = c.into_iter-place-iterator.ensures.into_iter_gives in
    let places : c.into_iter-place-iterator.result.a.rest.now ≡ listed b.places = ap (λ z. z.a.rest.now) gives ∙ ap (λ x. x.rest.now) c.zip-place-items.ensures.first ∙ c.iter.ensures.rest ∙ c.as_slice.ensures in
    let marks : c.into_iter-place-iterator.result.b.rest.now ≡ u = ap (λ z. z.b.rest.now) gives ∙ (search rules) ∙ c.marks_of-marks.ensures in
    let none = ap length c.empty-steps.ensures in
    let few = b.places.few in
    let empty = listed-length c.empty-steps.result in
    let all = ap length places ∙ listed-length b.places in
    let sum : c.empty-steps.result.count + length c.into_iter-place-iterator.result.a.rest.now ≤ 512 = omega arith in (
      sum,
      ap₂ (λ (s : List Step) (a : List Place). map (step_seen m) s ++ marked_steps u c.into_iter-place-iterator.result.b.rest.now (map (place_seen m n) a)) c.empty-steps.ensures places
          ∙ ap (λ v. marked_steps u v ps) marks,
    )

pub loop-place-preserved-then-used : goal.loop-place-preserved-then-used
loop-place-preserved-then-used g c =
    let f = c.args.self.now in
    let m = g.S.OperatorSet.meaning f.set in
    let n = f.sheet.rows.count in
    let b = c.args.bank.now in
    let ps = bank_seen m n b in
    let u = used_marks ps (candidate_seen m c.args.candidate) in
    let next = c.in-Some.ensures.steps in
    let less = ap length next.0 in
    let room : c.loop-place.steps.count < 513 = omega (arith, c.loop-place.invariant.0) in
    let one = pushed_count m c.loop-place.steps c.push.new.self c.step.result _ room c.push.ensures.room c.push.ensures.values in
    let bound = c.loop-place.invariant.0 in
    let sum : c.push.new.self.count + length c.next.new.self.a.rest.now ≤ 512 = omega arith in (
      sum,
      ap (λ xs. xs ++ marked_steps u c.next.new.self.b.rest.now (map (place_seen m n) c.next.new.self.a.rest.now))
          (pushed_seen m c.loop-place.steps c.push.new.self c.step.result _ room c.push.ensures.room c.push.ensures.values _ (c.step.ensures ∙ ap (λ w. renumbered w (place_seen m n c.in-Some.place.now).top) c.marks_of-marks.ensures))
          ∙ put_one m n u c.loop-place.place-iterator.b.rest.now c.next.new.self.b.rest.now c.in-Some.place.now c.loop-place.place-iterator.a.rest.now c.next.new.self.a.rest.now (steps_seen m c.loop-place.steps) next.0 (next.1 ∙ ap (λ t. t ∷ c.next.new.self.b.rest.now) c.if-used.true)
          ∙ c.loop-place.invariant.1,
    )

pub loop-place-preserved : goal.loop-place-preserved
loop-place-preserved g c =
    let f = c.args.self.now in
    let m = g.S.OperatorSet.meaning f.set in
    let n = f.sheet.rows.count in
    let b = c.args.bank.now in
    let ps = bank_seen m n b in
    let u = used_marks ps (candidate_seen m c.args.candidate) in
    let next = c.in-Some.ensures.steps in
    let less = ap length next.0 in
    let bound = c.loop-place.invariant.0 in
    let sum : c.loop-place.steps.count + length c.next.new.self.a.rest.now ≤ 512 = omega arith in (
      sum,
      passed_one m n u c.loop-place.place-iterator.b.rest.now c.next.new.self.b.rest.now c.in-Some.place.now c.loop-place.place-iterator.a.rest.now c.next.new.self.a.rest.now (steps_seen m c.loop-place.steps) next.0 (next.1 ∙ ap (λ t. t ∷ c.next.new.self.b.rest.now) c.if-used.false)
          ∙ c.loop-place.invariant.1,
    )

pub returns : goal.returns
unfolding steps_of
returns g c =
    let f = c.args.self.now in
    let m = g.S.OperatorSet.meaning f.set in
    let n = f.sheet.rows.count in
    let b = c.args.bank.now in
    let ps = bank_seen m n b in
    let t = candidate_seen m c.args.candidate in
    let u = used_marks ps t in
    let i = c.loop-place.place-iterator in
    let bound = c.loop-place.invariant.0 in
    let room : c.loop-place.steps.count < 513 = omega arith in
    let over : (length i.a.rest.now ≡ 0) ⊎ (length i.b.rest.now ≡ 0) = elim c.in-None.ensures.steps [
      | inl x ↦ inl x.1.0
      | inr x ↦ inr x.1.0
    ] in
    pushed_seen m c.loop-place.steps c.push-2.new.self c.step-2.result _ room c.push-2.ensures.room c.push-2.ensures.values _ (c.step-2.ensures ∙ ap (λ w. renumbered w t) c.marks_of-marks.ensures)
    ∙ ap (λ xs. xs ++ (renumbered u t ∷ [])) (sym (left_over m n u i.b.rest.now i.a.rest.now (steps_seen m c.loop-place.steps) over) ∙ c.loop-place.invariant.1)
