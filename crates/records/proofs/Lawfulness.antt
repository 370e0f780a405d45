-- A record is read exactly where it is lawful, and then it says one formula.
use Rattle.std.proofs.Common.{◌≡◌, ℕ, zero, suc, ◌+◌, ◌<◌, ◌≤◌, Bool, true, false, cond, ◌||◌, eqb, ltb, ◌⊎◌, List, length, Some, None, Option, sym, refl, ap, ◌∙◌, subst, inl, inr, arith}
use Rattle.std.proofs.lemmas.Bool.{ltb-true, ltb-false, lt-ltb, le-ltb, eqb-true, eq-eqb, and_parts, and_from, or_parts, or_from, cond-true, cond-false, cases_lt}
use Rattle.std.proofs.lemmas.List.FromFn.{length-map-range_with_len, get_or-map-range_with_len}
use Rattle.operators.specs.Bands.{most_arguments, SetMeaning, SetLaws}
use Rattle.formulas.specs.Says.{argument_of, top_arity, Known, LawfulStep, LawfulSteps, no_step, step_of}
use Rattle.formulas.specs.declared.steps.Step.{Step}
use Rattle.formulas.specs.declared.steps.Top.{Top}
use Rattle.formulas.specs.declared.steps.Top.TheVariants.{Channel, Operator}
use Rattle.formulas.proofs.Saying.{lawful_steps_say_one}
use Rattle.records.specs.Size.{record_size}
use Rattle.records.specs.Bytes.{steps_in, step_at, steps_of}
use Rattle.records.specs.Record.{Lawful, SaysOneFormula}
use Rattle.records.specs.Reading.{or_else, first_below, all_below, argument_fits, arguments_fit, known_top, step_refusal, steps_refusal, size_refusal, bytes_refusal}

-- ── the first below ──

module _ {X : Type 0} (f : ℕ → Option X) where
  or_none : (a b : Option X) → or_else a b ≡ None → (a ≡ None) × (b ≡ None)
  or_none None b e = (refl, e)
  or_none (Some x) b e = let z : ◌≡◌ {A = ℕ} 0 1 = cc in absurd (omega arith)

  or_first : (a b : Option X) → a ≡ None → or_else a b ≡ b
  or_first None b e = refl
  or_first (Some x) b e = let z : ◌≡◌ {A = ℕ} 0 1 = cc in absurd (omega arith)

  or_some : (a b : Option X) (x : X) → a ≡ Some x → or_else a b ≡ Some x
  or_some (Some y) b x e = e
  or_some None b x e = let z : ◌≡◌ {A = ℕ} 0 1 = cc in absurd (omega arith)

  pub first_more : (n : ℕ) → first_below f n ≡ None → first_below f (n + 1) ≡ f n
  first_more n e = ap (first_below f) (one n) ∙ or_first (first_below f n) (f n) e
    where
      one : (k : ℕ) → k + 1 ≡ suc k
      one k = omega arith

  at_last : (n i : ℕ) → i < suc n → (i < n) ⊎ (i ≡ n)
  at_last n i l = elim (cases_lt i n) [ inl h ↦ inl h | inr h ↦ inr (omega arith) ]

  -- what comes first among some comes first among more
  pub first_stays : (n i : ℕ) (x : X) → first_below f i ≡ None → f i ≡ Some x → i < n → first_below f n ≡ Some x
  first_stays zero i x e k l = absurd (omega arith)
  first_stays (suc n) i x e k l = elim (at_last n i l) [
    | inl h ↦ or_some (first_below f n) (f n) x (first_stays n i x e k h)
    | inr h ↦ or_first (first_below f n) (f n) (subst (λ m. first_below f m ≡ None) h e) ∙ subst (λ m. f m ≡ Some x) h k
  ]

  none_below : (n : ℕ) → first_below f n ≡ None → (i : ℕ) → i < n → f i ≡ None
  none_below zero e i l = absurd (omega arith)
  none_below (suc n) e i l = elim (at_last n i l) [
    | inl h ↦ none_below n (or_none (first_below f n) (f n) e).0 i h
    | inr h ↦ subst (λ m. f m ≡ None) (sym h) (or_none (first_below f n) (f n) e).1
  ]

  all_none : (n : ℕ) → ((i : ℕ) → i < n → f i ≡ None) → first_below f n ≡ None
  all_none zero h = refl
  all_none (suc n) h = or_first (first_below f n) (f n) (all_none n (λ i l. h i (omega arith))) ∙ h n (omega arith)

module _ (p : ℕ → Bool) where
  each_below : (n : ℕ) → all_below p n ≡ true → (j : ℕ) → j < n → p j ≡ true
  each_below zero e j l = absurd (omega arith)
  each_below (suc n) e j l = elim (at_last {X = ℕ} (λ i. None) n j l) [
    | inl h ↦ each_below n (and_parts (all_below p n) (p n) e).0 j h
    | inr h ↦ subst (λ m. p m ≡ true) (sym h) (and_parts (all_below p n) (p n) e).1
  ]

  from_each : (n : ℕ) → ((j : ℕ) → j < n → p j ≡ true) → all_below p n ≡ true
  from_each zero h = refl
  from_each (suc n) h = and_from (all_below p n) (p n) (from_each n (λ j l. h j (omega arith))) (h n (omega arith))

-- ── one step ──

none-some : {X : Type 0} {x : X} → Some x ≡ None → ⊥
none-some e = let z : ◌≡◌ {A = ℕ} 0 1 = cc in omega arith

both_true : {X : Type 0} (a b : Bool) (x y : X) → cond a (cond b None (Some x)) (Some y) ≡ None → (a ≡ true) × (b ≡ true)
both_true true true x y e = (refl, refl)
both_true true false x y e = absurd (none-some e)
both_true false b x y e = absurd (none-some e)

module _ (m : SetMeaning) (laws : SetLaws m) (channels : ℕ) where
  known_from : (t : Top) → known_top m channels t ≡ true → Known m channels t
  known_from (Channel i) e = ltb-true i channels e
  known_from (Operator k) e = ltb-true k m.count e

  known_true : (t : Top) → Known m channels t → known_top m channels t ≡ true
  known_true (Channel i) h = lt-ltb i channels h
  known_true (Operator k) h = lt-ltb k m.count h

  narrow-top : (t : Top) → top_arity m t ≤ most_arguments
  narrow-top (Channel i) = omega arith
  narrow-top (Operator k) = laws.narrow k

  step-lawful : (i : ℕ) (s : Step) → step_refusal m channels i s ≡ None → LawfulStep m channels i s
  step-lawful i s e =
      let arity : ℕ = top_arity m s.top in
      let b = both_true (known_top m channels s.top) (arguments_fit arity i s) (18, i) (17, i) e in
      let fits : (j : ℕ) → j < most_arguments → argument_fits (ltb j arity) i (argument_of s j) ≡ true = each_below (λ j. argument_fits (ltb j arity) i (argument_of s j)) most_arguments b.1 in
      let n = narrow-top s.top in
      record {
        known = known_from s.top b.0;
        used_is_earlier = λ j l. ltb-true (argument_of s j) i (sym (ap (λ u. argument_fits u i (argument_of s j)) (lt-ltb j arity l)) ∙ fits j (omega arith));
        unused_is_0 = λ j l h. eqb-true (argument_of s j) 0 (sym (ap (λ u. argument_fits u i (argument_of s j)) (le-ltb j arity l)) ∙ fits j h);
      }

  step_passes : (i : ℕ) (s : Step) → LawfulStep m channels i s → step_refusal m channels i s ≡ None
  step_passes i s l =
      let arity : ℕ = top_arity m s.top in
      let fit : arguments_fit arity i s ≡ true = from_each (λ j. argument_fits (ltb j arity) i (argument_of s j)) most_arguments (λ j h. elim (cases_lt j arity) [
        | inl u ↦ ap (λ v. argument_fits v i (argument_of s j)) (lt-ltb j arity u) ∙ lt-ltb (argument_of s j) i (l.used_is_earlier j u)
        | inr u ↦ ap (λ v. argument_fits v i (argument_of s j)) (le-ltb j arity u) ∙ eq-eqb (argument_of s j) 0 (l.unused_is_0 j u h)
      ]) in
      ap (λ v. cond v (cond (arguments_fit arity i s) None (Some (18, i))) (Some (17, i))) (known_true s.top l.known)
      ∙ ap (λ v. cond v None (Some (18, i))) fit

-- ── the size ──

passed : {X : Type 0} (a b c : Bool) (x y z : X) (o : Option X) → cond a (Some x) (cond b (Some y) (cond c None (Some z))) ≡ None → cond a (Some x) (cond b (Some y) (cond c o (Some z))) ≡ o
passed true b c x y z o e = absurd (none-some e)
passed false true c x y z o e = absurd (none-some e)
passed false false true x y z o e = refl
passed false false false x y z o e = absurd (none-some e)

pub size_passes : (bytes : List ℕ) (o : Option (ℕ × ℕ)) → size_refusal bytes None ≡ None → size_refusal bytes o ≡ o
size_passes bytes o e =
    passed (ltb (length bytes) 2) (ltb (steps_in bytes) 1 || ltb 513 (steps_in bytes)) (eqb (length bytes) (record_size (steps_in bytes))) (15, 0) (16, 0) (15, 0) o e

sized : {X : Type 0} (a b c : Bool) (x y z : X) (o : Option X) → cond a (Some x) (cond b (Some y) (cond c o (Some z))) ≡ None → (a ≡ false) × (b ≡ false) × (c ≡ true) × (o ≡ None)
sized true b c x y z o e = absurd (none-some e)
sized false true c x y z o e = absurd (none-some e)
sized false false true x y z o e = (refl, refl, refl, e)
sized false false false x y z o e = absurd (none-some e)

unsized : {X : Type 0} (a b c : Bool) (x y z : X) (o : Option X) → a ≡ false → b ≡ false → c ≡ true → cond a (Some x) (cond b (Some y) (cond c o (Some z))) ≡ o
unsized a b c x y z o p q r = cond-false a (Some x) (cond b (Some y) (cond c o (Some z))) p ∙ cond-false b (Some y) (cond c o (Some z)) q ∙ cond-true c o (Some z) r

-- ── the whole record ──

module _ (m : SetMeaning) (laws : SetLaws m) (channels : ℕ) (bytes : List ℕ) where
  step_check : ℕ → Option (ℕ × ℕ)
  step_check i = step_refusal m channels i (step_at bytes i)

  pub read_is_lawful : bytes_refusal m channels bytes ≡ None → Lawful m channels bytes
  read_is_lawful e =
      let s = sized (ltb (length bytes) 2) (ltb (steps_in bytes) 1 || ltb 513 (steps_in bytes)) (eqb (length bytes) (record_size (steps_in bytes))) (15, 0) (16, 0) (15, 0) (steps_refusal m channels bytes (steps_in bytes)) e in
      let o = or_parts (ltb (steps_in bytes) 1) (ltb 513 (steps_in bytes)) s.1 in
      record {
        least = ltb-false (steps_in bytes) 1 o.0;
        most = ltb-false 513 (steps_in bytes) o.1;
        long = eqb-true (length bytes) (record_size (steps_in bytes)) s.2;
        steps = λ i l. step-lawful m laws channels i (step_at bytes i) (none_below (λ i. step_refusal m channels i (step_at bytes i)) (steps_in bytes) s.3 i l);
      }

  pub lawful_is_read : Lawful m channels bytes → bytes_refusal m channels bytes ≡ None
  lawful_is_read l =
      let least = l.least in
      let most = l.most in
      let long = l.long in
      unsized (ltb (length bytes) 2) (ltb (steps_in bytes) 1 || ltb 513 (steps_in bytes)) (eqb (length bytes) (record_size (steps_in bytes))) (15, 0) (16, 0) (15, 0) (steps_refusal m channels bytes (steps_in bytes))
      (le-ltb (length bytes) 2 (omega arith))
      (or_from (ltb (steps_in bytes) 1) (ltb 513 (steps_in bytes)) (le-ltb (steps_in bytes) 1 (omega arith)) (le-ltb 513 (steps_in bytes) (omega arith)))
      (eq-eqb (length bytes) (record_size (steps_in bytes)) long)
      ∙ all_none (λ i. step_refusal m channels i (step_at bytes i)) (steps_in bytes) (λ i h. step_passes m laws channels i (step_at bytes i) (l.steps i h))

  pub lawful_steps_of : Lawful m channels bytes → LawfulSteps m channels (steps_of bytes)
  lawful_steps_of l =
      let least = l.least in
      let most = l.most in
      let n : length (steps_of bytes) ≡ steps_in bytes = length-map-range_with_len (step_at bytes) 0 (steps_in bytes) in
      let at : (i : ℕ) → i < length (steps_of bytes) → step_of (steps_of bytes) i ≡ step_at bytes i = λ i h. get_or-map-range_with_len (step_at bytes) 0 (steps_in bytes) i i no_step (omega arith) (omega arith) in
      record {
        least = omega arith;
        most = omega arith;
        wide = λ i h. ap (λ (s : Step). length s.args) (at i h);
        each = λ i h. subst (λ s. LawfulStep m channels i s) (sym (at i h)) (l.steps i (omega arith));
      }

  pub lawful-says-one : Lawful m channels bytes → SaysOneFormula m channels bytes
  lawful-says-one l =
      let o = lawful_steps_say_one m channels (steps_of bytes) (lawful_steps_of l) in
      record { formula = o.formula; formed = o.formed; says = o.says; only = o.only }
