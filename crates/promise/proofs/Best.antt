-- The heart of the matter, for any kind of formulas, key and candidates that keep what is asked here: a formula whose key is not
-- in the bank is no lighter than some candidate whose key is not in the bank, and one of the level's weight has a candidate of
-- its own key.
use Rattle.std.proofs.Common.{◌≡◌, ℕ, ◌<◌, ◌≤◌, ◌⊎◌, List, [], map, sym, refl, subst, inl, inr, arith}
use Rattle.measures.specs.Measures.{NoHeavier, beyond}
use Rattle.formulas.specs.Setting.{Setting}
use Rattle.formulas.specs.Formula.{Formula, Formulas, channel, operator, nil, cons, count, formulas_in, weight, all_weighed}
use Rattle.search.specs.Lists.{In, here, there, dec_in}
use Rattle.search.proofs.Lists.{in_none, in_split}
use Rattle.promise.proofs.Lists.{in_map, in_map_back, in_each}
use Rattle.promise.proofs.Search.{choices, Fresh}

-- ── formulas over the same keys ──

abbrev pub Same : {K : Type 0} → (Formula → K) → Formulas → Formulas → Type 0
Same key nil nil = Unit {0}
Same key nil (cons g gs) = ⊥
Same key (cons f fs) nil = ⊥
Same key (cons f fs) (cons g gs) = (key f ≡ key g) × Same key fs gs

abbrev pub All : (Formula → Type 0) → Formulas → Type 0
All Ok fs = (x : Formula) → In x (formulas_in fs) → Ok x

abbrev pub args : Formula → List Formula
args (channel i) = []
args (operator k fs) = formulas_in fs

-- what is asked of the formulas that are looked at, their keys and their weights
pub record Forming {K : Type 0} (E : Setting) (Ok : Formula → Type 0) (key : Formula → K) : Type 0 where
  pub least : (f : Formula) → Ok f → 1 ≤ weight E f
  pub argument : (k : ℕ) (fs : Formulas) → Ok (operator k fs) → All Ok fs
  -- the keys of the arguments fix the result's key
  pub fixed : (k : ℕ) (fs gs : Formulas) → Same key fs gs → key (operator k fs) ≡ key (operator k gs)
  -- lighter arguments of the same keys make the result no heavier
  pub lighter : (k : ℕ) (fs gs : Formulas) → Ok (operator k gs) → All Ok fs → Same key fs gs → NoHeavier (all_weighed E.measure fs) (all_weighed E.measure gs) → weight E (operator k fs) ≤ weight E (operator k gs)
  -- no argument is heavier than the result, and none that is not beyond is as heavy
  pub above : (k : ℕ) (fs : Formulas) → Ok (operator k fs) → (g : Formula) → In g (formulas_in fs) → weight E g ≤ weight E (operator k fs)
  pub strictly : (k : ℕ) (fs : Formulas) → Ok (operator k fs) → (g : Formula) → In g (formulas_in fs) → weight E g < beyond → weight E g < weight E (operator k fs)

-- what is asked of the candidates over a bank
pub record Complete {K : Type 0} (Ok : Formula → Type 0) (key : Formula → K) (bank cands : List Formula) : Type 0 where
  pub channels : (i : ℕ) → Ok (channel i) → In (channel i) cands
  -- whether an operator may be formed over arguments goes by their keys alone
  pub operators : (k : ℕ) (fs gs : Formulas) → Ok (operator k gs) → In fs (choices (count gs) bank) → Same key fs gs → In (operator k fs) cands
  pub formed : (c : Formula) → In c cands → ((x : Formula) → In x bank → Ok x) → Ok c
  pub from : (c : Formula) → In c cands → (x : Formula) → In x (args c) → In x bank

-- w is no greater than the weight of a candidate whose key is not in the bank
abbrev pub Lowest : {K : Type 0} → Setting → (Formula → K) → List Formula → List Formula → ℕ → Type 0
Lowest E key bank cands w = (c : Formula) → In c cands → Fresh key bank c → w ≤ weight E c

-- a candidate of weight w with the key of g
pub record Own {K : Type 0} (E : Setting) (key : Formula → K) (cands : List Formula) (w : ℕ) (g : Formula) : Type 0 where
  pub by : Formula
  pub candidate : In by cands
  pub same : key by ≡ key g
  pub weighs : weight E by ≡ w

module _ (E : Setting) {K : Type 0} (same? : Discrete K) (Ok : Formula → Type 0) (key : Formula → K) (forming : Forming E Ok key) (bank cands : List Formula) (complete : Complete Ok key bank cands)
    (all-ok : (f : Formula) → In f bank → Ok f) (best : (f g : Formula) → In f bank → Ok g → key g ≡ key f → weight E f ≤ weight E g) where
  record Lighter (w : ℕ) : Type 0 where
    by : Formula
    candidate : In by cands
    fresh : Fresh key bank by
    light : weight E by ≤ w

  -- an argument for which there is such a candidate
  record Blocked (gs : Formulas) : Type 0 where
    at : Formula
    standing : In at (formulas_in gs)
    lighter-one : Lighter (weight E at)

  -- arguments from the bank in place of these
  record Replaced (gs : Formulas) : Type 0 where
    with : Formulas
    chosen : In with (choices (count gs) bank)
    ok : All Ok with
    same : Same key with gs
    below : NoHeavier (all_weighed E.measure with) (all_weighed E.measure gs)

  record Standing (w : ℕ) (g : Formula) : Type 0 where
    by : Formula
    banked : In by bank
    same : key by ≡ key g
    light : weight E by ≤ w

  stands : (g : Formula) → Ok g → In (key g) (map key bank) → Standing (weight E g) g
  stands g ok h =
      let r = in_map_back key bank h in
      record { by = r.0; banked = r.1; same = sym r.2; light = best r.0 g r.1 ok r.2 }

  -- the candidate over the bank's formulas in place of the arguments
  swapped : (k : ℕ) (gs : Formulas) → Ok (operator k gs) → (r : Replaced gs) → In (operator k r.with) cands
  swapped k gs ok r = complete.operators k r.with gs ok r.chosen r.same

  swapped_key : (k : ℕ) (gs : Formulas) → (r : Replaced gs) → key (operator k r.with) ≡ key (operator k gs)
  swapped_key k gs r = forming.fixed k r.with gs r.same

  swapped_light : (k : ℕ) (gs : Formulas) → Ok (operator k gs) → (r : Replaced gs) → weight E (operator k r.with) ≤ weight E (operator k gs)
  swapped_light k gs ok r = forming.lighter k r.with gs ok r.ok r.same r.below

  swapped_fresh : (k : ℕ) (gs : Formulas) → Fresh key bank (operator k gs) → (r : Replaced gs) → Fresh key bank (operator k r.with)
  swapped_fresh k gs fresh r h = fresh (subst (λ x. In x (map key bank)) (swapped_key k gs r) h)

  lighter_app : (k : ℕ) (gs : Formulas) → Ok (operator k gs) → Fresh key bank (operator k gs) → Replaced gs ⊎ Blocked gs → Lighter (weight E (operator k gs))
  lighter_app k gs ok fresh (inl r) = record { by = operator k r.with; candidate = swapped k gs ok r; fresh = swapped_fresh k gs fresh r; light = swapped_light k gs ok r }
  lighter_app k gs ok fresh (inr b) =
      let l = b.lighter-one in
      let m = forming.above k gs ok b.at b.standing in
      let n = l.light in
      record { by = l.by; candidate = l.candidate; fresh = l.fresh; light = omega arith }

  one_more : (g : Formula) (gs : Formulas) → Standing (weight E g) g → Replaced gs → Replaced (cons g gs)
  unfolding choices
  one_more g gs s r = record {
    with = cons s.by r.with;
    chosen = in_each (λ f. map (cons f) (choices (count gs) bank)) s.banked (in_map (cons s.by) r.chosen);
    ok = λ x h. in_split (λ e. subst Ok (sym e) (all-ok s.by s.banked)) (r.ok x) h;
    same = (s.same, r.same);
    below = (s.light, r.below);
  }

  replaced_more : (g : Formula) (gs : Formulas) → Ok g → Dec (In (key g) (map key bank)) → (Fresh key bank g → Lighter (weight E g)) → Replaced gs ⊎ Blocked gs → Replaced (cons g gs) ⊎ Blocked (cons g gs)
  replaced_more g gs ok (yes h) l (inl r) = inl (one_more g gs (stands g ok h) r)
  replaced_more g gs ok (yes h) l (inr b) = inr (record { at = b.at; standing = there b.standing; lighter-one = b.lighter-one })
  replaced_more g gs ok (no n) l t = inr (record { at = g; standing = here refl; lighter-one = l n })

  replaced_none : Replaced nil
  unfolding choices
  replaced_none = record { with = nil; chosen = here refl; ok = λ x h. in_none h; same = tt; below = tt }

  mutual
    lighter : (g : Formula) → Ok g → Fresh key bank g → Lighter (weight E g)
    lighter (channel i) ok fresh = record { by = channel i; candidate = complete.channels i ok; fresh = fresh; light = omega arith }
    lighter (operator k gs) ok fresh = lighter_app k gs ok fresh (replaced gs (forming.argument k gs ok))

    replaced : (gs : Formulas) → All Ok gs → Replaced gs ⊎ Blocked gs
    replaced nil ok = inl replaced_none
    replaced (cons g gs) ok = replaced_more g gs (ok g (here refl)) (dec_in same? (key g) (map key bank)) (lighter g (ok g (here refl))) (replaced gs (λ x h. ok x (there h)))

  -- ── the level ──

  pub level_below : (w : ℕ) → Lowest E key bank cands w → (g : Formula) → Ok g → Fresh key bank g → w ≤ weight E g
  level_below w low g ok fresh =
      let l = lighter g ok fresh in
      let a = low l.by l.candidate l.fresh in
      let b = l.light in
      omega arith

  own_app : (w : ℕ) → Lowest E key bank cands w → w < beyond → (k : ℕ) (gs : Formulas) → Ok (operator k gs) → Fresh key bank (operator k gs) → weight E (operator k gs) ≤ w → Replaced gs ⊎ Blocked gs → Own E key cands w (operator k gs)
  own_app w low small k gs ok fresh light (inl r) =
      let a = low (operator k r.with) (swapped k gs ok r) (swapped_fresh k gs fresh r) in
      let b = swapped_light k gs ok r in
      record { by = operator k r.with; candidate = swapped k gs ok r; same = swapped_key k gs r; weighs = omega arith }
  own_app w low small k gs ok fresh light (inr b) =
      let l = b.lighter-one in
      let a = low l.by l.candidate l.fresh in
      let c = l.light in
      let m = forming.above k gs ok b.at b.standing in
      let s = forming.strictly k gs ok b.at b.standing (omega arith) in
      absurd (omega arith)

  -- a formula of the level's weight whose key is not in the bank has a candidate of that weight with its key
  pub level_own : (w : ℕ) → Lowest E key bank cands w → w < beyond → (g : Formula) → Ok g → Fresh key bank g → weight E g ≤ w → Own E key cands w g
  level_own w low small (channel i) ok fresh light =
      let c = complete.channels i ok in
      let a = low (channel i) c fresh in
      record { by = channel i; candidate = c; same = refl; weighs = omega arith }
  level_own w low small (operator k gs) ok fresh light = own_app w low small k gs ok fresh light (replaced gs (forming.argument k gs ok))
