-- One candidate: what it does to the level that is looked for, and to the one that is built.
use Rattle.std.proofs.Common.{◌≡◌, ℕ, ◌<◌, ◌≤◌, Bool, true, false, List, [], ◌∷◌, Some, None, sym, refl, ap, ◌∙◌, subst, ap₂, arith}
use native.Mathlib.Decide.{dec_lt, ℕ_discrete}
use Rattle.formulas.specs.Setting.{Setting}
use Rattle.rows.specs.Rows.{StandingRow, wanted_of}
use Rattle.search.specs.Lists.{In, choose}
use Rattle.search.specs.Places.{Candidate, Place}
use Rattle.search.specs.Stored.{column_of, weight_of, place_of, columns_in, Known, dec_known, lower, Held, Fit, dec_fit, grown, kept, offered, build, last_weight, Looked}
use Rattle.search.proofs.Lists.{choose-by, choose_yes, choose_no, at_in}

module _ (E : Setting) (rows : List StandingRow) (ps : List Place) (t : Candidate) where
  -- a column that was looked for: x is the candidate's
  pub known : (x : List ℕ) (i : ℕ) → x ≡ column_of E rows ps t → Looked (columns_in ps) x (Some i) → Known E rows ps t
  known x i e l = at_in (column_of E rows ps t) (columns_in ps) i [] l.0 (l.1 ∙ e)

  pub unknown : (x : List ℕ) → x ≡ column_of E rows ps t → Looked (columns_in ps) x None → Known E rows ps t → ⊥
  unknown x e l k = l (subst (λ c. In c (columns_in ps)) (sym e) k)

  pub lower-known : (b : ℕ) → Known E rows ps t → b ≡ lower E rows ps b t
  unfolding lower
  lower-known b k =
      choose-by {A = ℕ} (λ v. b ≡ v) (dec_lt (last_weight ps) (weight_of E ps t))
      (λ _. choose-by {A = ℕ} (λ v. b ≡ v) (dec_lt (weight_of E ps t) b) (λ l. sym (choose_yes (dec_known E rows ps t) b (weight_of E ps t) k)) (λ l. refl))
      (λ _. refl)

  pub lower-new : (b w l : ℕ) → w ≡ weight_of E ps t → l ≡ last_weight ps → l < w → w < b → (Known E rows ps t → ⊥) → w ≡ lower E rows ps b t
  unfolding lower
  lower-new b w l e le a c k =
      e ∙ sym (choose_yes (dec_lt (last_weight ps) (weight_of E ps t)) _ b (omega arith)
      ∙ choose_yes (dec_lt (weight_of E ps t) b) _ b (omega arith) ∙ choose_no (dec_known E rows ps t) b (weight_of E ps t) k)

  pub lower_not : (b w : ℕ) → w ≡ weight_of E ps t → b ≤ w → b ≡ lower E rows ps b t
  unfolding lower
  lower_not b w e l =
      choose-by {A = ℕ} (λ v. b ≡ v) (dec_lt (last_weight ps) (weight_of E ps t))
      (λ _. sym (choose_no (dec_lt (weight_of E ps t) b) _ b (λ q. omega arith)))
      (λ _. refl)

  pub lower_last : (b w l : ℕ) → w ≡ weight_of E ps t → l ≡ last_weight ps → w ≤ l → b ≡ lower E rows ps b t
  unfolding lower
  lower_last b w l e le a = sym (choose_no (dec_lt (last_weight ps) (weight_of E ps t)) _ b (λ q. omega arith))

module _ (E : Setting) (rows : List StandingRow) (w : ℕ) (h : Held) (t : Candidate) where
  pub offered-other : (v : ℕ) → v ≡ weight_of E h.places t → (v ≡ w → ⊥) → (false, h) ≡ offered E rows w h t
  unfolding offered kept
  offered-other v e n =
      let m : weight_of E h.places t ≡ w → ⊥ = λ q. n (e ∙ q) in
      ap (λ (k : Held). (false, k)) (sym (choose_no (ℕ_discrete (weight_of E h.places t) w) _ h m)) ∙ sym (choose_no (dec_fit E rows w h.places t) _ _ (λ f. m f.0))

  pub offered-fits : (v : ℕ) (x : List ℕ) → v ≡ weight_of E h.places t → v ≡ w → x ≡ column_of E rows h.places t → x ≡ wanted_of rows → (true, h) ≡ offered E rows w h t
  unfolding offered
  offered-fits v x e f g i = sym (choose_yes (dec_fit E rows w h.places t) _ _ (sym e ∙ f, sym g ∙ i))

  offered-kept : (v : ℕ) (x : List ℕ) → v ≡ weight_of E h.places t → v ≡ w → x ≡ column_of E rows h.places t → (x ≡ wanted_of rows → ⊥) → (q : Held) → q ≡ choose (dec_known E rows h.places t) h (grown h (place_of E rows h.places t)) → (false, q) ≡ offered E rows w h t
  unfolding offered kept
  offered-kept v x e f g i q k =
      ap (λ (k : Held). (false, k)) (k ∙ sym (choose_yes (ℕ_discrete (weight_of E h.places t) w) _ h (sym e ∙ f))) ∙ sym (choose_no (dec_fit E rows w h.places t) _ _ (λ z. i (g ∙ z.1)))

  pub offered-known : (v : ℕ) (x : List ℕ) → v ≡ weight_of E h.places t → v ≡ w → x ≡ column_of E rows h.places t → (x ≡ wanted_of rows → ⊥) → Known E rows h.places t → (false, h) ≡ offered E rows w h t
  offered-known v x e f g i k = offered-kept v x e f g i h (sym (choose_yes (dec_known E rows h.places t) h _ k))

  pub offered-new : (v : ℕ) (x : List ℕ) → v ≡ weight_of E h.places t → v ≡ w → x ≡ column_of E rows h.places t → (x ≡ wanted_of rows → ⊥) → (Known E rows h.places t → ⊥) → (q : Held) → q ≡ grown h (record { top = t; column = x; weight = v }) → (false, q) ≡ offered E rows w h t
  offered-new v x e f g i k q z =
      offered-kept v x e f g i q (z ∙ ap₂ (λ (a : ℕ) (c : List ℕ). grown h (record { top = t; column = c; weight = a })) e g ∙ sym (choose_no (dec_known E rows h.places t) h _ k))

-- ── the building, past a candidate and at one that fits ──

module _ (E : Setting) (rows : List StandingRow) (w : ℕ) (h q : Held) (t : Candidate) (rest : List Candidate) where
  pub build-past : (b : Bool) → b ≡ false → (b, q) ≡ offered E rows w h t → build E rows w q rest ≡ build E rows w h (t ∷ rest)
  unfolding offered
  build-past b is e = go (dec_fit E rows w h.places t) (ap (λ (v : Bool). (v, q)) (sym is) ∙ e)
    where
      go : (d : Dec (Fit E rows w h.places t)) → ◌≡◌ {A = Bool × Held} (false, q) (choose d (true, h) (false, kept E rows w h t)) → build E rows w q rest ≡ choose d (Some t, h) (build E rows w (kept E rows w h t) rest)
      go (yes f) e = absurd (let z : false ≡ true = ap (λ p. p.0) e in let y : ◌≡◌ {A = ℕ} 0 1 = cc in omega arith)
      go (no f) e = ap (λ p. build E rows w p.1 rest) e

  pub build_hit : (b : Bool) → b ≡ true → (b, q) ≡ offered E rows w h t → (Some t, q) ≡ build E rows w h (t ∷ rest)
  unfolding offered
  build_hit b is e = go (dec_fit E rows w h.places t) (ap (λ (v : Bool). (v, q)) (sym is) ∙ e)
    where
      go : (d : Dec (Fit E rows w h.places t)) → ◌≡◌ {A = Bool × Held} (true, q) (choose d (true, h) (false, kept E rows w h t)) → (Some t, q) ≡ choose d (Some t, h) (build E rows w (kept E rows w h t) rest)
      go (yes f) e = ap (λ p. (Some t, p.1)) e
      go (no f) e = absurd (let z : true ≡ false = ap (λ p. p.0) e in let y : ◌≡◌ {A = ℕ} 0 1 = cc in omega arith)
