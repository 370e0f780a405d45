-- An advance on an open sheet, by its five rules.
use Rattle.std.proofs.Common.{◌≡◌, ℕ, ◌<◌, ◌≤◌, false, List, [], ◌∷◌, ◌++◌, length, take, Some, None, Option, sym, refl, ap, ◌∙◌, append_assoc, append-nil, arith}
use native.Mathlib.Decide.{dec_lt, ℕ_discrete}
use Rattle.std.proofs.lemmas.List.{take_at, length-append}
use Rattle.formulas.specs.Setting.{Setting}
use Rattle.rows.specs.Rows.{StandingRow}
use Rattle.search.specs.Places.{Candidate, Place, candidates}
use Rattle.search.specs.Stored.{most_places, Held, level_at, built, build, kept, dec_fit, dec_known, weight_of, place_of}
use Rattle.search.specs.Marks.{steps_at}
use Rattle.search.specs.Machine.{State, by_rules, by_room, settles_as, advance_open, is_none, is_found, none, found}
use Rattle.search.proofs.Lists.{choose-by}

-- ── what is built keeps the places before ──

abbrev Extends : List Place → List Place → Type 0
Extends base xs = (more : List Place) × (xs ≡ base ++ more)

module _ (E : Setting) (rows : List StandingRow) (w : ℕ) (base : List Place) where
  kept_extends : (h : Held) (t : Candidate) → Extends base h.places → Extends base (kept E rows w h t).places
  unfolding kept
  kept_extends h t x =
      choose-by {A = Held} (λ k. Extends base k.places) (ℕ_discrete (weight_of E h.places t) w)
      (λ _. choose-by {A = Held} (λ k. Extends base k.places) (dec_known E rows h.places t) (λ _. x)
      (λ _. choose-by {A = Held} (λ k. Extends base k.places) (dec_lt (length h.places) most_places)
      (λ _. (x.0 ++ (place_of E rows h.places t ∷ []), ap (λ l. l ++ (place_of E rows h.places t ∷ [])) x.1 ∙ append_assoc base x.0 _))
      (λ _. x)))
      (λ _. x)

  build_extends : (ts : List Candidate) (h : Held) → Extends base h.places → Extends base (build E rows w h ts).1.places
  build_extends [] h x = x
  build_extends (t ∷ ts) h x =
      let r = build_extends ts (kept E rows w h t) (kept_extends h t x) in
      choose-by {A = Option Candidate × Held} (λ o. Extends base o.1.places) (dec_fit E rows w h.places t) (λ _. x) (λ _. r)

pub built_keeps : (E : Setting) (rows : List StandingRow) (w : ℕ) (ps : List Place) → take (length ps) (built E rows w ps).1.places ≡ ps
built_keeps E rows w ps =
    let x = build_extends E rows w ps (candidates E (length ps)) (record { places = ps; over = false }) ([], sym (append-nil ps)) in
    ap (take (length ps)) x.1 ∙ take_at ps x.0 (length ps) refl

pub built-longer : (E : Setting) (rows : List StandingRow) (w : ℕ) (ps : List Place) → length ps ≤ length (built E rows w ps).1.places
built-longer E rows w ps =
    let x = build_extends E rows w ps (candidates E (length ps)) (record { places = ps; over = false }) ([], sym (append-nil ps)) in
    let e = ap length x.1 ∙ length-append ps x.0 in
    omega arith

-- ── the rules ──

module _ (E : Setting) (st : State) (w : ℕ) (we : w ≡ level_at E st.rows st.places) where
  by_parts : (r : Option Candidate × Held) → r ≡ built E st.rows w st.places → by_rules st w (dec_lt st.limit w) r.0 (ℕ_discrete w st.limit) r.1 ≡ advance_open E st
  unfolding advance_open
  by_parts r e =
      ap (λ r. by_rules st w (dec_lt st.limit w) r.0 (ℕ_discrete w st.limit) r.1) e
      ∙ ap (λ v. by_rules st v (dec_lt st.limit v) (built E st.rows v st.places).0 (ℕ_discrete v st.limit) (built E st.rows v st.places).1) we

  pub rule_above : st.limit < w → settles_as st is_none none ≡ advance_open E st
  rule_above l = go (dec_lt st.limit w) ∙ by_parts (built E st.rows w st.places) refl
    where
      go : (p : Dec (st.limit < w)) → settles_as st is_none none ≡ by_rules st w p (built E st.rows w st.places).0 (ℕ_discrete w st.limit) (built E st.rows w st.places).1
      go (yes p) = refl
      go (no p) = absurd (p l)

  module _ (within : w ≤ st.limit) (h : Held) where
    pub rule_found : (t : Candidate) → (Some t, h) ≡ built E st.rows w st.places → settles_as st (is_found t w (steps_at st.places t)) (found w (steps_at st.places t)) ≡ advance_open E st
    rule_found t e = go (dec_lt st.limit w) ∙ by_parts (Some t, h) e
      where
        go : (p : Dec (st.limit < w)) → settles_as st (is_found t w (steps_at st.places t)) (found w (steps_at st.places t)) ≡ by_rules st w p (Some t) (ℕ_discrete w st.limit) h
        go (yes p) = absurd (omega arith)
        go (no p) = refl

    pub rule_limit : (None, h) ≡ built E st.rows w st.places → w ≡ st.limit → settles_as st is_none none ≡ advance_open E st
    rule_limit e same = go (dec_lt st.limit w) (ℕ_discrete w st.limit) ∙ by_parts (None, h) e
      where
        go : (p : Dec (st.limit < w)) (q : Dec (w ≡ st.limit)) → settles_as st is_none none ≡ by_rules st w p None q h
        go (yes p) q = absurd (omega arith)
        go (no p) (yes q) = refl
        go (no p) (no q) = absurd (q same)

    pub rule_room : (None, h) ≡ built E st.rows w st.places → (w ≡ st.limit → ⊥) → by_room st w h.places h.over ≡ advance_open E st
    rule_room e other = go (dec_lt st.limit w) (ℕ_discrete w st.limit) ∙ by_parts (None, h) e
      where
        go : (p : Dec (st.limit < w)) (q : Dec (w ≡ st.limit)) → by_room st w h.places h.over ≡ by_rules st w p None q h
        go (yes p) q = absurd (omega arith)
        go (no p) (yes q) = absurd (other q)
        go (no p) (no q) = refl
