-- An advance over stored places answers as one over the bank of formulas, and what is then held is alike.
use Rattle.std.proofs.Common.{◌≡◌, ℕ, suc, ◌+◌, ◌<◌, ◌≤◌, false, List, [], ◌∷◌, ◌++◌, map, length, get_or, Option, sym, refl, ap, ◌∙◌, subst, inl, inr, arith, length-append}
use native.Mathlib.Decide.{dec_lt, ℕ_discrete}
use Rattle.std.proofs.lemmas.List.{length-map}
use Rattle.rows.specs.Rows.{StandingRow}
use Rattle.formulas.specs.Setting.{Setting}
use Rattle.formulas.specs.Formula.{Formula, channel, Formed, weight, column, Wanted, Fits, Apart}
use Rattle.formulas.specs.Steps.{most_places}
use Rattle.histories.specs.History.{Outcome, level, found, none, full, as_found}
use Rattle.search.specs.Lists.{In, here, bands_discrete}
use Rattle.search.specs.Places.{Candidate, Place}
use Rattle.search.specs.Stored.{Held, last_weight, built}
use Rattle.promise.specs.Steps.{steps_of, as_step}
use Rattle.promise.specs.Machine as S
use Rattle.search.specs.Machine.{State, Status, is_open, is_found, is_none, is_full}
use Rattle.promise.specs.Machine.{verdict_of, by_rules, by_room, advance_open}
use Rattle.search.proofs.Lists.{at_in}
use Rattle.promise.proofs.Columns.{candidates_complete}
use Rattle.promise.proofs.Bank.{fitting_is}
use Rattle.promise.proofs.Search.{candidates, level_of, fitting, new-places}
use Rattle.promise.proofs.Rules.{Progress, ongoing, finds, finds_none, overfull, Advanced, columns, is-wanted, used, judged, advanced, verdict-at}
use Rattle.promise.proofs.Advance.{Open, Found, Shape}
use Rattle.promise.proofs.Places.{made, InRange, Holds}
use Rattle.promise.proofs.Level.{level-right}
use Rattle.promise.proofs.Build.{BuildsTo, hit, whole, spilt, built-right}
use Rattle.promise.proofs.Written.{part_in, steps-by}
use Rattle.promise.proofs.Marked.{counted-right, steps_are_by}

-- settled alike
pub data Matches (E : Setting) (bank : List Formula) : Status → Progress → Type 0 where
  both_open : Matches E bank is_open ongoing
  both_found : (t : Candidate) (w n : ℕ) (f : Formula) → f ≡ made bank t → w ≡ weight E f → InRange (length bank) t → Matches E bank (is_found t w n) (finds f)
  both_none : Matches E bank is_none finds_none
  both_full : Matches E bank is_full overfull

-- the same outcome, and what is then held alike
pub data Follows (E : Setting) (rows : List StandingRow) (bound : ℕ) : S.Advanced → Advanced → Type 0 where
  follows : (o : Outcome) (places : List Place) (bank : List Formula) (s : Status) (p : Progress) → Holds E rows places bank → Matches E bank s p →
      Follows E rows bound (record { outcome = o; after = record { rows = rows; limit = bound; places = places; status = s } }) (record { outcome = o; bank = bank; progress = p })

-- the last place is no heavier than all are
last_light : (E : Setting) (rows : List StandingRow) (places : List Place) (bank : List Formula) → Holds E rows places bank → (v : ℕ) → ((f : Formula) → In f bank → weight E f ≤ v) → last_weight places ≤ v
last_light E rows places bank h v light = at places (λ i p l. let n = h.long in subst (λ w. w ≤ v) (sym (h.weights i p (channel 0) (omega arith))) (light _ (at_in _ bank i (channel 0) (omega arith) refl)))
  where
    at : (ps : List Place) → ((i : ℕ) (p : Place) → i < length ps → (get_or ps i p).weight ≤ v) → last_weight ps ≤ v
    at [] k = omega arith
    at (p ∷ []) k = k 0 p (omega arith)
    at (p ∷ q ∷ ps) k = at (q ∷ ps) (λ i x l. k (suc i) x (omega arith))

module _ (E : Setting) (st : State) (bank : List Formula) (holds : Holds E st.rows st.places bank) where
  judges : length bank ≤ most_places → Apart (columns E st.rows bank) → ((g : Formula) → In g bank → Fits E st.rows g → ⊥) →
      (w : ℕ) (new fit : List Formula) → ((f : Formula) → In f fit → weight E f ≡ w) → (r : Option Candidate × Held) → BuildsTo E st.rows bank false (bank ++ new) fit r →
      (p : Dec (st.limit < w)) (q : Dec (w ≡ st.limit)) (l : Dec (most_places < length bank + length new)) →
      Follows E st.rows st.limit (by_rules st w p r.0 q r.1) (judged st.limit bank w p fit q new l)
  judges room apart unfit w new fit weighs r o (yes p) q l = follows none st.places bank is_none finds_none holds both_none
  judges room apart unfit w new fit weighs r (hit {f = f} t i e x) (no p) q l =
      subst (λ n. Follows E st.rows st.limit (S.settles_as st (is_found t w n) (found w n)) (record { outcome = found w (length (used bank f)); bank = bank; progress = finds f }))
      (ap (λ g. length (used bank g)) e ∙ sym (counted-right E st.rows st.places bank holds apart t i (λ j. unfit _ j x) room))
      (follows (found w (length (used bank f))) st.places bank (is_found t w (length (used bank f))) (finds f) holds (both_found t w (length (used bank f)) f e (sym (weighs f (here refl))) i))
  judges room apart unfit w new fit weighs r (whole a b c d) (no p) (yes q) l = follows none st.places bank is_none finds_none holds both_none
  judges room apart unfit w new fit weighs r (spilt a b) (no p) (yes q) l = follows none st.places bank is_none finds_none holds both_none
  judges room apart unfit w new fit weighs r (whole {h = g} a b c d) (no p) (no q) (yes l) = let e = length-append bank new in absurd (omega arith)
  judges room apart unfit w new fit weighs r (whole {h = g} a b c d) (no p) (no q) (no l) =
      subst (λ v. Follows E st.rows st.limit (by_room st w g.places v) (record { outcome = level w (length (bank ++ new)); bank = bank ++ new; progress = ongoing })) (sym b)
      (subst (λ n. Follows E st.rows st.limit (record { outcome = level w n; after = record { rows = st.rows; limit = st.limit; places = g.places; status = is_open } }) (record { outcome = level w (length (bank ++ new)); bank = bank ++ new; progress = ongoing })) (sym d.long)
      (follows (level w (length (bank ++ new))) g.places (bank ++ new) is_open ongoing d both_open))
  judges room apart unfit w new fit weighs r (spilt {h = g} a b) (no p) (no q) (yes l) =
      subst (λ v. Follows E st.rows st.limit (by_room st w g.places v) (record { outcome = full; bank = bank; progress = overfull })) (sym b)
      (follows full st.places bank is_full overfull holds both_full)
  judges room apart unfit w new fit weighs r (spilt {h = g} (inl a) b) (no p) (no q) (no l) = absurd (let z : ◌≡◌ {A = ℕ} 0 1 = cc in omega arith)
  judges room apart unfit w new fit weighs r (spilt {h = g} (inr a) b) (no p) (no q) (no l) = let e = length-append bank new in absurd (omega arith)

  -- on an open sheet
  pub advance_follows : (n v : ℕ) → Open E (Formed E) (column E st.rows) (Wanted st.rows) st.limit bank n v →
      Follows E st.rows st.limit (advance_open E st) (advanced E st.rows st.limit bank)
  unfolding advance_open advanced
  advance_follows n v o =
      let rows = st.rows in
      let places = st.places in
      let bound = st.limit in
      let cands = candidates E bank in
      let w = level_of E bands_discrete (column E rows) bank cands in
      let new = new-places E bands_discrete (column E rows) bank cands w in
      let fit = fitting E (column E rows) (is-wanted rows) cands w in
      let covered : (f : Formula) → In f cands → weight E f ≤ last_weight places → In (column E rows f) (columns E rows bank) = λ f c l.
      let a = last_light E rows places bank holds v o.sound.light in
      o.sound.covers f ((candidates_complete E rows bank).formed f c o.sound.formed) (omega arith) in
      subst (λ u. Follows E rows bound (by_rules st u (dec_lt bound u) (built E rows u places).0 (ℕ_discrete u bound) (built E rows u places).1) (judged bound bank w (dec_lt bound w) fit (ℕ_discrete w bound) new (dec_lt most_places (length bank + length new))))
      (sym (level-right E rows places bank holds covered))
      (judges o.room o.sound.apart (λ g j x. let a = o.sound.light g j in let b = o.unfit g (o.sound.formed g j) x in absurd (omega arith))
      w new fit (λ f i. (fitting_is E (column E rows) (is-wanted rows) cands w f i).1.0) (built E rows w places) (built-right E rows w places bank holds o.room)
      (dec_lt bound w) (ℕ_discrete w bound) (dec_lt most_places (length bank + length new)))

  -- the steps of a formula found
  pub found-steps : (bound : ℕ) (t : Candidate) (f : Formula) → f ≡ made bank t → InRange (length bank) t → Found E (Formed E) (column E st.rows) (Wanted st.rows) bound bank f → steps_of st.places t ≡ steps-by (used bank f)
  found-steps bound t f e i x =
      steps_are_by E st.rows st.places bank holds x.apart t i (λ j. x.unfit _ j (subst (Fits E st.rows) e x.fits)) x.room
      ∙ ap (λ g. steps-by (used bank g)) (sym e)

  -- settled alike is settled the same
  pub verdict-same : (bound n v : ℕ) (s : Status) (p : Progress) → Matches E bank s p → Shape E (Formed E) (column E st.rows) (Wanted st.rows) bound bank p n v → verdict_of st.places s ≡ verdict-at E bank p
  verdict-same bound n v s p both_open x = refl
  verdict-same bound n v s p (both_found t w m f e we i) x =
      let L = used bank f in
      ap (λ u. as_found u (length (steps_of st.places t))) we
      ∙ ap (as_found (weight E f)) (ap length (found-steps bound t f e i x) ∙ length-map (map (part_in L) L) as_step ∙ length-map L (part_in L))
  verdict-same bound n v s p both_none x = refl
  verdict-same bound n v s p both_full x = refl
