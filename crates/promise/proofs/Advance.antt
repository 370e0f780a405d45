-- One advance either keeps what an open sheet's bank keeps true, or settles the sheet rightly: for any kind of key.
use Rattle.std.proofs.Common.{◌≡◌, ℕ, suc, ◌+◌, ◌<◌, ◌≤◌, ◌⊎◌, List, [], ◌∷◌, ◌++◌, map, length, sym, refl, ap, ◌∙◌, subst, inl, inr, arith, length-append}
use Rattle.measures.specs.Measures.{beyond}
use Rattle.rows.specs.Rows.{StandingRow}
use Rattle.formulas.specs.Setting.{Setting}
use Rattle.formulas.specs.Formula.{Formula, Formed, weight, column, Wanted, Apart}
use Rattle.formulas.specs.Steps.{most_places}
use Rattle.histories.specs.History.{as_found, settled_as, risen_to}
use Rattle.histories.specs.Levels.{UnderBar, Over, Within, New, NextLevel, OutcomeTrue}
use Rattle.search.specs.Lists.{In, here, bands_discrete}
use Rattle.search.proofs.Lists.{in_none}
use Rattle.promise.specs.Laws.{Laws}
use Rattle.promise.proofs.Lists.{in_map}
use Rattle.promise.proofs.Search.{candidates, Fresh, level_of, fitting}
use Rattle.promise.proofs.Best.{args, Forming, Complete, Lowest}
use Rattle.promise.proofs.Columns.{columns_forming, candidates_complete}
use Rattle.promise.proofs.Bank.{Grounded, level-lowest, level_met, fitting_is, fitting_none, NewPlaces, new-places-new, Sound, Unfit, sound_keys, fresh-new, bank_unfit, over_512, new_above, fit_above, fit_past, not_over, more}
use Rattle.promise.proofs.Rules.{Progress, ongoing, finds, finds_none, overfull, Advanced, is-wanted, used, judged, advanced, verdict-at}

-- ── one advance ──

-- an open sheet after n advances, v the last level
pub record Open {K : Type 0} (E : Setting) (Ok : Formula → Type 0) (key : Formula → K) (Goal : K → Type 0) (bound : ℕ) (bank : List Formula) (n v : ℕ) : Type 0 where
  pub sound : Sound E Ok key v bank
  pub unfit : Unfit E Ok key Goal v
  pub below : v < bound
  pub room : length bank ≤ most_places
  pub counted : n ≤ length bank

pub record Found {K : Type 0} (E : Setting) (Ok : Formula → Type 0) (key : Formula → K) (Goal : K → Type 0) (bound : ℕ) (bank : List Formula) (f : Formula) : Type 0 where
  pub formed : Ok f
  pub fits : Goal (key f)
  pub within : weight E f ≤ bound
  pub least : (g : Formula) → Ok g → Goal (key g) → weight E f ≤ weight E g
  pub not_over : ¬ Over E Ok key Goal bound
  pub grounded : Grounded [] bank
  pub apart : Apart (map key bank)
  pub from : (x : Formula) → In x (args f) → In x bank
  pub unfit : (g : Formula) → In g bank → ¬ Goal (key g)
  pub banked : (g : Formula) → In g bank → Ok g
  pub best : (f g : Formula) → In f bank → Ok g → key g ≡ key f → weight E f ≤ weight E g
  pub room : length bank ≤ most_places

-- what holds of a sheet by how far the search has come, the number of advances and the last level
abbrev pub Shape : {K : Type 0} → Setting → (Formula → Type 0) → (Formula → K) → (K → Type 0) → ℕ → List Formula → Progress → ℕ → ℕ → Type 0
Shape E Ok key Goal bound bank ongoing n v = Open E Ok key Goal bound bank n v
Shape E Ok key Goal bound bank (finds f) n v = Found E Ok key Goal bound bank f
Shape E Ok key Goal bound bank finds_none n v = (¬ Over E Ok key Goal bound) × (¬ Within E Ok key Goal bound)
Shape E Ok key Goal bound bank overfull n v = Over E Ok key Goal bound

pub record Good {K : Type 0} (E : Setting) (Ok : Formula → Type 0) (key : Formula → K) (Goal : K → Type 0) (bound n v : ℕ) (m : Advanced) : Type 0 where
  pub verdict : settled_as m.outcome ≡ verdict-at E m.bank m.progress
  pub shape : Shape E Ok key Goal bound m.bank m.progress (suc n) (risen_to m.outcome v)
  pub holds : OutcomeTrue E Ok key Goal bound v m.outcome

module _ (E : Setting) {K : Type 0} (same? : Discrete K) (Ok : Formula → Type 0) (key : Formula → K) (forming : Forming E Ok key) {Goal : K → Type 0} (goal : (x : K) → Dec (Goal x))
    (bound : ℕ) (bank : List Formula) (most : bound ≤ 1000000) (n v : ℕ) (o : Open E Ok key Goal bound bank n v) (cands : List Formula) (complete : Complete Ok key bank cands) where
  low_at : (w : ℕ) → w ≡ level_of E same? key bank cands → Lowest E key bank cands w
  low_at w we = subst (λ u. Lowest E key bank cands u) (sym we) (level-lowest E same? key bank cands)

  -- the level rises
  record Risen (w : ℕ) : Type 0 where
    by : Formula
    candidate : In by cands
    fresh : Fresh key bank by
    formed : Ok by
    weighs : weight E by ≡ w
    up : v < w

  risen : (w : ℕ) → w ≡ level_of E same? key bank cands → w < beyond → Risen w
  risen w we small =
      let m = level_met E same? key bank cands (subst (λ u. u < beyond) we small) in
      let wf = complete.formed m.0 m.1 o.sound.formed in
      let e : weight E m.0 ≡ w = m.3 ∙ sym we in
      let h = (fresh-new E Ok key v bank o.sound m.0 wf m.2).heavier m.0 wf refl in
      record { by = m.0; candidate = m.1; fresh = m.2; formed = wf; weighs = e; up = omega arith }

  none-lighter : (w : ℕ) → w ≡ level_of E same? key bank cands → (g : Formula) → New E Ok key v g → w ≤ weight E g
  none-lighter w we = new_above E same? Ok key forming v bank o.sound cands complete w (low_at w we)

  next_level : (w : ℕ) → w ≡ level_of E same? key bank cands → w < beyond → NextLevel E Ok key v w
  next_level w we small =
      let r = risen w we small in
      record { by = r.by; new = fresh-new E Ok key v bank o.sound r.by r.formed r.fresh; weighs = r.weighs; least = none-lighter w we }

  judged_good : (w : ℕ) → w ≡ level_of E same? key bank cands → (above : Dec (bound < w)) (fit : List Formula) → fit ≡ fitting E key goal cands w → (same : Dec (w ≡ bound))
      (new : List Formula) → NewPlaces E key bank cands w new → (past : Dec (most_places < length bank + length new)) → Good E Ok key Goal bound n v (judged bound bank w above fit same new past)
  judged_good w we (yes above) fit fe same new nw past =
      let low = low_at w we in
      record {
        verdict = refl;
        shape = (
          not_over E same? Ok key forming v bank o.sound cands complete w low bound o.room (λ u b. let l = b.limited in omega arith),
          λ i. let a = fit_above E same? Ok key forming v bank o.sound cands complete w low Goal o.unfit i.by i.formed i.fits in let b = i.within in omega arith,
        );
        holds = λ g new. let a = none-lighter w we g new in omega arith;
      }
  judged_good w we (no within) (f ∷ fit) fe same new nw past =
      let low = low_at w we in
      let t = fitting_is E key goal cands w f (subst (λ l. In f l) fe (here refl)) in
      let weighs = t.1.0 in
      let wf = complete.formed f t.0 o.sound.formed in
      record {
        verdict = ap (λ u. as_found u (length (used bank f))) (sym weighs);
        shape = record {
          formed = wf;
          fits = t.1.1;
          within = omega arith;
          least = λ g gf fits. let a = fit_above E same? Ok key forming v bank o.sound cands complete w low Goal o.unfit g gf fits in omega arith;
          not_over = not_over E same? Ok key forming v bank o.sound cands complete w low bound o.room (λ u b. let l = b.lighter f wf t.1.1 in omega arith);
          grounded = o.sound.grounded;
          apart = o.sound.apart;
          from = complete.from f t.0;
          unfit = λ g h fits. bank_unfit E Ok key v bank o.sound Goal o.unfit (key g) fits (in_map key h);
          banked = o.sound.formed;
          best = o.sound.best;
          room = o.room;
        };
        holds = next_level w we (omega arith);
      }
  judged_good w we (no within) [] fe (yes same) new nw past =
      let low = low_at w we in
      record {
        verdict = refl;
        shape = (
          not_over E same? Ok key forming v bank o.sound cands complete w low bound o.room (λ u b. let l = b.limited in omega arith),
          λ i. let a = fit_past E same? Ok key forming v bank o.sound cands complete w low Goal o.unfit (omega arith) (fitting_none E key goal cands w fe) i.by i.formed i.fits in
              let b = i.within in omega arith,
        );
        holds = λ g new. let a = none-lighter w we g new in omega arith;
      }
  judged_good w we (no within) [] fe (no other) new nw (yes past) =
      let low = low_at w we in
      let small : w < beyond = omega arith in
      let r = risen w we small in
      let up = r.up in
      let unmet = fitting_none E key goal cands w fe in
      let under : UnderBar E Ok key Goal bound w = record { limited = omega arith; lighter = fit_past E same? Ok key forming v bank o.sound cands complete w low Goal o.unfit small unmet } in
      let k = sound_keys E Ok key w (bank ++ new) (more E same? Ok key forming v bank o.sound cands complete w low small new nw (omega arith)) in
      let e = length-append bank new in
      let many : most_places < length (bank ++ new) = omega arith in
      record {
        verdict = refl;
        shape = over_512 E Ok key Goal bound w (length (bank ++ new)) under k many;
        holds = record { weight = w; number = length (bank ++ new); next = next_level w we small; under = under; keys = k; many = many };
      }
  judged_good w we (no within) [] fe (no other) new nw (no room) =
      let low = low_at w we in
      let small : w < beyond = omega arith in
      let r = risen w we small in
      let up = r.up in
      let unmet = fitting_none E key goal cands w fe in
      let k = length-append bank new in
      let c = o.counted in
      let one : 1 ≤ length new = nonempty new (nw.all r.by r.candidate r.weighs) r.fresh in
      let s = more E same? Ok key forming v bank o.sound cands complete w low small new nw (omega arith) in
      let past-fit : Unfit E Ok key Goal w = fit_past E same? Ok key forming v bank o.sound cands complete w low Goal o.unfit small unmet in
      record {
        verdict = refl;
        shape = record { sound = s; unfit = past-fit; below = omega arith; room = omega arith; counted = omega arith };
        holds = record {
          next = next_level w we small;
          under = record { limited = omega arith; lighter = past-fit };
          keys = sound_keys E Ok key w (bank ++ new) s;
          room = omega arith;
        };
      }
    where
      nonempty : {x : K} (new : List Formula) → In x (map key bank) ⊎ In x (map key new) → (In x (map key bank) → ⊥) → 1 ≤ length new
      nonempty [] (inl h) k = absurd (k h)
      nonempty [] (inr h) k = in_none h
      nonempty (x ∷ new) h k = omega arith

-- ── today's key is the column, and the goal the wanted one ──

pub advance_good : (E : Setting) → Laws E → (rows : List StandingRow) (bound : ℕ) (bank : List Formula) → bound ≤ 1000000 → (n v : ℕ) → Open E (Formed E) (column E rows) (Wanted rows) bound bank n v →
    Good E (Formed E) (column E rows) (Wanted rows) bound n v (advanced E rows bound bank)
unfolding advanced
advance_good E laws rows bound bank most n v o =
    let key = column E rows in
    let cands = candidates E bank in
    let w = level_of E bands_discrete key bank cands in
    judged_good E bands_discrete (Formed E) key (columns_forming E laws rows) (is-wanted rows) bound bank most n v o cands (candidates_complete E rows bank)
    w refl _ _ refl _ _ (new-places-new E bands_discrete key bank cands w) _
