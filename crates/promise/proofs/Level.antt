-- The level that is worked out from the places is that of the bank of formulas: looking only above the last place's weight makes no
-- difference, since a candidate that is not heavier has its column in the bank.
use Rattle.std.proofs.Common.{◌≡◌, ℕ, ◌<◌, ◌≤◌, min, List, [], ◌∷◌, map, length, sym, refl, ap, ◌∙◌, subst, subst₂, arith}
use native.Mathlib.Decide.{dec_lt}
use Rattle.measures.specs.Measures.{beyond}
use Rattle.rows.specs.Rows.{StandingRow}
use Rattle.formulas.specs.Setting.{Setting}
use Rattle.formulas.specs.Formula.{Formula, weight, column}
use Rattle.search.specs.Lists.{In, here, there, choose, dec_in, bands_discrete}
use Rattle.search.specs.Places.{Candidate, Place, candidates as numbered}
use Rattle.search.specs.Stored.{column_of, weight_of, columns_in, dec_known, lower, lowest, level_at, last_weight}
use Rattle.promise.proofs.Lists.{dec_not, keep, in_map}
use Rattle.promise.proofs.Search.{candidates, dec_fresh, least, level_of}
use Rattle.promise.proofs.Rules.{columns}
use Rattle.promise.proofs.Places.{made, Holds, InRange, numbered-candidates, column-right, weight-right, columns_right, candidates_range}

least-most : (E : Setting) (s : List Formula) → least E s ≤ beyond
unfolding least
least-most E [] = omega arith
least-most E (x ∷ s) = let r = least-most E s in omega arith

-- covered: the candidates that are not heavier than the last place have their columns in the bank
module _ (E : Setting) (rows : List StandingRow) (places : List Place) (bank : List Formula) (h : Holds E rows places bank) (covered : (f : Formula) → In f (candidates E bank) → weight E f ≤ last_weight places → In (column E rows f) (columns E rows bank)) where
  -- one candidate
  lower-right : (t : Candidate) → InRange (length bank) t → In (made bank t) (candidates E bank) → (b : ℕ) (rest : List Formula) → b ≤ beyond →
      (lower E rows places b t ≤ beyond) × (min (lower E rows places b t) (least E rest) ≡ min b (least E (choose (dec_fresh bands_discrete (column E rows) bank (made bank t)) (made bank t ∷ rest) rest)))
  unfolding lower least dec_fresh dec_known
  lower-right t r cand b rest lim =
      let c = column-right E rows places bank h t r in
      let w = weight-right E rows places bank h t r in
      let cs = columns_right E rows places bank h in
      let m = least-most E rest in
      go c w cs m (dec_lt (last_weight places) (weight_of E places t)) (dec_lt (weight_of E places t) b) (dec_in bands_discrete (column_of E rows places t) (columns_in places)) (dec_in bands_discrete (column E rows (made bank t)) (columns E rows bank))
    where
      go : column_of E rows places t ≡ column E rows (made bank t) → weight_of E places t ≡ weight E (made bank t) → columns_in places ≡ columns E rows bank → least E rest ≤ beyond →
          (x : Dec (last_weight places < weight_of E places t)) (l : Dec (weight_of E places t < b)) (k : Dec (In (column_of E rows places t) (columns_in places))) (q : Dec (In (column E rows (made bank t)) (columns E rows bank))) →
          (choose x (choose l (choose k b (weight_of E places t)) b) b ≤ beyond) × (min (choose x (choose l (choose k b (weight_of E places t)) b) b) (least E rest) ≡ min b (least E (choose (dec_not q) (made bank t ∷ rest) rest)))
      go c w cs m (no x) l k (yes q) = (lim, refl)
      go c w cs m (no x) l k (no q) = absurd (q (covered (made bank t) cand (omega arith)))
      go c w cs m (yes x) (yes l) (yes k) (yes q) = (lim, refl)
      go c w cs m (yes x) (yes l) (no k) (yes q) = absurd (k (subst₂ (λ (x : List ℕ) (xs : List (List ℕ)). In x xs) (sym c) (sym cs) q))
      go c w cs m (yes x) (no l) k (yes q) = (lim, refl)
      go c w cs m (yes x) (yes l) (yes k) (no q) = absurd (q (subst₂ (λ (x : List ℕ) (xs : List (List ℕ)). In x xs) c cs k))
      go c w cs m (yes x) (yes l) (no k) (no q) = (omega arith, omega arith)
      go c w cs m (yes x) (no l) k (no q) = (lim, omega arith)

  lowest-right : (ts : List Candidate) → ((t : Candidate) → In t ts → InRange (length bank) t) → ((t : Candidate) → In t ts → In (made bank t) (candidates E bank)) → (b : ℕ) → b ≤ beyond → lowest E rows places b ts ≡ min b (least E (keep (dec_fresh bands_discrete (column E rows) bank) (map (made bank) ts)))
  unfolding least
  lowest-right [] r cand b lim = omega arith
  lowest-right (t ∷ ts) r cand b lim =
      let one = lower-right t (r t (here refl)) (cand t (here refl)) b (keep (dec_fresh bands_discrete (column E rows) bank) (map (made bank) ts)) lim in
      lowest-right ts (λ u i. r u (there i)) (λ u i. cand u (there i)) (lower E rows places b t) one.0 ∙ one.1

  pub level-right : level_at E rows places ≡ level_of E bands_discrete (column E rows) bank (candidates E bank)
  unfolding level_of
  level-right =
      ap (λ n. lowest E rows places beyond (numbered E n)) h.long
      ∙ lowest-right (numbered E (length bank)) (candidates_range E (length bank)) (λ t i. subst (λ l. In (made bank t) l) (numbered-candidates E bank) (in_map (made bank) i)) beyond (omega arith)
      ∙ (let e = ap (λ l. least E (keep (dec_fresh bands_discrete (column E rows) bank) l)) (numbered-candidates E bank) in let m = least-most E (keep (dec_fresh bands_discrete (column E rows) bank) (candidates E bank)) in omega arith)
