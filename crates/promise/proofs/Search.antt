-- The search over a bank of formulas, for any kind of key of a formula: candidates, the level, those that fit, the new places.
-- Today the key is the formula's column, and the goal is that it is the wanted one.
use Rattle.std.proofs.Common.{◌≡◌, ℕ, zero, suc, min, List, [], ◌∷◌, ◌++◌, map}
use native.Mathlib.Decide.{ℕ_discrete}
use Rattle.measures.specs.Measures.{beyond}
use Rattle.formulas.specs.Setting.{Setting}
use Rattle.formulas.specs.Formula.{Formula, Formulas, channel, operator, nil, cons, weight}
use Rattle.search.specs.Lists.{In, choose, dec_in, dec_both, each, numbers}
use Rattle.promise.proofs.Lists.{dec_not, keep}

-- ── candidates, in build order ──

-- the lists of a formulas of the bank, by the first one's place, then by the second's, and so on
unfoldable pub choices : ℕ → List Formula → List Formulas
choices zero bank = nil ∷ []
choices (suc a) bank = each (λ f. map (cons f) (choices a bank)) bank

unfoldable pub candidates : Setting → List Formula → List Formula
candidates E bank = map channel (numbers E.channels) ++ each (λ k. map (operator k) (choices (E.set.arity k) bank)) (numbers E.set.count)

-- ── the level ──

-- its key is not in the bank
abbrev pub Fresh : {K : Type 0} → (Formula → K) → List Formula → Formula → Type 0
Fresh key bank f = ¬ In (key f) (map key bank)

unfoldable pub dec_fresh : {K : Type 0} → Discrete K → (key : Formula → K) (bank : List Formula) (f : Formula) → Dec (Fresh key bank f)
dec_fresh same key bank f = dec_not (dec_in same (key f) (map key bank))

-- the least weight, and beyond where there is none below
unfoldable pub least : Setting → List Formula → ℕ
least E [] = beyond
least E (f ∷ fs) = min (weight E f) (least E fs)

-- the least weight of a candidate whose key is not in the bank
unfoldable pub level_of : {K : Type 0} → Setting → Discrete K → (Formula → K) → List Formula → List Formula → ℕ
level_of E same key bank cands = least E (keep (dec_fresh same key bank) cands)

abbrev pub FitsAt : {K : Type 0} → Setting → (Formula → K) → (K → Type 0) → ℕ → Formula → Type 0
FitsAt E key Goal w f = (weight E f ≡ w) × Goal (key f)

unfoldable pub dec_fits_at : {K : Type 0} (E : Setting) (key : Formula → K) {Goal : K → Type 0} → ((x : K) → Dec (Goal x)) → (w : ℕ) (f : Formula) → Dec (FitsAt E key Goal w f)
dec_fits_at E key goal w f = dec_both (ℕ_discrete (weight E f) w) (goal (key f))

-- the candidates of weight w that fit
unfoldable pub fitting : {K : Type 0} → Setting → (Formula → K) → {Goal : K → Type 0} → ((x : K) → Dec (Goal x)) → List Formula → ℕ → List Formula
fitting E key goal cands w = keep (dec_fits_at E key goal w) cands

-- of the formulas, the first for each key that has not been seen
unfoldable pub unseen : {K : Type 0} → Discrete K → (Formula → K) → List K → List Formula → List Formula
unseen same key seen [] = []
unseen same key seen (f ∷ fs) = choose (dec_in same (key f) seen) (unseen same key seen fs) (f ∷ unseen same key (key f ∷ seen) fs)

unfoldable pub dec_weighs : (E : Setting) (w : ℕ) (f : Formula) → Dec (weight E f ≡ w)
dec_weighs E w f = ℕ_discrete (weight E f) w

-- the first candidate of weight w for each new key
unfoldable pub new-places : {K : Type 0} → Setting → Discrete K → (Formula → K) → List Formula → List Formula → ℕ → List Formula
new-places E same key bank cands w = unseen same key (map key bank) (keep (dec_weighs E w) cands)
