-- Bank places as they are stored, and the candidates over them in build order.
use Rattle.std.specs.Prelude.{ℕ, zero, suc, List, [], ◌∷◌, ◌++◌, map, get_or, slice_index_or}
use Rattle.formulas.specs.Setting.{Setting}
use Rattle.search.specs.Lists.{each, numbers}

-- what a formula is made of: a channel, or an operator over the places of its arguments
pub data Candidate : Type 0 where
  of_channel : ℕ → Candidate
  of_operator : ℕ → List ℕ → Candidate

-- a bank place: what its formula is made of, its column and its weight
pub record Place : Type 0 where
  pub top : Candidate
  pub column : List ℕ
  pub weight : ℕ

-- the lists of a numbers below n, by the first, then by the second, and so on
unfoldable pub tuples : ℕ → ℕ → List (List ℕ)
tuples zero n = [] ∷ []
tuples (suc a) n = each (λ i. map (λ is. i ∷ is) (tuples a n)) (numbers n)

-- the candidates over n places in build order: channels by number, then operators by number, then by their arguments' places
unfoldable pub candidates : Setting → ℕ → List Candidate
candidates E n = map of_channel (numbers E.channels) ++ each (λ k. map (of_operator k) (tuples (E.set.arity k) n)) (numbers E.set.count)

-- the bands at row j of the columns at the places
abbrev pub bands_at : List Place → Place → ℕ → List ℕ → List ℕ
bands_at places p j [] = []
bands_at places p j (i ∷ is) = slice_index_or (get_or places i p).column j 15 ∷ bands_at places p j is

abbrev pub weights_at : List Place → Place → List ℕ → List ℕ
weights_at places p [] = []
weights_at places p (i ∷ is) = (get_or places i p).weight ∷ weights_at places p is
