-- The candidates by numbers, as the loops go through them.
use Rattle.std.specs.Prelude.{ℕ, zero, suc, ◌+◌, cond, List, [], ◌∷◌, ◌++◌, take, nat_lt}
use Rattle.search.specs.Places.{Candidate, of_channel, of_operator}

-- the lists of m numbers from i on, joined
abbrev pub up_from : {X : Type 0} → (ℕ → List X) → ℕ → ℕ → List X
up_from f zero i = []
up_from f (suc m) i = f i ++ up_from f m (i + 1)

-- how many places argument number k of an operator of arity a runs over: all, or the one that is not looked at
abbrev pub span : ℕ → ℕ → ℕ → ℕ
span a k n = cond (nat_lt k a) n 1

abbrev pub channel : ℕ → List Candidate
channel i = of_channel i ∷ []

abbrev pub cell : ℕ → ℕ → ℕ → ℕ → List Candidate
cell a op i j = of_operator op (take a (i ∷ j ∷ [])) ∷ []

abbrev pub row : ℕ → ℕ → ℕ → ℕ → List Candidate
row a n op i = up_from (cell a op i) (span a 1 n) 0

abbrev pub block : (ℕ → ℕ) → ℕ → ℕ → List Candidate
block arity n op = up_from (row (arity op) n op) (span (arity op) 0 n) 0
