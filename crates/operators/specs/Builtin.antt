-- The built-in operators, by their numbers: 0 nil, 1 one, 2 next, 3 sum, 4 rest, 5 high, 6 low, 7 geq, 8 quo.
use Rattle.std.specs.Prelude.{ℕ, ◌+◌, ◌-◌, ◌/◌, min, max, cond, List, [], ◌∷◌, codes, ◌==◌, nat_le, slice_index, slice_index_or}
use Rattle.operators.specs.Bands.{mark, argument, SetMeaning}
use Rattle.operators.specs.Names.{blank}

-- 15 if a is 15 or above, else n
abbrev pub given : ℕ → ℕ → ℕ
given a n = cond (nat_le mark a) mark n

abbrev pub both : ℕ → ℕ → ℕ → ℕ
both a b n = given a (given b n)

abbrev pub nil_of : ℕ
nil_of = 0

abbrev pub one_of : ℕ
one_of = 1

abbrev pub next_of : ℕ → ℕ
next_of a = given a (min (a + 1) 14)

abbrev pub sum_of : ℕ → ℕ → ℕ
sum_of a b = both a b (min (a + b) 14)

abbrev pub rest_of : ℕ → ℕ → ℕ
rest_of a b = both a b (a - b)

abbrev pub high_of : ℕ → ℕ → ℕ
high_of a b = both a b (max a b)

abbrev pub low_of : ℕ → ℕ → ℕ
low_of a b = both a b (min a b)

abbrev pub geq_of : ℕ → ℕ → ℕ
geq_of a b = both a b (cond (nat_le b a) 1 0)

abbrev pub quo_of : ℕ → ℕ → ℕ
quo_of a b = both a b (cond (b == 0) mark (a / b))

-- what each of the nine gives for its first and its second argument
abbrev pub gives : ℕ → ℕ → List ℕ
gives a b = nil_of ∷ one_of ∷ next_of a ∷ sum_of a b ∷ rest_of a b ∷ high_of a b ∷ low_of a b ∷ geq_of a b ∷ quo_of a b ∷ []

abbrev pub builtin : SetMeaning
builtin = record {
  count = 9;
  arity = λ op. slice_index (0 ∷ 0 ∷ 1 ∷ 2 ∷ 2 ∷ 2 ∷ 2 ∷ 2 ∷ 2 ∷ []) op;
  band = λ op xs. slice_index_or (gives (argument xs 0) (argument xs 1)) op mark;
}

abbrev pub builtin_names : ℕ → List ℕ
builtin_names op = slice_index_or (codes "nil " ∷ codes "one " ∷ codes "next" ∷ codes "sum " ∷ codes "rest" ∷ codes "high" ∷ codes "low " ∷ codes "geq " ∷ codes "quo " ∷ []) op blank
