-- The built-in operators one by one: the number, arity, band and name of each.
use Rattle.std.specs.Prelude.{◌≡◌, ℕ, ◌<◌, List, Result, MatchResult, codes}
use Rattle.operators.specs.Builtin.{nil_of, one_of, next_of, sum_of, rest_of, high_of, low_of, geq_of, quo_of}
use Rattle.operators.specs.declared.builtin.Operator.{Operator}
use Rattle.operators.specs.declared.builtin.Operator.TheVariants.{Nil, One, Next, Sum, Rest, High, Low, Geq, Quo}
use Rattle.operators.specs.declared.builtin.NotOffered.{NotOffered}

abbrev pub number_of : Operator → ℕ
number_of Nil = 0
number_of One = 1
number_of Next = 2
number_of Sum = 3
number_of Rest = 4
number_of High = 5
number_of Low = 6
number_of Geq = 7
number_of Quo = 8

-- the operator of a number, or that there is none of it
abbrev pub Numbered : ℕ → Result Operator NotOffered → Type 0
Numbered op r = MatchResult r (λ o. number_of o ≡ op) (λ _. 8 < op)

abbrev pub arity_of : Operator → ℕ
arity_of Nil = 0
arity_of One = 0
arity_of Next = 1
arity_of Sum = 2
arity_of Rest = 2
arity_of High = 2
arity_of Low = 2
arity_of Geq = 2
arity_of Quo = 2

-- what each gives for its first and its second argument
abbrev pub band_of : Operator → ℕ → ℕ → ℕ
band_of Nil a b = nil_of
band_of One a b = one_of
band_of Next a b = next_of a
band_of Sum a b = sum_of a b
band_of Rest a b = rest_of a b
band_of High a b = high_of a b
band_of Low a b = low_of a b
band_of Geq a b = geq_of a b
band_of Quo a b = quo_of a b

abbrev pub name_of : Operator → List ℕ
name_of Nil = codes "nil "
name_of One = codes "one "
name_of Next = codes "next"
name_of Sum = codes "sum "
name_of Rest = codes "rest"
name_of High = codes "high"
name_of Low = codes "low "
name_of Geq = codes "geq "
name_of Quo = codes "quo "
