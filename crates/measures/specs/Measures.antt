-- What a measure means, and the laws that every one keeps. They are asked only of what exists: operator numbers 0 to 63,
-- channels 0 to 7, at most as many arguments as the greatest arity, each a weight.
use Rattle.std.specs.Prelude.{◌≡◌, ℕ, ◌<◌, ◌≤◌, List, [], ◌∷◌, length}
use Rattle.operators.specs.Bands.{most_operators, most_arguments}
use Rattle.measures.specs.Lists.{In}

-- the greatest weight but one is 1,000,000; beyond is greater than all others, and 1,000,001 stands for it
abbrev pub beyond : ℕ
beyond = 1000001

abbrev pub most_channels : ℕ
most_channels = 8

-- the weight of each channel, and of each operator over its arguments' weights
pub record MeasureMeaning : Type 0 where
  pub channel : ℕ → ℕ
  pub operator : ℕ → List ℕ → ℕ

abbrev pub IsWeight : ℕ → Type 0
IsWeight w = (1 ≤ w) × (w ≤ beyond)

-- weights, at most as many as the greatest arity
abbrev pub Arguments : List ℕ → Type 0
Arguments us = (length us ≤ most_arguments) × ((u : ℕ) → In u us → IsWeight u)

-- as many on both sides, and none on the left heavier than the one at its place on the right
abbrev pub NoHeavier : List ℕ → List ℕ → Type 0
NoHeavier [] [] = Unit {0}
NoHeavier [] (v ∷ vs) = ⊥
NoHeavier (u ∷ us) [] = ⊥
NoHeavier (u ∷ us) (v ∷ vs) = (u ≤ v) × NoHeavier us vs

pub record MeasureLaws (m : MeasureMeaning) : Type 0 where
  pub channel : (c : ℕ) → c < most_channels → IsWeight (m.channel c)
  pub operator : (op : ℕ) (us : List ℕ) → op < most_operators → Arguments us → IsWeight (m.operator op us)
  -- making an argument heavier never makes the result lighter
  pub monotone : (op : ℕ) (us vs : List ℕ) → op < most_operators → Arguments us → Arguments vs → NoHeavier us vs → m.operator op us ≤ m.operator op vs
  -- the result is greater than every argument that is not beyond
  pub strict : (op : ℕ) (us : List ℕ) (u : ℕ) → op < most_operators → Arguments us → In u us → u < beyond → u < m.operator op us
  -- and beyond if one is
  pub carried : (op : ℕ) (us : List ℕ) → op < most_operators → Arguments us → In beyond us → m.operator op us ≡ beyond
