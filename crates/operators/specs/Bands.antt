-- What an operator set means, and the laws that every one keeps. A band is 0 to 14; the mark 15 is no reading.
use Rattle.std.specs.Prelude.{◌≡◌, ℕ, ◌<◌, ◌≤◌, min, List, slice_index_or}

-- the mark for no reading
abbrev pub mark : ℕ
mark = 15

-- the most operators that a set offers, and the greatest arity
abbrev pub most_operators : ℕ
most_operators = 64

abbrev pub most_arguments : ℕ
most_arguments = 2

-- the argument at place i as an operator sees it: one that is missing or above 15 counts as 15
abbrev pub argument : List ℕ → ℕ → ℕ
argument xs i = min (slice_index_or xs i mark) mark

-- how many operators there are, each one's arity, and the band that it gives for its arguments' bands
pub record SetMeaning : Type 0 where
  pub count : ℕ
  pub arity : ℕ → ℕ
  pub band : ℕ → List ℕ → ℕ

pub record SetLaws (m : SetMeaning) : Type 0 where
  pub few : m.count ≤ most_operators
  pub narrow : (op : ℕ) → m.arity op ≤ most_arguments
  pub marked : (op : ℕ) (xs : List ℕ) → m.band op xs ≤ mark
  -- a number that is not offered
  pub absent_arity : (op : ℕ) → m.count ≤ op → m.arity op ≡ 0
  pub absent_band : (op : ℕ) (xs : List ℕ) → m.count ≤ op → m.band op xs ≡ mark
  -- only the arguments below the arity count, each as an operator sees it
  pub local : (op : ℕ) (xs ys : List ℕ) → ((i : ℕ) → i < m.arity op → argument xs i ≡ argument ys i) → m.band op xs ≡ m.band op ys
  -- an operator gives 15 whenever an argument is 15
  pub strict : (op : ℕ) (xs : List ℕ) (i : ℕ) → i < m.arity op → argument xs i ≡ mark → m.band op xs ≡ mark
