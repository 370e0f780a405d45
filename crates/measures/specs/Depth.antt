-- Depth: a channel or an operator of no arguments weighs 1, any other 1 more than its heaviest argument.
use Rattle.std.specs.Prelude.{ℕ, ◌+◌, min, max, List, fold}
use Rattle.measures.specs.Measures.{beyond, MeasureMeaning}

-- the heaviest of a list, 0 of none
abbrev pub heaviest : List ℕ → ℕ
heaviest us = fold max 0 us

abbrev pub depth : MeasureMeaning
depth = record {
  channel = λ c. 1;
  operator = λ op us. min (1 + heaviest us) beyond;
}
