-- A pair of two sets: the first's operators and then the second's, cut off at 64.
use Rattle.std.specs.Prelude.{ℕ, ◌+◌, ◌-◌, min, cond, List, nat_lt}
use Rattle.operators.specs.Bands.{mark, most_operators, SetMeaning}
use Rattle.operators.specs.Names.{blank}

abbrev pub pair_count : SetMeaning → SetMeaning → ℕ
pair_count m n = min (m.count + n.count) most_operators

-- what a number stands for in the pair: `one` of the first's, else `two` of the second's, or `none` past the end
abbrev pub which : {X : Type 0} → SetMeaning → SetMeaning → ℕ → X → X → X → X
which m n op one two none = cond (nat_lt op m.count) one (cond (nat_lt op (pair_count m n)) two none)

abbrev pub paired : SetMeaning → SetMeaning → SetMeaning
paired m n = record {
  count = pair_count m n;
  arity = λ op. which m n op (m.arity op) (n.arity (op - m.count)) 0;
  band = λ op xs. which m n op (m.band op xs) (n.band (op - m.count) xs) mark;
}

abbrev pub pair_names : SetMeaning → SetMeaning → (ℕ → List ℕ) → (ℕ → List ℕ) → ℕ → List ℕ
pair_names m n first second op = which m n op (first op) (second (op - m.count)) blank
