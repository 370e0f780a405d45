-- Where a pair's operators are.
use Rattle.std.specs.Prelude.{ℕ, ◌-◌, Some, None, Option}
use Rattle.operators.specs.Bands.{SetMeaning}
use Rattle.operators.specs.Pair.{which}
use Rattle.operators.specs.declared.pair.Side.{Side}
use Rattle.operators.specs.declared.pair.Side.TheVariants.{First, Second}

-- the set that has an operator of the pair, with the operator's number there
abbrev pub side_of : SetMeaning → SetMeaning → ℕ → Option Side
side_of m n op = which m n op (Some (First op)) (Some (Second (op - m.count))) None
