-- What formulas are made over.
use Rattle.std.specs.Prelude.{ℕ}
use Rattle.operators.specs.Bands.{SetMeaning}
use Rattle.measures.specs.Measures.{MeasureMeaning}

-- the operators, the measure and the number of channels
pub record Setting : Type 0 where
  pub set : SetMeaning
  pub measure : MeasureMeaning
  pub channels : ℕ
