-- What is asked of an operator set, a measure and a channel count for the promise to hold.
use Rattle.std.specs.Prelude.{◌≡◌, ℕ, ◌<◌, ◌≤◌, None}
use Rattle.operators.specs.Bands.{SetMeaning, most_operators, most_arguments}
use Rattle.measures.specs.Measures.{MeasureLaws, most_channels}
use Rattle.rows.specs.Bounds.{limit_refusal}
use Rattle.formulas.specs.Setting.{Setting}

-- of a set only the bounds on the number of its operators and on their arities
pub record SetBounds (m : SetMeaning) : Type 0 where
  pub few : m.count ≤ most_operators
  pub narrow : (op : ℕ) → op < m.count → m.arity op ≤ most_arguments

pub record Laws (E : Setting) : Type 0 where
  pub set : SetBounds E.set
  pub measure : MeasureLaws E.measure
  pub few : E.channels ≤ most_channels

-- what a finder can be opened over, with the limit start
pub record Openable (E : Setting) (start : ℕ) : Type 0 where
  pub laws : Laws E
  pub limit : limit_refusal start ≡ None
