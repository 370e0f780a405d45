-- A formula's column over stored rows, in a table of sixteen.
use Rattle.std.specs.Prelude.{◌≡◌, ℕ, ◌-◌, List, ◌++◌, map, length, take, replicate, slice_index_or}
use Rattle.operators.specs.Bands.{mark, SetMeaning}
use Rattle.measures.specs.Measures.{MeasureMeaning}
use Rattle.rows.specs.Read.{row_seen}
use Rattle.rows.specs.declared.row.Row.{Row}
use Rattle.formulas.specs.Formula.{Formula, band, column}
use Rattle.formulas.specs.Setting.{Setting}
use Rattle.formulas.specs.Says.{StepsSay}
use Rattle.formulas.specs.declared.steps.Step.{Step}

-- a table's entries: so many rows have one
abbrev pub table_size : ℕ
table_size = 16

-- the bands in a table, with marks behind them
abbrev pub in_table : List ℕ → List ℕ
in_table bands = bands ++ replicate (table_size - length bands) mark

-- the operators and channels, with a measure, of which columns do not speak
abbrev pub over : SetMeaning → ℕ → MeasureMeaning → Setting
over m channels v = record { set = m; measure = v; channels = channels }

-- the table has the column, over the first sixteen rows, of each formula that the steps say
abbrev pub ColumnIn : SetMeaning → ℕ → List Step → List Row → List ℕ → Type 0
ColumnIn m channels steps rows table =
    (v : MeasureMeaning) (f : Formula) → StepsSay m steps f
    → table ≡ in_table (column (over m channels v) (take table_size (map (row_seen channels) rows)) f)

-- the band of each formula that the steps say in row i, the mark where there is no such row
abbrev pub BandIn : SetMeaning → ℕ → List Step → List Row → ℕ → ℕ → Type 0
BandIn m channels steps rows i b = (f : Formula) → StepsSay m steps f → b ≡ slice_index_or (map (λ r. band m (row_seen channels r).bands f) rows) i mark
