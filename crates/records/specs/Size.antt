-- How long a record is.
use Rattle.std.specs.Prelude.{ℕ, suc, ◌+◌, ◌*◌}
use Rattle.operators.specs.Bands.{most_arguments}

-- bytes of a step's argument field: two for each argument
abbrev pub field_width : ℕ
field_width = 2 * most_arguments

-- bytes of the record of n steps: the number of steps, a code for each and a field for each
abbrev pub record_size : ℕ → ℕ
record_size n = 2 + suc field_width * n
