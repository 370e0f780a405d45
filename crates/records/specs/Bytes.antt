-- Where in the bytes of a record its steps stand: the number of steps in two bytes, a code of one byte for each step, and for each
-- step a field of two bytes for each argument. A number in two bytes has its high byte first.
use Rattle.std.specs.Prelude.{ℕ, suc, ◌+◌, ◌-◌, ◌*◌, ◌/◌, ◌%◌, min, cond, List, [], ◌∷◌, ◌++◌, map, length, nat_lt, slice_index}
use Rattle.std.specs.List.{range_with_len, flat_map}
use Rattle.operators.specs.Bands.{most_operators, most_arguments}
use Rattle.formulas.specs.Says.{argument_of}
use Rattle.formulas.specs.declared.steps.Step.{Step}
use Rattle.formulas.specs.declared.steps.Top.{Top}
use Rattle.formulas.specs.declared.steps.Top.TheVariants.{Channel, Operator}
use Rattle.records.specs.Size.{field_width}

-- ── from bytes to steps ──

-- the number in the two bytes from place p on
abbrev pub number_at : List ℕ → ℕ → ℕ
number_at bytes p = slice_index bytes p * 256 + slice_index bytes (suc p)

-- the number of steps
abbrev pub steps_in : List ℕ → ℕ
steps_in bytes = number_at bytes 0

-- the code of step i, counted from 0
abbrev pub code_at : List ℕ → ℕ → ℕ
code_at bytes i = slice_index bytes (2 + i)

-- the j-th argument of step i, both counted from 0
abbrev pub argument_at : List ℕ → ℕ → ℕ → ℕ
argument_at bytes i j = number_at bytes (2 + (steps_in bytes + (field_width * i + 2 * j)))

-- a code below 64 is an operator's number, any other 64 plus a channel's
abbrev pub top_of : ℕ → Top
top_of code = cond (nat_lt code most_operators) (Operator code) (Channel (code - most_operators))

-- step i
abbrev pub step_at : List ℕ → ℕ → Step
step_at bytes i = record { top = top_of (code_at bytes i); args = map (argument_at bytes i) (range_with_len 0 most_arguments) }

-- the steps of a record
abbrev pub steps_of : List ℕ → List Step
steps_of bytes = map (step_at bytes) (range_with_len 0 (steps_in bytes))

-- ── from steps to bytes ──

-- a number in two bytes
abbrev pub two_bytes : ℕ → List ℕ
two_bytes n = n / 256 ∷ n % 256 ∷ []

-- one byte; 255 for a channel number past 191, which is nowhere there
abbrev pub code_of : Top → ℕ
code_of (Operator k) = k
code_of (Channel c) = min (most_operators + c) 255

abbrev pub step_code : Step → ℕ
step_code s = code_of s.top

abbrev pub field_of : Step → List ℕ
field_of s = flat_map two_bytes (map (argument_of s) (range_with_len 0 most_arguments))

-- the record of the steps
abbrev pub record_of : List Step → List ℕ
record_of steps = two_bytes (length steps) ++ (map step_code steps ++ flat_map field_of steps)
