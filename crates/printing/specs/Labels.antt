-- The names of channels and operators.
use Rattle.std.specs.Prelude.{ℕ, ◌+◌, ◌-◌, ◌*◌, Bool, cond, List, [], length, take, drop, ◌==◌, nat_le, nat_lt, slice_index_or}
use Rattle.std.specs.List.{suffix_len}
use Rattle.formulas.specs.declared.steps.Top.{Top}
use Rattle.formulas.specs.declared.steps.Top.TheVariants.{Channel, Operator}
use Rattle.rows.specs.declared.span.Span.{Span}

-- the n bytes from the place i on, or nothing where there are not so many
abbrev pub part : List ℕ → ℕ → ℕ → List ℕ
part xs i n = cond (nat_le (i + n) (length xs)) (take n (drop i xs)) []

abbrev pub space : ℕ → Bool
space b = b == 32

-- without the spaces at the end
abbrev pub trimmed_of : List ℕ → List ℕ
trimmed_of xs = take (length xs - suffix_len space xs) xs

abbrev pub nowhere : Span
nowhere = record { from = 0; size = 0 }

-- an operator's name is four bytes of the names without the spaces at their end, a channel's is its span of the text
abbrev pub label_of : List ℕ → List ℕ → List Span → Top → List ℕ
label_of text names spans (Operator k) = trimmed_of (part names (k * 4) 4)
label_of text names spans (Channel c) =
    cond (nat_lt c (length spans)) (part text (slice_index_or spans c nowhere).from (slice_index_or spans c nowhere).size) []
