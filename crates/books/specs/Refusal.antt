-- Why a book's bytes are refused, and where: an empty book before all else, then each fault over the whole book before the next.
use Rattle.std.specs.Prelude.{ℕ, zero, suc, ◌+◌, ◌-◌, ◌/◌, ◌%◌, Bool, true, cond, not, ◌&&◌, List, length, take, drop, Some, None, Option, ◌==◌, nat_le, nat_lt}
use Rattle.std.specs.List.{prefix_len, list_all}
use Rattle.operators.specs.Bands.{mark, most_arguments}
use Rattle.operators.specs.Names.{letter, space, name_width}
use Rattle.books.specs.Layout.{most_entries, bands, head_width, table_width, book_length, byte, count_of, arity_of, tables_at}

abbrev pub all_spaces : List ℕ → Bool
all_spaces cs = list_all (λ c. c == space) cs

-- whether a good name can go on after these bytes: letters, at least one, and then spaces
abbrev pub begins_name : List ℕ → Bool
begins_name cs = nat_le 1 (prefix_len letter cs) && all_spaces (drop (prefix_len letter cs) cs)

-- whether the byte at p is of a head, and which one of it
abbrev pub in_heads : List ℕ → ℕ → Bool
in_heads b p = nat_le 1 p && nat_lt p (tables_at b)

abbrev pub of_head : ℕ → ℕ
of_head p = (p - 1) % head_width

-- a byte of a name by which no good name can go on
abbrev pub bad_name : List ℕ → ℕ → Bool
bad_name b p = in_heads b p && (nat_lt (of_head p) name_width && not (begins_name (take (of_head p + 1) (drop (p - of_head p) b))))

-- an arity above 2
abbrev pub bad_arity : List ℕ → ℕ → Bool
bad_arity b p = in_heads b p && (of_head p == name_width && nat_lt most_arguments (byte b p))

-- whether a place of a table is used: the first by arity 0, the first 15 by arity 1, all by arity 2
abbrev pub used : ℕ → ℕ → Bool
used arity place = cond (arity == 0) (nat_lt place 1) (cond (arity == 1) (nat_lt place bands) true)

-- the arity of the operator whose table has the byte at p
abbrev pub arity_for : List ℕ → ℕ → ℕ
arity_for b p = arity_of b ((p - tables_at b) / table_width)

-- a used table byte above 15, or an unused one that is not 0
abbrev pub bad_cell : List ℕ → ℕ → Bool
bad_cell b p = nat_le (tables_at b) p && cond (used (arity_for b p) ((p - tables_at b) % table_width)) (nat_lt mark (byte b p)) (not (byte b p == 0))

abbrev pub sooner : Option ℕ → Option ℕ → Option ℕ
sooner (Some p) other = Some p
sooner None other = other

-- the first place below n that passes the test
abbrev pub first : (ℕ → Bool) → ℕ → Option ℕ
first test zero = None
first test (suc n) = sooner (first test n) (cond (test n) (Some n) None)

-- the number with the place, if there is one, else what comes after
abbrev pub or_else : ℕ → Option ℕ → Option (ℕ × ℕ) → Option (ℕ × ℕ)
or_else number (Some p) after = Some (number, p)
or_else number None after = after

-- the first name at fault, then the first arity, then the first byte of a table
abbrev pub bytes_refusal : List ℕ → Option (ℕ × ℕ)
bytes_refusal b = or_else 14 (first (bad_name b) (length b)) (or_else 12 (first (bad_arity b) (length b)) (or_else 13 (first (bad_cell b) (length b)) None))

-- the number and the place of what a book is refused for, if it is
abbrev pub book_refusal : List ℕ → Option (ℕ × ℕ)
book_refusal b =
    cond (length b == 0) (Some (10, 0))
    (cond (nat_lt most_entries (count_of b)) (Some (11, 0))
    (cond (length b == book_length (count_of b))
    (bytes_refusal b)
    (Some (10, 0))))
