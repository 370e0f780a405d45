-- Where things stand in a book's bytes: one byte for the number of operators, then a head for each, its name and its arity, then a table for each.
use Rattle.std.specs.Prelude.{ℕ, ◌+◌, ◌*◌, List, take, drop, slice_index}
use Rattle.operators.specs.Names.{name_width}

-- the most operators that a book holds
abbrev pub most_entries : ℕ
most_entries = 8

-- how many bands there are, 0 to 14
abbrev pub bands : ℕ
bands = 15

-- a name and an arity
abbrev pub head_width : ℕ
head_width = name_width + 1

-- a byte for each two bands
abbrev pub table_width : ℕ
table_width = bands * bands

-- how many bytes a book of k operators has
abbrev pub book_length : ℕ → ℕ
book_length k = 1 + (head_width + table_width) * k

-- the byte at a place
abbrev pub byte : List ℕ → ℕ → ℕ
byte b p = slice_index b p

abbrev pub count_of : List ℕ → ℕ
count_of b = byte b 0

abbrev pub head_at : ℕ → ℕ
head_at op = 1 + head_width * op

abbrev pub name_of : List ℕ → ℕ → List ℕ
name_of b op = take name_width (drop (head_at op) b)

abbrev pub arity_of : List ℕ → ℕ → ℕ
arity_of b op = byte b (head_at op + name_width)

abbrev pub tables_at : List ℕ → ℕ
tables_at b = 1 + head_width * count_of b

abbrev pub table_at : List ℕ → ℕ → ℕ
table_at b op = tables_at b + table_width * op

abbrev pub cell_of : List ℕ → ℕ → ℕ → ℕ
cell_of b op place = byte b (table_at b op + place)
