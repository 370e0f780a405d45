-- What the operators of a book are, straight from its bytes.
use Rattle.std.specs.Prelude.{ℕ, ◌+◌, ◌*◌, cond, List, ◌==◌, nat_lt}
use Rattle.operators.specs.Bands.{mark, argument, SetMeaning}
use Rattle.operators.specs.Builtin.{given, both}
use Rattle.operators.specs.Names.{blank}
use Rattle.books.specs.Layout.{bands, count_of, name_of, arity_of, cell_of}

-- the band that a table gives for a and b by its arity: the first place, place a, or place 15 a + b; 15 where a used argument is 15
abbrev pub table_band : (ℕ → ℕ) → ℕ → ℕ → ℕ → ℕ
table_band cell arity a b =
    cond (arity == 0) (cell 0) (cond (arity == 1) (given a (cell a)) (both a b (cell (bands * a + b))))

abbrev pub book_meaning : List ℕ → SetMeaning
book_meaning b = record {
  count = count_of b;
  arity = λ op. cond (nat_lt op (count_of b)) (arity_of b op) 0;
  band = λ op xs. cond (nat_lt op (count_of b)) (table_band (cell_of b op) (arity_of b op) (argument xs 0) (argument xs 1)) mark;
}

abbrev pub book_names : List ℕ → ℕ → List ℕ
book_names b op = cond (nat_lt op (count_of b)) (name_of b op) blank
