-- What a book that is held means, and that it is what some bytes say.
use Rattle.std.specs.Prelude.{◌≡◌, ℕ, List, length, take, drop, Some, None, Option, slice_index}
use Rattle.std.specs.List.{slice_get}
use Rattle.fixed.specs.Listed.{listed}
use Rattle.operators.specs.Bands.{mark, argument, SetMeaning}
use Rattle.operators.specs.Names.{blank}
use Rattle.books.specs.Layout.{table_width, name_of, arity_of, table_at}
use Rattle.books.specs.Meaning.{table_band, book_meaning, book_names}
use Rattle.books.specs.declared.entry.Entry.{Entry}
use Rattle.books.specs.declared.book.Book.{Book}

abbrev pub entry_band : Entry → ℕ → ℕ → ℕ
entry_band e a b = table_band (λ place. slice_index e.table place) e.arity a b

-- the entry at a number, if it is offered
abbrev pub entry_at : Book → ℕ → Option Entry
entry_at book op = slice_get (listed book.entries) op

abbrev pub arity_in : Option Entry → ℕ
arity_in (Some e) = e.arity
arity_in None = 0

abbrev pub band_in : Option Entry → List ℕ → ℕ
band_in (Some e) xs = entry_band e (argument xs 0) (argument xs 1)
band_in None xs = mark

abbrev pub name_in : Option Entry → List ℕ
name_in (Some e) = e.name
name_in None = blank

abbrev pub held_meaning : Book → SetMeaning
held_meaning book = record {
  count = length (listed book.entries);
  arity = λ op. arity_in (entry_at book op);
  band = λ op xs. band_in (entry_at book op) xs;
}

abbrev pub held_names : Book → ℕ → List ℕ
held_names book op = name_in (entry_at book op)

-- the book held offers what the bytes say: as many operators, and each with the same name, arity and bands
pub record Offers (b : List ℕ) (book : Book) : Type 0 where
  pub count : (held_meaning book).count ≡ (book_meaning b).count
  pub arity : (op : ℕ) → (held_meaning book).arity op ≡ (book_meaning b).arity op
  pub band : (op : ℕ) (xs : List ℕ) → (held_meaning book).band op xs ≡ (book_meaning b).band op xs
  pub name : (op : ℕ) → held_names book op ≡ book_names b op

-- an entry as it stands in the bytes
pub record Reads (b : List ℕ) (op : ℕ) (e : Entry) : Type 0 where
  pub name : e.name ≡ name_of b op
  pub arity : e.arity ≡ arity_of b op
  pub table : e.table ≡ take table_width (drop (table_at b op) b)
