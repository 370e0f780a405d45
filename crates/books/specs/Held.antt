-- The laws of a book that is held, and what it offers once its entries are read from bytes.
use Rattle.std.specs.Prelude.{◌≡◌, ℕ, zero, suc, ◌+◌, ◌*◌, ◌<◌, ◌≤◌, List, [], ◌∷◌, length, drop, replicate, Some, None, Option, nat_lt, slice_index, slice_index_or, refl}
use Rattle.std.proofs.Common.{sym, ap, subst, ◌∙◌, ⊎_elim, arith, rules}
use Rattle.std.specs.List.{slice_get}
use Rattle.std.proofs.lemmas.List.{get_or-take, get_or-drop}
use Rattle.std.proofs.lemmas.Option.{slice_get-get_or, slice_get_past}
use Rattle.fixed.specs.Listed.{listed}
use Rattle.fixed.proofs.Lengths.{listed-length}
use Rattle.std.proofs.lemmas.Bool.{cond-true, cond-false, lt-ltb, le-ltb, cases_lt}
use Rattle.std.proofs.lemmas.Bool.Decides.{nat_tests}
use Rattle.operators.specs.Bands.{mark, most_arguments, argument, SetLaws}
use Rattle.operators.specs.Names.{Name, NameLaws, blank}
use Rattle.books.specs.Layout.{table_width, count_of, name_of, arity_of, table_at, cell_of}
use Rattle.books.specs.Meaning.{table_band}
use Rattle.books.specs.Stored.{entry_at, arity_in, band_in, name_in, held_meaning, held_names, Offers, Reads}
use Rattle.books.specs.declared.entry.Entry.{Entry}
use Rattle.books.specs.declared.book.Book.{Book}
use Rattle.books.specs.Spellings.{name_from}

pub zeros : (n : ℕ) (i : ℕ) → slice_index (replicate n 0) i ≤ mark
zeros zero i = omega arith
zeros (suc n) zero = omega arith
zeros (suc n) (suc i) = zeros n i

narrow : (o : Option Entry) → arity_in o ≤ most_arguments
narrow (Some e) = e.narrow
narrow None = omega arith

marked : (o : Option Entry) (xs : List ℕ) → band_in o xs ≤ mark
marked (Some e) xs = search (rules, e.banded)
marked None xs = omega arith

local : (o : Option Entry) (xs ys : List ℕ) → ((i : ℕ) → i < arity_in o → argument xs i ≡ argument ys i) → band_in o xs ≡ band_in o ys
local (Some e) xs ys same = search (rules, nat_tests, same 0, same 1)
local None xs ys same = refl

strict : (o : Option Entry) (xs : List ℕ) (i : ℕ) → i < arity_in o → argument xs i ≡ mark → band_in o xs ≡ mark
strict (Some e) xs i h k = let n = e.narrow in search rules
strict None xs i h k = refl

absent : (book : Book) (op : ℕ) → length (listed book.entries) ≤ op → entry_at book op ≡ None
absent book op h = slice_get_past (listed book.entries) op h

pub held_laws : (book : Book) → SetLaws (held_meaning book)
held_laws book = record {
  few = let l = listed-length book.entries in let f = book.entries.few in omega arith;
  narrow = λ op. narrow (entry_at book op);
  marked = λ op xs. marked (entry_at book op) xs;
  absent_arity = λ op h. ap arity_in (absent book op h);
  absent_band = λ op xs h. ap (λ o. band_in o xs) (absent book op h);
  local = λ op xs ys same. local (entry_at book op) xs ys same;
  strict = λ op xs i h e. strict (entry_at book op) xs i h e;
}

nth_some : {X : Type 0} (xs : List X) (i : ℕ) → i < length xs → (x : X) × (slice_get xs i ≡ Some x)
nth_some [] i h = absurd (omega arith)
nth_some (x ∷ xs) zero h = (x, refl)
nth_some (x ∷ xs) (suc i) h = nth_some xs i (omega arith)

-- an operator that is offered has an entry
offered : (book : Book) (op : ℕ) → op < length (listed book.entries) → (e : Entry) × (entry_at book op ≡ Some e) × (e ≡ slice_index_or (listed book.entries) op e)
offered book op h =
    let s = nth_some (listed book.entries) op h in
    let g = slice_get-get_or (listed book.entries) op s.0 h in
    let t = s.1 in
    (s.0, s.1, cc)

pub held_spelt : (book : Book) → NameLaws (held_meaning book) (held_names book)
held_spelt book = record {
  offered = λ op h. let o = offered book op h in
      subst (λ (e : Option Entry). Name (name_in e)) (sym o.1) (name_from o.0.name o.0.wide o.0.spelt);
  absent = λ op h. ap name_in (absent book op h);
}

table_same : (cell other : ℕ → ℕ) (arity a b : ℕ) → ((p : ℕ) → p < table_width → cell p ≡ other p) → table_band cell arity a b ≡ table_band other arity a b
table_same cell other arity a b same =
    let s = same 0 (omega arith) in let t = same a in let u = same (15 * a + b) in grind (arith, nat_tests)

-- entries that are read from bytes offer what the bytes say
pub offers : (b : List ℕ) (book : Book) → length (listed book.entries) ≡ count_of b → ((k : ℕ) (d : Entry) → k < count_of b → Reads b k (slice_index_or (listed book.entries) k d)) → Offers b book
offers b book same reads =
    let here : (op : ℕ) → op < count_of b → (e : Entry) × (entry_at book op ≡ Some e) × Reads b op e =
    λ op l. let o = offered book op (omega arith) in (o.0, o.1, subst (λ (e : Entry). Reads b op e) (sym o.2) (reads op o.0 l)) in
    let past : (op : ℕ) → count_of b ≤ op → entry_at book op ≡ None = λ op l. absent book op (omega arith) in
    record {
      count = same;
      arity = λ op. ⊎_elim
          (λ l. let h = here op l in ap arity_in h.1 ∙ h.2.arity ∙ sym (cond-true (nat_lt op (count_of b)) (arity_of b op) 0 (lt-ltb op (count_of b) l)))
          (λ l. ap arity_in (past op l) ∙ sym (cond-false (nat_lt op (count_of b)) (arity_of b op) 0 (le-ltb op (count_of b) l)))
          (cases_lt op (count_of b));
      band = λ op xs. ⊎_elim
          (λ l. let h = here op l in
          ap (λ o. band_in o xs) h.1
          ∙ ap (λ n. table_band (λ place. slice_index h.0.table place) n (argument xs 0) (argument xs 1)) h.2.arity
          ∙ table_same (λ place. slice_index h.0.table place) (cell_of b op) (arity_of b op) (argument xs 0) (argument xs 1)
          (λ p k. ap (λ t. slice_index t p) h.2.table ∙ get_or-take table_width (drop (table_at b op) b) p 0 k ∙ get_or-drop (table_at b op) b p 0)
          ∙ sym (cond-true (nat_lt op (count_of b)) (table_band (cell_of b op) (arity_of b op) (argument xs 0) (argument xs 1)) mark (lt-ltb op (count_of b) l)))
          (λ l. ap (λ o. band_in o xs) (past op l) ∙ sym (cond-false (nat_lt op (count_of b)) (table_band (cell_of b op) (arity_of b op) (argument xs 0) (argument xs 1)) mark (le-ltb op (count_of b) l)))
          (cases_lt op (count_of b));
      name = λ op. ⊎_elim
          (λ l. let h = here op l in ap name_in h.1 ∙ h.2.name ∙ sym (cond-true (nat_lt op (count_of b)) (name_of b op) blank (lt-ltb op (count_of b) l)))
          (λ l. ap name_in (past op l) ∙ sym (cond-false (nat_lt op (count_of b)) (name_of b op) blank (le-ltb op (count_of b) l)))
          (cases_lt op (count_of b));
    }
