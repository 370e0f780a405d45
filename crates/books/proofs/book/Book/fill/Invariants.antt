use Rattle.std.proofs.Common.{◌≡◌, ℕ, ◌<◌, length, get_or}
use Rattle.fixed.specs.Listed.{listed}
use Rattle.books.specs.Stored.{Reads}
use Rattle.books.specs.declared.entry.Entry.{Entry}
use Rattle.books.proofs.book.Book.fill.Given as goal

abbrev pub invariant-loop-op : goal.invariant-loop-op
invariant-loop-op l = (length (listed l.entries) ≡ l.op) × ((k : ℕ) (d : Entry) → k < length (listed l.entries) → Reads l.bytes k (get_or (listed l.entries) k d))
