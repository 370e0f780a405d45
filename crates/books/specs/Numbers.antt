-- Each refusal's number and place. The place is the first byte at fault, counted from 0; for a length or a number it is 0.
use Rattle.std.specs.Prelude.{ℕ}
use Rattle.books.specs.declared.refusal.BookRefusal.{BookRefusal}
use Rattle.books.specs.declared.refusal.BookRefusal.TheVariants.{Length, Count, Name, Arity, Cell}

abbrev pub refusal_of : BookRefusal → ℕ × ℕ
refusal_of Length = (10, 0)
refusal_of Count = (11, 0)
refusal_of (Arity p) = (12, p)
refusal_of (Cell p) = (13, p)
refusal_of (Name p) = (14, p)
