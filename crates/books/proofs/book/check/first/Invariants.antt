use Rattle.std.proofs.Common.{ℕ, ◌<◌, false}
use Rattle.books.proofs.book.check.first.Given as goal

abbrev pub invariant-loop-p : goal.invariant-loop-p
invariant-loop-p g l = (q : ℕ) → q < l.p → goal.F-post g l.rule q false
