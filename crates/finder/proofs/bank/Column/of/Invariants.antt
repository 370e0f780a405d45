use Rattle.std.proofs.Common.{◌≡◌, ℕ, ◌<◌, length, get_or}
use Rattle.finder.proofs.bank.Column.of.Given as goal

abbrev pub invariant-loop-j : goal.invariant-loop-j
invariant-loop-j g l = (length l.bands ≡ 16) × ((k : ℕ) → k < l.j → goal.F-post g l.band k (get_or l.bands k 15))
