use Rattle.std.proofs.Common.{◌≡◌, length}
use Rattle.fixed.specs.Listed.{listed}
use Rattle.printing.specs.Formulas.{Sizes}
use Rattle.printing.proofs.sizes.text_sizes.Given as goal

abbrev pub invariant-loop-piece : goal.invariant-loop-piece
invariant-loop-piece l = (length (listed l.sizes) ≡ l.piece-index) × Sizes l.pieces (length (listed l.sizes)) (listed l.sizes)
