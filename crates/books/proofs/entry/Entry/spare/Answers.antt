use Rattle.std.proofs.Common.{refl, arith}
use Rattle.books.specs.Held.{zeros}
use Rattle.books.proofs.entry.Entry.spare.Goals as goal

pub invariant_of-result : goal.invariant_of-result
invariant_of-result c = record { wide = refl; spelt = refl; narrow = omega arith; banded = zeros 225 }
