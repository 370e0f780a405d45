use Rattle.std.proofs.Common.{arith}
use Rattle.std.proofs.lemmas.List.Sums.{prefix_len-le-length}
use Rattle.operators.specs.Names.{letter}
use Rattle.books.proofs.book.check.begins.Goals as goal

pub slice_bounds-spaces_only-count : goal.slice_bounds-spaces_only-count
slice_bounds-spaces_only-count c = omega (arith, prefix_len-le-length letter c.args.bytes.now)

pub slice_bounds-spaces_only-start : goal.slice_bounds-spaces_only-start
slice_bounds-spaces_only-start c = omega (arith, prefix_len-le-length letter c.args.bytes.now)
