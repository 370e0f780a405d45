use Rattle.std.proofs.Common.{sym, ◌∙◌, arith}
use Rattle.finder.proofs.Counts.{tally_filter, length-filter-le}
use Rattle.finder.proofs.steps.Marks.count.Goals as goal

pub returns : goal.returns
returns c =
    let u = c.args.self.now.used in
    let long = c.args.self.now.long in
    let few = length-filter-le c.args.self.now.used in
    let is = c.tallied.ensures in
    record { few = omega arith; all = c.tallied.ensures ∙ sym (tally_filter u) }
