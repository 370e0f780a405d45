use Rattle.std.proofs.Common.{take, sym, ap, ◌∙◌, arith}
use Rattle.std.proofs.lemmas.List.{length-take}
use Rattle.search.specs.Marks.{tally}
use Rattle.finder.proofs.Counts.{tally_filter, length-filter-le, take_min}
use Rattle.finder.proofs.steps.Marks.rank.Goals as goal

pub overflow_cast-result : goal.overflow_cast-result
overflow_cast-result c =
    let u = c.args.self.now.used in
    let few = length-filter-le (take c.min.result u) in
    let long = c.args.self.now.long in
    let is = c.tallied.ensures in
    let at = c.min.ensures in
    omega (arith, length-take c.min.result u)

pub returns : goal.returns
returns c =
    let u = c.args.self.now.used in
    c.tallied.ensures ∙ sym (tally_filter (take c.min.result u))
    ∙ ap (λ k. tally (take k u)) c.min.ensures
    ∙ ap tally (take_min u c.args.place 512 c.args.self.now.long)
