use Rattle.std.proofs.Common.{◌-◌, length, take, ap, ◌∙◌, rules}
use mathlib.Core.List.{reverse}
use borrow.Author.Tests.{tests}
use Rattle.std.proofs.lemmas.Iterator.Adapters.{YieldsList-from_rev_slice}
use Rattle.std.proofs.lemmas.Iterator.Consumers.{YieldsList-at, count_from_yields_List}
use Rattle.std.proofs.lemmas.Iterator.Search.{YieldsList-from_take_while}
use Rattle.std.proofs.lemmas.List.Folds.{length-prefix_len}
use Rattle.printing.specs.Labels.{space}
use Rattle.printing.proofs.labels.trimmed.Goals as goal

pub returns : goal.returns
returns c =
    let xs = c.args.bytes.now in
    let spaces =
    count_from_yields_List c.take_while.result c.count-spaces.result c.count-spaces.ensures.ran
    (YieldsList-from_take_while _ space (YieldsList-at c.take_while.ensures.source (YieldsList-from_rev_slice xs (cc))) c.take_while.ensures.closure c.take_while.ensures.done (λ x b q k. search (rules, tests)))
    ∙ length-prefix_len space (reverse xs) in
    ap (λ n. take (length xs - n) xs) spaces
