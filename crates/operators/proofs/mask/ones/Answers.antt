use Rattle.std.proofs.Common.{◌≡◌, ℕ, refl, ◌∙◌, arith, rules}
use Rattle.std.specs.List.{range_with_len}
use Rattle.std.proofs.lemmas.Iterator.{YieldsList-from_range}
use Rattle.std.proofs.lemmas.Iterator.Consumers.{fold_from_yields_List}
use Rattle.std.proofs.lemmas.List.FromFn.{length-range_with_len}
use Rattle.operators.proofs.Passing.{one_more, passing}
use Rattle.operators.proofs.mask.ones.Goals as goal

pub returns : goal.returns
returns c =
    let few = c.requires in
    let long = length-range_with_len 0 c.args.n in
    fold_from_yields_List {v = λ (x : ℕ). x} _ (one_more c.args.bits) 0 c.fold.result c.fold.ensures.ran
    (YieldsList-from_range 0 c.args.n c.args.n refl (omega arith)) (λ a x b q k. search rules)
    ∙ passing c.args.bits (range_with_len 0 c.args.n) 0 (omega (arith, long, few))
    ∙ omega arith
