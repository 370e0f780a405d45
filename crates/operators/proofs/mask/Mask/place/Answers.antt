use Rattle.std.proofs.Common.{rules, ◌≡◌, ℕ, sym, ◌∙◌, arith}
use Rattle.std.proofs.lemmas.Iterator.{YieldsList-from_range}
use Rattle.std.proofs.lemmas.Iterator.Consumers.{nth_from_yields_List, YieldsList-from_filter}
use Rattle.std.proofs.lemmas.Iterator.Adapters.{option_map_id}
use Rattle.operators.specs.Mask.{set_at}
use Rattle.operators.proofs.Kept.{kept_filter}
use Rattle.operators.proofs.mask.Mask.place.Goals as goal

pub returns : goal.returns
returns g c =
    let n = (g.S.OperatorSet.meaning c.args.self.now.set).count in
    let e : c.count.result ≡ n = c.count.ensures in
    rw (kept_filter c.args.self.now.bits (g.S.OperatorSet.meaning c.args.self.now.set).count)
    (sym (option_map_id c.nth.result)
    ∙ nth_from_yields_List {v = λ (x : ℕ). x} c.nth.result _ c.args.op c.nth.ensures.ran
    (YieldsList-from_filter _ (set_at c.args.self.now.bits) (YieldsList-from_range _ _ (g.S.OperatorSet.meaning c.args.self.now.set).count c.filter.ensures.source (omega arith)) c.filter.ensures.closure (λ x b q k. search rules)))
