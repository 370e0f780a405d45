use Rattle.std.proofs.Common.{ℕ, false, ap, ◌∙◌}
use Rattle.search.specs.Stored.{build}
use Rattle.search.specs.Order.{block, up_from}
use Rattle.finder.specs.View.{setting, rows_seen, bank_seen, held_seen, option_seen}
use Rattle.finder.proofs.Loops.{ordered, builds_end}
use Rattle.finder.proofs.problem.Problem.build.Goals as goal

pub returns-in-Some : goal.returns-in-Some
returns-in-Some g c =
    let f = c.args.self.now in
    let m = g.S.OperatorSet.meaning f.set in
    let E = setting m (g.M.Measure.meaning f.measure) f.sheet in
    let R = rows_seen f.sheet in
    let n = f.sheet.rows.count in
    let F = build E R c.args.weight in
    let b = c.args.bank.now in
    c.in-Some.ensures (up_from (block m.arity b.places.count) m.count 0)
    ∙ ap (F (record { places = bank_seen m n b; over = false })) (ordered m (g.M.Measure.meaning f.measure) f.sheet b (g.met.S.OperatorSet.lawful f.set).narrow)

pub returns-in-None : goal.returns-in-None
returns-in-None g c =
    let f = c.args.self.now in
    let m = g.S.OperatorSet.meaning f.set in
    let E = setting m (g.M.Measure.meaning f.measure) f.sheet in
    let R = rows_seen f.sheet in
    let n = f.sheet.rows.count in
    let F = build E R c.args.weight in
    let b = c.args.bank.now in
    let places = c.len-places.ensures.count in
    builds_end E R c.args.weight _ _ (option_seen m c.build_operators.result) _ c.build_operators.ensures
    ∙ ap (λ (k : ℕ). build E R c.args.weight (held_seen m n c.build_channels.new.bank) (up_from (block m.arity k) m.count 0)) places
    ∙ c.in-None.ensures (up_from (block m.arity b.places.count) m.count 0)
    ∙ ap (F (record { places = bank_seen m n b; over = false })) (ordered m (g.M.Measure.meaning f.measure) f.sheet b (g.met.S.OperatorSet.lawful f.set).narrow)
