use Rattle.std.proofs.Common.{◌≡◌, [], ◌++◌, refl, ap, ap₂, ◌∙◌, arith}
use Rattle.std.proofs.lemmas.List.{append-nil}
use Rattle.measures.specs.Measures.{beyond}
use Rattle.search.specs.Stored.{lowest}
use Rattle.finder.specs.View.{setting, rows_seen, bank_seen}
use Rattle.search.specs.Order.{channel, cell, row, block, span, up_from}
use Rattle.search.proofs.Nest.{through_more, through_all}
use Rattle.finder.proofs.Loops.{ordered}
use Rattle.finder.proofs.problem.Problem.level.Given as given
use Rattle.finder.proofs.problem.Problem.level.Goals as goal
use Rattle.finder.proofs.problem.Problem.level.Goals.{After-turns-seconds}

firsts : (g : given.Over) (c : After-turns-seconds g) → c.turns-firsts.result ≡ span ((g.S.OperatorSet.meaning c.args.self.now.set).arity c.loop-op.op) 0 c.args.bank.now.places.count
firsts g c = c.turns-firsts.ensures ∙ ap₂ (λ a n. span a 0 n) c.arity-arity.ensures c.len-places.ensures.count

seconds : (g : given.Over) (c : After-turns-seconds g) → c.turns-seconds.result ≡ span ((g.S.OperatorSet.meaning c.args.self.now.set).arity c.loop-op.op) 1 c.args.bank.now.places.count
seconds g c = c.turns-seconds.ensures ∙ ap₂ (λ a n. span a 1 n) c.arity-arity.ensures c.len-places.ensures.count

pub loop-channel-preserved : goal.loop-channel-preserved
loop-channel-preserved g c =
    let f = c.args.self.now in
    let m = g.S.OperatorSet.meaning f.set in
    let E = setting m (g.M.Measure.meaning f.measure) f.sheet in
    let b = c.args.bank.now in
    let F = lowest E (rows_seen f.sheet) (bank_seen m f.sheet.rows.count b) in
    through_more F channel f.sheet.channels.value _ _ _ c.loop-channel.channel (omega (arith, c.get-channels.ensures)) c.loop-channel.invariant
    (λ rest. ap (λ v. F v rest) c.lowered-best.ensures)

pub loop-second-preserved : goal.loop-second-preserved
loop-second-preserved g c =
    let f = c.args.self.now in
    let m = g.S.OperatorSet.meaning f.set in
    let E = setting m (g.M.Measure.meaning f.measure) f.sheet in
    let b = c.args.bank.now in
    let F = lowest E (rows_seen f.sheet) (bank_seen m f.sheet.rows.count b) in
    through_more F (cell (m.arity c.loop-op.op) c.loop-op.op c.loop-first.first) c.turns-seconds.result _ _ _ c.loop-second.second c.loop-second-test.true c.loop-second.invariant
    (λ rest. ap (λ v. F v rest) c.lowered-best-in-loop-second.ensures)

pub loop-first-preserved : goal.loop-first-preserved
loop-first-preserved g c =
    let f = c.args.self.now in
    let m = g.S.OperatorSet.meaning f.set in
    let E = setting m (g.M.Measure.meaning f.measure) f.sheet in
    let b = c.args.bank.now in
    let F = lowest E (rows_seen f.sheet) (bank_seen m f.sheet.rows.count b) in
    through_more F (row (m.arity c.loop-op.op) b.places.count c.loop-op.op) c.turns-firsts.result _ _ _ c.loop-first.first c.loop-first-test.true c.loop-first.invariant
    (through_all F (cell (m.arity c.loop-op.op) c.loop-op.op c.loop-first.first) c.turns-seconds.result _ (seconds g (goal.at.loop-first-preserved g c).After-turns-seconds) _ _ c.loop-second.second c.loop-second-test.false c.loop-second.invariant)

pub loop-op-preserved : goal.loop-op-preserved
loop-op-preserved g c =
    let f = c.args.self.now in
    let m = g.S.OperatorSet.meaning f.set in
    let E = setting m (g.M.Measure.meaning f.measure) f.sheet in
    let b = c.args.bank.now in
    let F = lowest E (rows_seen f.sheet) (bank_seen m f.sheet.rows.count b) in
    through_more F (block m.arity b.places.count) m.count _ _ _ c.loop-op.op (omega (arith, c.count-op-end.ensures)) c.loop-op.invariant
    (through_all F (row (m.arity c.loop-op.op) b.places.count c.loop-op.op) c.turns-firsts.result _ (firsts g (goal.at.loop-op-preserved g c).After-turns-seconds) _ _ c.loop-first.first c.loop-first-test.false c.loop-first.invariant)

pub returns : goal.returns
returns g c =
    let f = c.args.self.now in
    let m = g.S.OperatorSet.meaning f.set in
    let E = setting m (g.M.Measure.meaning f.measure) f.sheet in
    let b = c.args.bank.now in
    let F = lowest E (rows_seen f.sheet) (bank_seen m f.sheet.rows.count b) in
    through_all F (block m.arity b.places.count) m.count _ refl _ _ c.loop-op.op (omega (arith, c.count-op-end.ensures)) c.loop-op.invariant []
    ∙ ap (F c.loop-channel.best.value) (append-nil (up_from (block m.arity b.places.count) m.count 0))
    ∙ through_all F channel f.sheet.channels.value _ refl _ _ c.loop-channel.channel (omega (arith, c.get-channels.ensures)) c.loop-channel.invariant (up_from (block m.arity b.places.count) m.count 0)
    ∙ ap (λ v. F v (up_from channel f.sheet.channels.value 0 ++ up_from (block m.arity b.places.count) m.count 0)) c.beyond-best.ensures
    ∙ ap (F beyond) (ordered m (g.M.Measure.meaning f.measure) f.sheet b (g.met.S.OperatorSet.lawful f.set).narrow)
