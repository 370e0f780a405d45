use Rattle.std.proofs.Common.{◌≡◌, refl, ap, ◌∙◌, arith}
use Rattle.search.specs.Stored.{build}
use Rattle.search.specs.Order.{cell, row, block, span}
use Rattle.search.proofs.Nest.{through_turn, through_more, through_all}
use Rattle.search.proofs.Offers.{build-past, build_hit}
use Rattle.finder.specs.View.{setting, rows_seen, held_seen}
use Rattle.finder.proofs.problem.Problem.build_operators.Given as given
use Rattle.finder.proofs.problem.Problem.build_operators.Goals as goal
use Rattle.finder.proofs.problem.Problem.build_operators.Goals.{After-turns-seconds}

firsts : (g : given.Over) (c : After-turns-seconds g) → c.turns-firsts.result ≡ span ((g.S.OperatorSet.meaning c.args.self.now.set).arity c.operators.op) 0 c.args.places
firsts g c = c.turns-firsts.ensures ∙ ap (λ a. span a 0 c.args.places) c.arity-arity.ensures

seconds : (g : given.Over) (c : After-turns-seconds g) → c.turns-seconds.result ≡ span ((g.S.OperatorSet.meaning c.args.self.now.set).arity c.operators.op) 1 c.args.places
seconds g c = c.turns-seconds.ensures ∙ ap (λ a. span a 1 c.args.places) c.arity-arity.ensures

pub loop-second-preserved : goal.loop-second-preserved
loop-second-preserved g c =
    let f = c.args.self.now in
    let m = g.S.OperatorSet.meaning f.set in
    let E = setting m (g.M.Measure.meaning f.measure) f.sheet in
    let R = rows_seen f.sheet in
    let n = f.sheet.rows.count in
    let F = build E R c.args.weight in (
      c.loop-second.invariant.0,
      through_more F (cell (m.arity c.operators.op) c.operators.op c.loop-first.first) c.turns-seconds.result (held_seen m n c.loop-second.bank) (held_seen m n c.offer.new.bank) _ c.loop-second.second c.loop-second-test.true c.loop-second.invariant.1
          (λ rest. build-past E R c.args.weight _ _ _ rest c.offer.result c.if-offer.false c.offer.ensures),
    )

pub loop-first-preserved : goal.loop-first-preserved
loop-first-preserved g c =
    let f = c.args.self.now in
    let m = g.S.OperatorSet.meaning f.set in
    let E = setting m (g.M.Measure.meaning f.measure) f.sheet in
    let R = rows_seen f.sheet in
    let n = f.sheet.rows.count in
    let F = build E R c.args.weight in (
      c.loop-second.invariant.0,
      through_more F (row (m.arity c.operators.op) c.args.places c.operators.op) c.turns-firsts.result (held_seen m n c.loop-first.bank) (held_seen m n c.loop-second.bank) _ c.loop-first.first c.loop-first-test.true c.loop-first.invariant.1
          (through_all F (cell (m.arity c.operators.op) c.operators.op c.loop-first.first) c.turns-seconds.result _ (seconds g (goal.at.loop-first-preserved g c).After-turns-seconds) _ _ c.loop-second.second c.loop-second-test.false c.loop-second.invariant.1),
    )

pub operators-preserved : goal.operators-preserved
operators-preserved g c =
    let f = c.args.self.now in
    let m = g.S.OperatorSet.meaning f.set in
    let E = setting m (g.M.Measure.meaning f.measure) f.sheet in
    let R = rows_seen f.sheet in
    let n = f.sheet.rows.count in
    let F = build E R c.args.weight in (
      c.loop-first.invariant.0,
      through_more F (block m.arity c.args.places) m.count (held_seen m n c.operators.bank) (held_seen m n c.loop-first.bank) _ c.operators.op (omega (arith, c.count-op-end.ensures)) c.operators.invariant.1
          (through_all F (row (m.arity c.operators.op) c.args.places c.operators.op) c.turns-firsts.result _ (firsts g (goal.at.operators-preserved g c).After-turns-seconds) _ _ c.loop-first.first c.loop-first-test.false c.loop-first.invariant.1),
    )

pub returns-then-offer : goal.returns-then-offer
returns-then-offer g c rest =
    let f = c.args.self.now in
    let m = g.S.OperatorSet.meaning f.set in
    let E = setting m (g.M.Measure.meaning f.measure) f.sheet in
    let R = rows_seen f.sheet in
    let n = f.sheet.rows.count in
    let F = build E R c.args.weight in
    let d = (goal.at.returns-then-offer g c).After-turns-seconds in
    build_hit E R c.args.weight (held_seen m n c.loop-second.bank) (held_seen m n c.offer.new.bank) _ _ c.offer.result c.if-offer.true c.offer.ensures
    ∙ through_turn F (cell (m.arity c.operators.op) c.operators.op c.loop-first.first) c.turns-seconds.result _ (seconds g d) _ _ c.loop-second.second c.loop-second-test.true c.loop-second.invariant.1 _
    ∙ through_turn F (row (m.arity c.operators.op) c.args.places c.operators.op) c.turns-firsts.result _ (firsts g d) _ _ c.loop-first.first c.loop-first-test.true c.loop-first.invariant.1 _
    ∙ through_turn F (block m.arity c.args.places) m.count _ refl _ _ c.operators.op (omega (arith, c.count-op-end.ensures)) c.operators.invariant.1 rest
