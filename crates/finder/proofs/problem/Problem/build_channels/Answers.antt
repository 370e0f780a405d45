use Rattle.std.proofs.Common.{refl, ◌∙◌, arith}
use Rattle.search.specs.Stored.{build}
use Rattle.search.specs.Order.{channel}
use Rattle.search.proofs.Nest.{through_turn, through_more}
use Rattle.search.proofs.Offers.{build-past, build_hit}
use Rattle.finder.specs.View.{setting, rows_seen, held_seen}
use Rattle.finder.proofs.problem.Problem.build_channels.Goals as goal

pub loop-channel-preserved : goal.loop-channel-preserved
loop-channel-preserved g c =
    let f = c.args.self.now in
    let m = g.S.OperatorSet.meaning f.set in
    let E = setting m (g.M.Measure.meaning f.measure) f.sheet in
    let R = rows_seen f.sheet in
    let n = f.sheet.rows.count in
    let F = build E R c.args.weight in
    through_more F channel f.sheet.channels.value (held_seen m n c.loop-channel.bank) (held_seen m n c.offer.new.bank) _ c.loop-channel.channel (omega (arith, c.get-channels.ensures)) c.loop-channel.invariant
    (λ rest. build-past E R c.args.weight _ _ _ rest c.offer.result c.if-offer.false c.offer.ensures)

pub returns-then-offer : goal.returns-then-offer
returns-then-offer g c rest =
    let f = c.args.self.now in
    let m = g.S.OperatorSet.meaning f.set in
    let E = setting m (g.M.Measure.meaning f.measure) f.sheet in
    let R = rows_seen f.sheet in
    let n = f.sheet.rows.count in
    let F = build E R c.args.weight in
    build_hit E R c.args.weight (held_seen m n c.loop-channel.bank) (held_seen m n c.offer.new.bank) _ _ c.offer.result c.if-offer.true c.offer.ensures
    ∙ through_turn F channel f.sheet.channels.value _ refl _ _ c.loop-channel.channel (omega (arith, c.get-channels.ensures)) c.loop-channel.invariant rest
