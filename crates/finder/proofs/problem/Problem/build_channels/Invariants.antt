use Rattle.search.specs.Stored.{build}
use Rattle.search.specs.Order.{channel}
use Rattle.search.proofs.Nest.{Through}
use Rattle.finder.specs.View.{setting, rows_seen, held_seen}
use Rattle.finder.proofs.problem.Problem.build_channels.Given as goal

abbrev pub invariant-loop-channel : goal.invariant-loop-channel
invariant-loop-channel g l =
    let m = g.S.OperatorSet.meaning l.self.set in
    let E = setting m (g.M.Measure.meaning l.self.measure) l.self.sheet in
    let F = build E (rows_seen l.self.sheet) l.weight in
    let n = l.self.sheet.rows.count in
    Through F channel l.self.sheet.channels.value (held_seen m n l.bank) l.channel (held_seen m n l.initial.bank)
