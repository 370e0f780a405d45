use Rattle.search.specs.Stored.{lowest}
use Rattle.finder.specs.View.{setting, rows_seen, bank_seen}
use Rattle.search.specs.Order.{channel, cell, row, block}
use Rattle.search.proofs.Nest.{Through}
use Rattle.finder.proofs.problem.Problem.level.Given as goal

abbrev pub invariant-loop-channel : goal.invariant-loop-channel
invariant-loop-channel g l =
    let m = g.S.OperatorSet.meaning l.self.set in
    let E = setting m (g.M.Measure.meaning l.self.measure) l.self.sheet in
    let F = lowest E (rows_seen l.self.sheet) (bank_seen m l.self.sheet.rows.count l.bank) in
    Through F channel l.self.sheet.channels.value l.best.value l.channel l.initial.best.value

abbrev pub invariant-loop-second : goal.invariant-loop-second
invariant-loop-second g l =
    let m = g.S.OperatorSet.meaning l.self.set in
    let E = setting m (g.M.Measure.meaning l.self.measure) l.self.sheet in
    let F = lowest E (rows_seen l.self.sheet) (bank_seen m l.self.sheet.rows.count l.bank) in
    Through F (cell (m.arity l.op) l.op l.first) l.seconds l.best.value l.second l.initial.best.value

abbrev pub invariant-loop-first : goal.invariant-loop-first
invariant-loop-first g l =
    let m = g.S.OperatorSet.meaning l.self.set in
    let E = setting m (g.M.Measure.meaning l.self.measure) l.self.sheet in
    let F = lowest E (rows_seen l.self.sheet) (bank_seen m l.self.sheet.rows.count l.bank) in
    Through F (row (m.arity l.op) l.bank.places.count l.op) l.firsts l.best.value l.first l.initial.best.value

abbrev pub invariant-loop-op : goal.invariant-loop-op
invariant-loop-op g l =
    let m = g.S.OperatorSet.meaning l.self.set in
    let E = setting m (g.M.Measure.meaning l.self.measure) l.self.sheet in
    let F = lowest E (rows_seen l.self.sheet) (bank_seen m l.self.sheet.rows.count l.bank) in
    Through F (block m.arity l.bank.places.count) m.count l.best.value l.op l.initial.best.value
