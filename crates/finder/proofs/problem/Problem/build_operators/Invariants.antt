use Rattle.std.proofs.Common.{◌≡◌, None}
use Rattle.search.specs.Stored.{build}
use Rattle.search.specs.Order.{cell, row, block}
use Rattle.search.proofs.Nest.{Through}
use Rattle.finder.specs.View.{setting, rows_seen, held_seen}
use Rattle.finder.proofs.problem.Problem.build_operators.Given as goal

abbrev pub invariant-operators : goal.invariant-operators
invariant-operators g l =
    let m = g.S.OperatorSet.meaning l.self.set in
    let E = setting m (g.M.Measure.meaning l.self.measure) l.self.sheet in
    let F = build E (rows_seen l.self.sheet) l.weight in
    let n = l.self.sheet.rows.count in
    (l.found ≡ None) × Through F (block m.arity l.places) m.count (held_seen m n l.bank) l.op (held_seen m n l.initial.bank)

abbrev pub invariant-loop-first : goal.invariant-loop-first
invariant-loop-first g l =
    let m = g.S.OperatorSet.meaning l.self.set in
    let E = setting m (g.M.Measure.meaning l.self.measure) l.self.sheet in
    let F = build E (rows_seen l.self.sheet) l.weight in
    let n = l.self.sheet.rows.count in
    (l.found ≡ None) × Through F (row (m.arity l.op) l.places l.op) l.firsts (held_seen m n l.bank) l.first (held_seen m n l.initial.bank)

abbrev pub invariant-loop-second : goal.invariant-loop-second
invariant-loop-second g l =
    let m = g.S.OperatorSet.meaning l.self.set in
    let E = setting m (g.M.Measure.meaning l.self.measure) l.self.sheet in
    let F = build E (rows_seen l.self.sheet) l.weight in
    let n = l.self.sheet.rows.count in
    (l.found ≡ None) × Through F (cell (m.arity l.op) l.op l.first) l.seconds (held_seen m n l.bank) l.second (held_seen m n l.initial.bank)
