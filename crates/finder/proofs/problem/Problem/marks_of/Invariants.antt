use Rattle.std.proofs.Common.{◌≡◌}
use Rattle.search.specs.Marks.{marks}
use Rattle.finder.specs.View.{bank_seen}
use Rattle.finder.proofs.problem.Problem.marks_of.Given as goal

abbrev pub invariant-loop-i : goal.invariant-loop-i
invariant-loop-i g l =
    let m = g.S.OperatorSet.meaning l.self.set in
    let ps = bank_seen m l.self.sheet.rows.count l.bank in
    marks ps l.i l.marks.used ≡ marks ps l.bank.places.count l.initial.marks.used
