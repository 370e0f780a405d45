use Rattle.finder.proofs.Counts.{marks-done}
use Rattle.std.proofs.Common.{ap, ◌∙◌}
use Rattle.search.specs.Marks.{mark, arguments_of}
use Rattle.finder.specs.View.{candidate_seen}
use Rattle.finder.proofs.problem.Problem.marks_of.Goals as goal

pub returns : goal.returns
returns g c =
    let f = c.args.self.now in
    let m = g.S.OperatorSet.meaning f.set in
    let n = f.sheet.rows.count in
    let b = c.args.bank.now in
    marks-done m n b c.args.candidate c.loop-i.i c.loop-i.marks.used c.mark.new.marks.used c.loop-i-test.false
    (c.mark.ensures ∙ ap (mark (arguments_of (candidate_seen m c.args.candidate))) c.none-marks.ensures) c.loop-i.invariant
