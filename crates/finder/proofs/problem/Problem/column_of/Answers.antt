use Rattle.finder.specs.View.{setting, bank_seen}
use Rattle.finder.proofs.Seen.{channel-right, operator-right}
use Rattle.finder.proofs.problem.Problem.column_of.Goals as goal

pub returns-in-Channel : goal.returns-in-Channel
returns-in-Channel g c =
    let f = c.args.self.now in
    let m = g.S.OperatorSet.meaning f.set in
    channel-right (setting m (g.M.Measure.meaning f.measure) f.sheet) f.sheet (bank_seen m f.sheet.rows.count c.args.bank.now) c.channel_column.result.bands c.channel_column.result.tall m c.in-Channel.channel c.args.candidate c.in-Channel.is c.channel_column.ensures

pub returns-in-Operator : goal.returns-in-Operator
returns-in-Operator g c =
    let f = c.args.self.now in
    let m = g.S.OperatorSet.meaning f.set in
    operator-right (setting m (g.M.Measure.meaning f.measure) f.sheet) f.sheet (bank_seen m f.sheet.rows.count c.args.bank.now) c.operator_column.result.bands c.operator_column.result.tall c.in-Operator.op c.column-first.result.bands c.column-second.result.bands c.args.candidate c.in-Operator.is
    ((g.met.S.OperatorSet.lawful f.set).narrow c.in-Operator.op) (λ j l. c.column-first.ensures m f.sheet.rows.count j l) (λ j l. c.column-second.ensures m f.sheet.rows.count j l) c.operator_column.ensures
