use Rattle.std.proofs.Common.{Some, None, refl, sym, ◌∙◌, arith}
use Rattle.std.proofs.lemmas.Map.Keys.{ge_from_not_lt}
use Rattle.finder.proofs.Weighed.{lighter}
use Rattle.finder.specs.View.{setting, rows_seen, bank_seen, candidate_seen}
use Rattle.search.proofs.Offers.{known, unknown, lower-known, lower-new, lower_not, lower_last}
use Rattle.finder.proofs.Seen.{looked_by}
use Rattle.finder.proofs.problem.Problem.lowered.Goals as goal

pub returns-in-Some : goal.returns-in-Some
returns-in-Some g c =
    let f = c.args.self.now in
    let m = g.S.OperatorSet.meaning f.set in
    let E = setting m (g.M.Measure.meaning f.measure) f.sheet in
    let ps = bank_seen m f.sheet.rows.count c.args.bank.now in
    let t = candidate_seen m c.args.candidate in
    lower-known E (rows_seen f.sheet) ps t c.args.best.value (known E (rows_seen f.sheet) ps t _ c.in-Some.field-0 c.column_of-column.ensures (looked_by m c.args.bank.now _ (Some c.in-Some.field-0) _ _ c.len.ensures.count (c.in-Some.ensures m)))

pub returns-in-None : goal.returns-in-None
returns-in-None g c =
    let f = c.args.self.now in
    let m = g.S.OperatorSet.meaning f.set in
    let E = setting m (g.M.Measure.meaning f.measure) f.sheet in
    let ps = bank_seen m f.sheet.rows.count c.args.bank.now in
    let t = candidate_seen m c.args.candidate in
    sym c.value.ensures ∙ lower-new E (rows_seen f.sheet) ps t c.args.best.value c.value.result c.args.last (c.value.ensures ∙ c.weight_of-own.ensures) c.requires c.if-value-last.false (omega (arith, lighter c.weight_of-own.result.value c.args.best.value _ refl (sym c.lt.ensures ∙ c.if-lt.true), c.value.ensures)) (unknown E (rows_seen f.sheet) ps t _ c.column_of-column.ensures (looked_by m c.args.bank.now c.column_of-column.result.bands None _ _ c.len.ensures.count (c.in-None.ensures m)))

pub returns-else-lt : goal.returns-else-lt
returns-else-lt g c =
    let f = c.args.self.now in
    let m = g.S.OperatorSet.meaning f.set in
    let E = setting m (g.M.Measure.meaning f.measure) f.sheet in
    let ps = bank_seen m f.sheet.rows.count c.args.bank.now in
    let t = candidate_seen m c.args.candidate in
    lower_not E (rows_seen f.sheet) ps t c.args.best.value c.value.result (c.value.ensures ∙ c.weight_of-own.ensures) (omega (arith, ge_from_not_lt c.weight_of-own.result.value c.args.best.value (sym c.lt.ensures ∙ c.if-lt.false), c.value.ensures))

pub returns-then-value-last : goal.returns-then-value-last
returns-then-value-last g c =
    let f = c.args.self.now in
    let m = g.S.OperatorSet.meaning f.set in
    let E = setting m (g.M.Measure.meaning f.measure) f.sheet in
    let ps = bank_seen m f.sheet.rows.count c.args.bank.now in
    let t = candidate_seen m c.args.candidate in
    lower_last E (rows_seen f.sheet) ps t c.args.best.value c.value.result c.args.last (c.value.ensures ∙ c.weight_of-own.ensures) c.requires c.if-value-last.true
