use Rattle.std.proofs.Common.{take, Some, None, sym, ap, ◌∙◌}
use Rattle.std.proofs.lemmas.Bool.Decides.{not_from_Decides}
use Rattle.search.specs.Stored.{grown}
use Rattle.finder.specs.View.{setting, rows_seen, held_seen, candidate_seen}
use Rattle.search.proofs.Offers.{known, unknown, offered-other, offered-fits, offered-known, offered-new}
use Rattle.finder.proofs.Seen.{looked_by}
use Rattle.finder.proofs.problem.Problem.offer.Goals as goal

pub returns-then-value-weight : goal.returns-then-value-weight
returns-then-value-weight g c =
    let f = c.args.self.now in
    let m = g.S.OperatorSet.meaning f.set in
    let E = setting m (g.M.Measure.meaning f.measure) f.sheet in
    let h = held_seen m f.sheet.rows.count c.args.bank.now in
    let t = candidate_seen m c.args.candidate in
    offered-other E (rows_seen f.sheet) c.args.weight h t c.value.result (c.value.ensures ∙ c.weight_of-own.ensures) c.if-value-weight.true

pub returns-then-wants : goal.returns-then-wants
returns-then-wants g c =
    let f = c.args.self.now in
    let m = g.S.OperatorSet.meaning f.set in
    let E = setting m (g.M.Measure.meaning f.measure) f.sheet in
    let h = held_seen m f.sheet.rows.count c.args.bank.now in
    let t = candidate_seen m c.args.candidate in
    offered-fits E (rows_seen f.sheet) c.args.weight h t c.value.result _ (c.value.ensures ∙ c.weight_of-own.ensures) c.if-value-weight.false c.column_of-column.ensures (c.wants.ensures.0 c.if-wants.true)

pub returns-in-Some : goal.returns-in-Some
returns-in-Some g c =
    let f = c.args.self.now in
    let m = g.S.OperatorSet.meaning f.set in
    let E = setting m (g.M.Measure.meaning f.measure) f.sheet in
    let h = held_seen m f.sheet.rows.count c.args.bank.now in
    let t = candidate_seen m c.args.candidate in
    offered-known E (rows_seen f.sheet) c.args.weight h t c.value.result _ (c.value.ensures ∙ c.weight_of-own.ensures) c.if-value-weight.false c.column_of-column.ensures (not_from_Decides _ c.wants.ensures c.if-wants.false)
    (known E (rows_seen f.sheet) h.places t _ c.in-Some.field-0 c.column_of-column.ensures (looked_by m c.args.bank.now _ (Some c.in-Some.field-0) _ _ c.len.ensures.count (c.in-Some.ensures m)))

pub returns-in-None : goal.returns-in-None
returns-in-None g c =
    let f = c.args.self.now in
    let m = g.S.OperatorSet.meaning f.set in
    let E = setting m (g.M.Measure.meaning f.measure) f.sheet in
    let h = held_seen m f.sheet.rows.count c.args.bank.now in
    let t = candidate_seen m c.args.candidate in
    offered-new E (rows_seen f.sheet) c.args.weight h t c.value.result _ (c.value.ensures ∙ c.weight_of-own.ensures) c.if-value-weight.false c.column_of-column.ensures (not_from_Decides _ c.wants.ensures c.if-wants.false)
    (unknown E (rows_seen f.sheet) h.places t _ c.column_of-column.ensures (looked_by m c.args.bank.now c.column_of-column.result.bands None _ _ c.len.ensures.count (c.in-None.ensures m)))
    _ (c.push.ensures m f.sheet.rows.count ∙ ap (λ v. grown h (record { top = t; column = take f.sheet.rows.count c.column_of-column.result.bands; weight = v })) (sym c.value.ensures))
