use Rattle.std.proofs.Common.{vec_items, sym, ◌∙◌}
use Rattle.std.proofs.lemmas.Result.{err_from_is_err_and}
use Rattle.sheet_text.proofs.LineSteps.{or_err}
use Rattle.sheet_text.proofs.parser.Parser.bytes.Goals as goal

pub returns-in_err-ok_or : goal.returns-in_err-ok_or
returns-in_err-ok_or c =
    let p = err_from_is_err_and c.from_residual.result c.from_residual.ensures.1 in
    let q = or_err c.byte.result c.malformed.result c.in_err-ok_or.field-0.0 c.in_err-ok_or.ensures.value in
    rw (p.1, p.2) (vec_items c.loop-part.bytes, c.loop-part.self.lexer, c.in-Some.part, c.loop-part.invariant, c.in-Some.ensures, sym c.byte.ensures ∙ q.0, q.1 ∙ c.malformed.ensures)
