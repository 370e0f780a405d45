use Rattle.std.proofs.Common.{◌≡◌, true, false, vec_items, codes, inl, subst, sym, arith, rules}
use Rattle.std.specs.Str.{bytes_eq}
use Rattle.std.proofs.lemmas.Result.{err_from_is_err_and}
use Rattle.sheet_text.specs.Lines.{RowLines}
use Rattle.sheet_text.specs.Refusals.{Faulted}
use Rattle.sheet_text.specs.Sheets.{row_bytes}
use Rattle.sheet_text.proofs.Faults.{text_is}
use Rattle.sheet_text.proofs.LineSteps.{rows_none, rows_more, rows_fault}
use Rattle.sheet_text.proofs.Readings.{first_on, row_on}
use Rattle.sheet_text.proofs.parser.Parser.row_lines.Goals as goal

pub loop-part-init : goal.loop-part-init
loop-part-init c = rows_none _ _ c.new-rows.result c.new-rows.ensures.items

pub returns-then-ne : goal.returns-then-ne
returns-then-ne c =
    let e : bytes_eq c.in-Some.part.bytes.now (codes "row") ≡ false = search rules in
    subst (Faulted (RowLines c.args.channels.value c.args.self.now.lexer c.first_word.new.self.lexer)) (sym c.into.ensures)
    (inl (row_bytes c.loop-part.rows, c.loop-part.self.lexer, c.in-Some.part, c.loop-part.invariant, c.in-Some.ensures, e, text_is _ _ _ c.new.ensures.cause c.new.ensures.spot))

pub returns-in_err-row : goal.returns-in_err-row
returns-in_err-row c =
    let p = err_from_is_err_and c.from_residual.result c.from_residual.ensures.1 in
    let e : true ≡ bytes_eq c.in-Some.part.bytes.now (codes "row") = search rules in
    rw (p.1, p.2)
    (rows_fault c.args.channels.value c.args.self.now.lexer c.loop-part.self.lexer c.first_word.new.self.lexer c.row_line.new.self.lexer c.loop-part.rows c.in-Some.part c.len.result c.in_err-row.field-0.0
    c.len.ensures c.loop-part.invariant c.in-Some.ensures e c.in_err-row.ensures)

pub loop-part-smaller : goal.loop-part-smaller
loop-part-smaller c =
    let a = first_on c.loop-part.self.lexer c.first_word.new.self.lexer c.in-Some.part c.in-Some.ensures in
    let b = row_on c.in-Some.part.spot c.len.result c.args.channels.value c.first_word.new.self.lexer c.row_line.new.self.lexer (vec_items c.in_ok-row.row) c.in_ok-row.ensures in
    omega (arith, a.0, a.1, b.0, b.1, c.row_line.new.self.lexer.within)

pub loop-part-preserved : goal.loop-part-preserved
loop-part-preserved c =
    let e : true ≡ bytes_eq c.in-Some.part.bytes.now (codes "row") = search rules in
    rows_more c.args.channels.value c.args.self.now.lexer c.loop-part.self.lexer c.first_word.new.self.lexer c.row_line.new.self.lexer c.loop-part.rows c.push.new.self c.in_ok-row.row c.in-Some.part c.len.result
    c.in_ok-push.ensures.items c.len.ensures c.loop-part.invariant c.in-Some.ensures e c.in_ok-row.ensures
