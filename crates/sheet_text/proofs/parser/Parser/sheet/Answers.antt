use Rattle.std.proofs.Common.{vec_items, sym, ◌∙◌, inl, inr}
use Rattle.std.proofs.lemmas.Result.{err_from_is_err_and}
use Rattle.sheet_text.proofs.LineSteps.{sheet_rows}
use Rattle.sheet_text.proofs.parser.Parser.sheet.Goals as goal

pub returns-in_err-measure-clause-read : goal.returns-in_err-measure-clause-read
returns-in_err-measure-clause-read c =
    let p = err_from_is_err_and c.from_residual-in_err-measure.result c.from_residual-in_err-measure.ensures.1 in
    rw (p.1, p.2) (inr (c.channels_line.new.self.lexer, vec_items c.in_ok-names.names, c.in_ok-names.ensures.line, inl c.in_err-measure.ensures))

pub returns-in_err-limit-clause-read : goal.returns-in_err-limit-clause-read
returns-in_err-limit-clause-read c =
    let p = err_from_is_err_and c.from_residual-in_err-limit.result c.from_residual-in_err-limit.ensures.1 in
    rw (p.1, p.2) (inr (
      c.channels_line.new.self.lexer,
      vec_items c.in_ok-names.names,
      c.in_ok-names.ensures.line,
      inr (c.measure_line.new.self.lexer, c.in_ok-measure.measure, c.in_ok-measure.ensures, inl c.in_err-limit.ensures),
    ))

pub returns-in_err-rows-clause-read : goal.returns-in_err-rows-clause-read
returns-in_err-rows-clause-read c =
    let p = err_from_is_err_and c.from_residual-in_err-rows.result c.from_residual-in_err-rows.ensures.1 in
    rw (p.1, p.2)
    (sheet_rows c.args.self.now.lexer c.channels_line.new.self.lexer c.measure_line.new.self.lexer c.limit_line.new.self.lexer c.row_lines.new.self.lexer
    (vec_items c.in_ok-names.names) c.in_ok-measure.measure c.in_ok-limit.limit.value c.in_ok-names.channels.value c.in_err-rows.field-0.0
    (sym c.in_ok-names.ensures.count ∙ c.in_ok-names.names.ok.0) c.in_ok-names.ensures.line c.in_ok-measure.ensures c.in_ok-limit.ensures c.in_err-rows.ensures)

pub returns-clause-read : goal.returns-clause-read
returns-clause-read c =
    (c.channels_line.new.self.lexer, c.measure_line.new.self.lexer, c.limit_line.new.self.lexer, c.in_ok-names.ensures.line, c.in_ok-measure.ensures, c.in_ok-limit.ensures, c.in_ok-rows.ensures)
