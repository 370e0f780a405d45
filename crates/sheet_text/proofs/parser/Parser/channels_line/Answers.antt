use Rattle.std.proofs.Common.{◌≡◌, vec_items, vec_len, ap, sym, ◌∙◌, inr, arith, rules}
use Rattle.std.proofs.lemmas.Result.{err_from_is_err_and}
use Rattle.refusals.specs.Numbers.{sheet_refusal, refused_by}
use Rattle.sheet_text.specs.Refusals.{sheet_fault}
use Rattle.sheet_text.proofs.LineSteps.{channels-names, channels-refused, mapped_err}
use Rattle.sheet_text.proofs.parser.Parser.channels_line.Goals as goal

pub returns-in_err-names-clause-line : goal.returns-in_err-names-clause-line
returns-in_err-names-clause-line c =
    let p = err_from_is_err_and c.from_residual-in_err-names.result c.from_residual-in_err-names.ensures.1 in
    rw (p.1, p.2)
    (channels-names c.args.self.now.lexer c.due.new.self.lexer c.names.new.self.lexer c.in_ok-head.head c.in_err-names.field-0.0 c.in_ok-head.ensures c.in_err-names.ensures)

pub returns-in_err-channels-clause-line : goal.returns-in_err-channels-clause-line
returns-in_err-channels-clause-line c =
    let p = err_from_is_err_and c.from_residual-in_err-channels.result c.from_residual-in_err-channels.ensures.1 in
    let m = mapped_err _ c.new.result c.map_err.result c.in_err-channels.field-0.0 c.map_err.ensures.cases c.in_err-channels.was in
    let f : c.in_err-channels.field-0.0 ≡ sheet_fault m.0 c.in_ok-head.head = search rules in
    let q = channels-refused m.0 c.len.result (sym (ap (refused_by sheet_refusal) m.1) ∙ c.new.ensures.refused) in
    rw (p.1, p.2) (inr (
      c.due.new.self.lexer,
      c.in_ok-head.head,
      c.in_ok-head.ensures,
      inr (vec_items c.in_ok-names.names, c.in_ok-names.ensures, omega (arith, q.0, c.in_ok-names.names.ok.0, c.len.ensures), f ∙ ap (λ e. sheet_fault e c.in_ok-head.head) q.1),
    ))

pub returns-clause-line : goal.returns-clause-line
returns-clause-line c =
    let n : vec_len c.in_ok-names.names ≡ c.in_ok-channels.channels.value = search rules in
    (c.due.new.self.lexer, c.in_ok-head.head, c.in_ok-head.ensures, c.in_ok-names.ensures, omega (arith, n, c.in_ok-names.names.ok.0, c.in_ok-channels.channels.few))
