use Rattle.std.proofs.Common.{◌≡◌, [], ◌∷◌, ◌++◌, vec_items, ap, ◌∙◌, subst, sym}
use Rattle.sheet_text.specs.Lines.{Names}
use Rattle.sheet_text.specs.Refusals.{Faulted}
use Rattle.sheet_text.specs.Spans.{name_ok}
use Rattle.sheet_text.proofs.LineSteps.{named_none, named_more, name-same}
use Rattle.sheet_text.proofs.Readings.{named_text, names_before}
use Rattle.sheet_text.proofs.parser.Parser.names.Goals as goal
use Rattle.sheet_text.proofs.parser.Parser.names.Goals.{After-is_new_name}

-- the name was judged over the whole line's text
judged : (c : After-is_new_name) → name_ok c.args.self.now.lexer.text.now (vec_items c.loop-part.names) c.in-Some.part.bytes.now ≡ c.is_new_name.result
judged c =
    name-same c.args.self.now.lexer.text.now c.word_in_line.new.self.lexer.text.now (vec_items c.loop-part.names) c.deref.result.now c.in-Some.part.bytes.now c.is_new_name.result
    (ap (λ t. t.now) (c.in-Some.ensures.4.0 ∙ named_text c.args.self.now.lexer (vec_items c.loop-part.names) c.loop-part.self.lexer c.loop-part.invariant)) c.deref.ensures.value c.is_new_name.ensures

pub loop-part-init : goal.loop-part-init
loop-part-init c = named_none _ _ c.new-names.ensures.items

pub is_new_name-requires : goal.is_new_name-requires
is_new_name-requires c =
    names_before c.args.self.now.lexer c.loop-part.self.lexer c.word_in_line.new.self.lexer c.in-Some.part (vec_items c.loop-part.names) c.deref.result.now
    c.deref.ensures.value c.loop-part.invariant c.in-Some.ensures

pub returns-then-not-is_new_name : goal.returns-then-not-is_new_name
returns-then-not-is_new_name c =
    let e = judged (goal.at.returns-then-not-is_new_name c).After-is_new_name in
    subst (Faulted (Names c.args.self.now.lexer c.word_in_line.new.self.lexer)) (sym c.into.ensures)
    (vec_items c.loop-part.names, c.loop-part.self.lexer, c.in-Some.part, c.loop-part.invariant, c.in-Some.ensures, e ∙ c.if-not-is_new_name.true, c.malformed.ensures)

pub loop-part-preserved : goal.loop-part-preserved
loop-part-preserved c =
    let e = judged (goal.at.loop-part-preserved c).After-is_new_name in
    named_more c.args.self.now.lexer c.loop-part.self.lexer c.word_in_line.new.self.lexer (vec_items c.loop-part.names) _ c.in-Some.part
    (c.in_ok-push.ensures.items ∙ ap (λ s. vec_items c.loop-part.names ++ (s ∷ [])) c.span.ensures) c.loop-part.invariant c.in-Some.ensures (e ∙ c.if-not-is_new_name.false)
