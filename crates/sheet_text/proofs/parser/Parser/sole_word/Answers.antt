use Rattle.std.proofs.Common.{Some, subst, inr}
use Rattle.sheet_text.specs.Steps.{InLine}
use Rattle.sheet_text.proofs.Faults.{text_is}
use Rattle.sheet_text.proofs.parser.Parser.sole_word.Goals as goal
use Rattle.sheet_text.proofs.parser.Parser.sole_word.Goals.{In_ok-part}

taken : (c : In_ok-part) → InLine c.args.self.now.lexer c.word_in_line.new.self.lexer (Some c.in_ok-part.part)
taken c = subst (InLine c.args.self.now.lexer c.word_in_line.new.self.lexer) c.in_ok-part.ensures.ok_part c.word_in_line.ensures

pub returns-in-Some : goal.returns-in-Some
returns-in-Some c =
    (text_is _ _ _ c.new-fault.ensures.cause c.new-fault.ensures.spot, inr (c.word_in_line.new.self.lexer, c.in_ok-part.part, c.in-Some.field-0, taken (goal.at.returns-in-Some c).In_ok-part, c.in-Some.ensures))

pub returns-in-None : goal.returns-in-None
returns-in-None c = (c.word_in_line.new.self.lexer, taken (goal.at.returns-in-None c).In_ok-part, c.in-None.ensures)
