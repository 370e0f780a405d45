use Rattle.std.proofs.Common.{◌-◌, length, vec_items}
use Rattle.sheet_text.specs.Lines.{BytesRead}
use Rattle.sheet_text.proofs.parser.Parser.bytes.Given as goal

abbrev pub invariant-loop-part : goal.invariant-loop-part
invariant-loop-part l = BytesRead l.initial.self.lexer (vec_items l.bytes) l.self.lexer

abbrev pub decreases-loop-part : goal.decreases-loop-part
decreases-loop-part l = length l.self.lexer.text.now - l.self.lexer.at
