use Rattle.std.proofs.Common.{◌-◌, length}
use Rattle.sheet_text.specs.Steps.{Passed}
use Rattle.sheet_text.proofs.parser.Parser.first_word.Given as goal

abbrev pub invariant-loop-word : goal.invariant-loop-word
invariant-loop-word l = Passed l.initial.self.lexer l.self.lexer

abbrev pub decreases-loop-word : goal.decreases-loop-word
decreases-loop-word l = length l.self.lexer.text.now - l.self.lexer.at
