use Rattle.std.proofs.Common.{◌≡◌, Some, refl, subst}
use Rattle.sheet_text.specs.declared.lexer.Lexer.{Lexer}
use Rattle.sheet_text.specs.declared.lexer.Part.{Part}
use Rattle.sheet_text.specs.declared.lexer.Word.{Word}
use Rattle.sheet_text.specs.declared.lexer.Word.TheVariants as word
use Rattle.sheet_text.specs.Steps.{Passed, start, more}
use Rattle.sheet_text.specs.Texts.{Lexed}
use Rattle.sheet_text.proofs.parser.Parser.first_word.Goals as goal

-- what is no word is the end of a line
past : (s t u : Lexer) (w : Word) → Passed s t → Lexed t u (Some w) → ((p : Part) → w ≡ word.Part p → ⊥) → Passed s u
past s t u (word.Part p) h l n = absurd (n p refl)
past s t u word.LineEnd h l n = more t u h l

pub loop-word-init : goal.loop-word-init
loop-word-init c = start

pub loop-word-preserved : goal.loop-word-preserved
loop-word-preserved c = past _ _ _ c.in-Some.word c.loop-word.invariant c.in-Some.ensures.steps c.in_default-word.not-Part

pub returns-in-Part : goal.returns-in-Part
returns-in-Part c = (c.loop-word.self.lexer, c.loop-word.invariant, subst (λ w. Lexed c.loop-word.self.lexer c.next.new.self (Some w)) c.in-Part.is c.in-Some.ensures.steps)
