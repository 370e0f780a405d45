-- How a text is read, word by word and line by line.
use Rattle.std.specs.Prelude.{◌⊎◌, Some, None, Option}
use Rattle.sheet_text.specs.declared.lexer.Lexer.{Lexer}
use Rattle.sheet_text.specs.declared.lexer.Part.{Part}
use Rattle.sheet_text.specs.declared.lexer.Word.TheVariants as word
use Rattle.sheet_text.specs.Texts.{Lexed}

-- the next word of the line, or the end of the line or of the text
abbrev pub InLine : Lexer → Lexer → Option Part → Type 0
InLine s t (Some p) = Lexed s t (Some (word.Part p))
InLine s t None = Lexed s t (Some word.LineEnd) ⊎ Lexed s t None

-- from one place to another past the ends of lines that have no more words
pub data Passed (s : Lexer) : Lexer → Type 0 where
  start : Passed s s
  more : (t u : Lexer) → Passed s t → Lexed t u (Some word.LineEnd) → Passed s u

-- the next word, past the ends of lines, or the end of the text
abbrev pub IsFirstWord : Lexer → Lexer → Option Part → Type 0
IsFirstWord s u (Some p) = (t : Lexer) × Passed s t × Lexed t u (Some (word.Part p))
IsFirstWord s u None = (t : Lexer) × Passed s t × Lexed t u None
