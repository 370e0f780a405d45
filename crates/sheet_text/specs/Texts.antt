-- The words of a text: what a space and a line feed part.
use Rattle.std.specs.Prelude.{◌≡◌, ℕ, ◌+◌, ◌<◌, Bool, not, ◌||◌, List, length, take, drop, ◌==◌, Some, None, Option}
use Rattle.std.specs.List.{prefix_len}
use Rattle.sheet_text.specs.declared.lexer.Lexer.{Lexer}
use Rattle.sheet_text.specs.declared.lexer.Spot.{Spot}
use Rattle.sheet_text.specs.declared.lexer.Word.{Word}
use Rattle.sheet_text.specs.declared.lexer.Word.TheVariants as word

abbrev pub blank : ℕ → Bool
blank b = b == 32

abbrev pub in_word : ℕ → Bool
in_word b = not (b == 32 || b == 10)

-- where a word that comes next stands
abbrev pub here : Lexer → Spot
here s = record { line = s.line + 1; word = s.word + 1 }

-- the next byte that is no space
abbrev pub start_of : Lexer → ℕ
start_of s = s.at + prefix_len blank (drop s.at s.text.now)

-- how many bytes the word there has: none at the end of a line
abbrev pub size_of : Lexer → ℕ
size_of s = prefix_len in_word (drop (start_of s) s.text.now)

abbrev pub part_of : Lexer → List ℕ
part_of s = take (size_of s) (drop (start_of s) s.text.now)

abbrev pub Moved : Lexer → Lexer → ℕ → ℕ → ℕ → ℕ → Type 0
Moved s t at line word last = (t.text ≡ s.text) × (t.at ≡ at) × (t.line ≡ line) × (t.word ≡ word) × (t.last ≡ last)

-- what comes next, nothing at the end of the text, and where the reading stands after it
abbrev pub Lexed : Lexer → Lexer → Option Word → Type 0
Lexed s t (Some (word.Part p)) = (0 < size_of s) × (p.bytes.now ≡ part_of s) × (p.from ≡ start_of s) × (p.spot ≡ here s)
    × Moved s t (start_of s + size_of s) s.line (s.word + 1) (s.line + 1)
Lexed s t (Some word.LineEnd) = (size_of s ≡ 0) × (start_of s < length s.text.now) × Moved s t (start_of s + 1) (s.line + 1) 0 s.last
Lexed s t None = (size_of s ≡ 0) × (start_of s ≡ length s.text.now) × Moved s t (start_of s) s.line s.word s.last

-- nothing is read yet
abbrev pub Fresh : List ℕ → Lexer → Type 0
Fresh text s = (s.text.now ≡ text) × (s.at ≡ 0) × (s.line ≡ 0) × (s.word ≡ 0) × (s.last ≡ 0)
