use Rattle.std.proofs.Common.{◌≡◌, ℕ, ◌+◌, ◌≤◌, ◌||◌, List, [], ◌∷◌, length, drop, refl, ap, arith, length-take, Some}
use Rattle.std.specs.Str.{bytes_eq}
use Rattle.sheet_text.specs.Spans.{name_at, repeats}
use Rattle.rows.specs.declared.span.Span.{Span}
use Rattle.std.specs.List.{list_any}
use Rattle.sheet_text.specs.Texts.{Lexed, size_of, start_of}
use Rattle.sheet_text.specs.declared.lexer.Lexer.{Lexer}
use Rattle.sheet_text.specs.declared.lexer.Part.{Part}
use Rattle.sheet_text.specs.declared.lexer.Word.TheVariants as word

-- a word that was taken lies within the text
pub word-within : (s t : Lexer) (p : Part) → Lexed s t (Some (word.Part p)) → p.from + length p.bytes.now ≤ length t.text.now
word-within s t p h =
    let e : length p.bytes.now ≤ size_of s = omega (arith, ap length h.1, length-take (size_of s) (drop (start_of s) s.text.now)) in
    omega (arith, h.2, h.4.1, t.within)

pub repeats_any : (text : List ℕ) (names : List Span) (name : List ℕ) → list_any (λ s. bytes_eq (name_at text s) name) names ≡ repeats text names name
repeats_any text [] name = refl
repeats_any text (s ∷ ss) name = ap (λ b. bytes_eq (name_at text s) name || b) (repeats_any text ss name)
