-- Where names stand in a text.
use Rattle.std.specs.Prelude.{◌≡◌, ℕ, ◌+◌, ◌≤◌, Bool, true, false, not, ◌&&◌, ◌||◌, List, [], ◌∷◌, take, drop}
use Rattle.std.specs.Str.{bytes_eq}
use Rattle.sheet_text.specs.Forms.{is_name}
use Rattle.rows.specs.declared.span.Span.{Span}

-- lies within a text of so many bytes
abbrev pub InText : ℕ → Span → Type 0
InText size s = s.from + s.size ≤ size

abbrev pub name_at : List ℕ → Span → List ℕ
name_at text s = take s.size (drop s.from text)

-- whether the name is one of those that stand there
abbrev pub repeats : List ℕ → List Span → List ℕ → Bool
repeats text [] name = false
repeats text (s ∷ ss) name = bytes_eq (name_at text s) name || repeats text ss name

-- a name that is well formed and stands for the first time
abbrev pub name_ok : List ℕ → List Span → List ℕ → Bool
name_ok text names name = is_name name && not (repeats text names name)

-- what stands there is a channel name
abbrev pub Formed : List ℕ → Span → Type 0
Formed text s = is_name (name_at text s) ≡ true
