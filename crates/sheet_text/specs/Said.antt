-- What a sheet text says, or its first fault: line by line, each line wholly before the next, word by word within a line.
use Rattle.std.specs.Prelude.{◌≡◌, ℕ, suc, ◌+◌, ◌≤◌, Bool, false, cond, not, ◌&&◌, ◌||◌, List, [], ◌∷◌, ◌++◌, map, length, Some, None, Ok, Err, vec_items, codes, Option, Result, ◌==◌, nat_le, nat_lt}
use Rattle.std.specs.Str.{bytes_eq}
use Rattle.rows.specs.Bounds.{most_rows, channels_refusal, limit_refusal}
use Rattle.rows.specs.Rows.{Judged, said, refused, judged}
use Rattle.sheet_text.specs.Layers.{Layer, in_text, in_row, in_finder, cause_layer}
use Rattle.sheet_text.specs.Forms.{is_name, number_of, byte_of, measure_of}
use Rattle.sheet_text.specs.Refusals.{fault_number}
use Rattle.sheet_text.specs.Spans.{name_at}
use Rattle.sheet_text.specs.Sheets.{row_bytes}
use Rattle.sheet_text.specs.declared.refusal.Fault.{Fault}
use Rattle.sheet_text.specs.declared.refusal.ParseError.{ParseError}
use Rattle.sheet_text.specs.declared.refusal.ParseError.TheVariants as error
use Rattle.sheet_text.specs.declared.sheet.MeasureKind.{MeasureKind}
use Rattle.sheet_text.specs.declared.sheet.SheetText.{SheetText}

-- ── faults ──

-- the layer, the refusal's number, and its place: line and word, each counted from 1
pub record Placed : Type 0 where
  pub layer : Layer
  pub number : ℕ
  pub line : ℕ
  pub word : ℕ

abbrev pub placed : Layer → ℕ → ℕ → ℕ → Placed
placed l n line word = record { layer = l; number = n; line = line; word = word }

-- ── lines and words ──

abbrev pub before_first : ℕ → List (List ℕ) → List (List ℕ)
before_first b [] = (b ∷ []) ∷ []
before_first b (p ∷ ps) = (b ∷ p) ∷ ps

-- the pieces between the separators, empty ones included
abbrev pub pieces : ℕ → List ℕ → List (List ℕ)
pieces separator [] = [] ∷ []
pieces separator (b ∷ bs) = cond (b == separator) ([] ∷ pieces separator bs) (before_first b (pieces separator bs))

abbrev pub unless_empty : List ℕ → List (List ℕ) → List (List ℕ)
unless_empty [] ps = ps
unless_empty (b ∷ bs) ps = (b ∷ bs) ∷ ps

abbrev pub nonempty : List (List ℕ) → List (List ℕ)
nonempty [] = []
nonempty (p ∷ ps) = unless_empty p (nonempty ps)

-- spaces separate words
abbrev pub words : List ℕ → List (List ℕ)
words line = nonempty (pieces 32 line)

-- a line that has words: its number, its first word and the others
pub record Line : Type 0 where
  pub number : ℕ
  pub first : List ℕ
  pub more : List (List ℕ)

abbrev pub with_words : ℕ → List (List ℕ) → List Line → List Line
with_words n [] ls = ls
with_words n (w ∷ ws) ls = record { number = n; first = w; more = ws } ∷ ls

-- lines without words are skipped but counted
abbrev pub numbered : ℕ → List (List ℕ) → List Line
numbered n [] = []
numbered n (l ∷ ls) = with_words n (words l) (numbered (suc n) ls)

-- a line ends at a line feed or at the text's end
abbrev pub lines_of : List ℕ → List Line
lines_of text = numbered 1 (pieces 10 text)

-- ── one line ──

abbrev pub then : {A B E : Type 0} → Result A E → (A → Result B E) → Result B E
then (Ok x) f = f x
then (Err e) f = Err e

abbrev pub or_placed : {A : Type 0} → Option A → Placed → Result A Placed
or_placed (Some x) f = Ok x
or_placed None f = Err f

-- the first word is the one due; a missing line counts as the one after the last that has words
abbrev pub line_due : List ℕ → ℕ → List Line → Result (Line × List Line) Placed
line_due due last [] = Err (placed in_text 19 (last + 1) 1)
line_due due last (l ∷ ls) = cond (bytes_eq l.first due) (Ok (l, ls)) (Err (placed in_text 19 l.number 1))

-- just one word stands after the first
abbrev pub sole : ℕ → List (List ℕ) → Result (List ℕ) Placed
sole n [] = Err (placed in_text 20 n 1)
sole n (w ∷ []) = Ok w
sole n (w ∷ v ∷ ws) = Err (placed in_text 20 n 1)

abbrev pub among : List (List ℕ) → List ℕ → Bool
among [] w = false
among (n ∷ ns) w = bytes_eq n w || among ns w

-- names from word k on, each well formed and none repeated
abbrev pub names_said : ℕ → ℕ → List (List ℕ) → List (List ℕ) → Result (List (List ℕ)) Placed
names_said n k before [] = Ok before
names_said n k before (w ∷ ws) =
    cond (is_name w && not (among before w)) (names_said n (suc k) (before ++ (w ∷ [])) ws) (Err (placed in_text 20 n k))

abbrev pub few_channels : ℕ → List (List ℕ) → Option (ℕ × ℕ) → Result (List (List ℕ)) Placed
few_channels n names None = Ok names
few_channels n names (Some r) = Err (placed in_finder r.0 n 1)

-- at most eight channels
abbrev pub channels_said : Line → Result (List (List ℕ)) Placed
channels_said l = then (names_said l.number 2 [] l.more) (λ names. few_channels l.number names (channels_refusal (length names)))

abbrev pub measure_said : Line → Result MeasureKind Placed
measure_said l = then (sole l.number l.more) (λ w. or_placed (measure_of w) (placed in_text 20 l.number 2))

abbrev pub within_range : ℕ → ℕ → Option (ℕ × ℕ) → Result ℕ Placed
within_range n m None = Ok m
within_range n m (Some r) = Err (placed in_finder r.0 n 2)

-- one to seven digits, 1 to 1,000,000
abbrev pub limit_said : Line → Result ℕ Placed
limit_said l =
    then (sole l.number l.more) (λ w.
    then (or_placed (number_of 7 w) (placed in_text 20 l.number 2)) (λ m. within_range l.number m (limit_refusal m)))

-- bytes from word k on
abbrev pub bytes_said : ℕ → ℕ → List (List ℕ) → Result (List ℕ) Placed
bytes_said n k [] = Ok []
bytes_said n k (w ∷ ws) = then (or_placed (byte_of w) (placed in_text 20 n k)) (λ b. then (bytes_said n (suc k) ws) (λ bs. Ok (b ∷ bs)))

-- the place p of a row's bytes is the word p + 2 of its line; a wrong length is at its first word
abbrev pub row_word : ℕ → ℕ → ℕ
row_word number p = cond (number == 2) (p + 2) 1

abbrev pub row_judged : ℕ → List ℕ → Judged → Result (List ℕ) Placed
row_judged n bytes (said wanted bands) = Ok bytes
row_judged n bytes (refused number p) = Err (placed in_row number n (row_word number p))

-- a row where so many stand: at most sixteen, and the wanted band and one band for each channel
abbrev pub row_said : ℕ → ℕ → Line → Result (List ℕ) Placed
row_said channels standing l =
    then (bytes_said l.number 2 l.more) (λ bytes.
    cond (nat_le most_rows standing) (Err (placed in_finder 3 l.number 1)) (row_judged l.number bytes (judged channels bytes)))

-- row lines to the text's end, so many rows standing before
abbrev pub rows_said : ℕ → ℕ → List Line → Result (List (List ℕ)) Placed
rows_said channels standing [] = Ok []
rows_said channels standing (l ∷ ls) =
    cond (bytes_eq l.first (codes "row"))
    (then (row_said channels standing l) (λ bytes. then (rows_said channels (suc standing) ls) (λ rows. Ok (bytes ∷ rows))))
    (Err (placed in_text 19 l.number 1))

-- ── the sheet ──

-- the channels' names, the measure, the limit and each row's bytes
pub record SheetSaid : Type 0 where
  pub names : List (List ℕ)
  pub measure : MeasureKind
  pub limit : ℕ
  pub rows : List (List ℕ)

-- the lines in their order: channels, measure, limit, rows
abbrev pub sheet_of : List Line → Result SheetSaid Placed
sheet_of ls =
    then (line_due (codes "channels") 0 ls) (λ a.
    then (channels_said a.0) (λ names.
    then (line_due (codes "measure") a.0.number a.1) (λ b.
    then (measure_said b.0) (λ measure.
    then (line_due (codes "limit") b.0.number b.1) (λ c.
    then (limit_said c.0) (λ limit.
    then (rows_said (length names) 0 c.1) (λ rows.
    Ok (record { names = names; measure = measure; limit = limit; rows = rows }))))))))

-- a text of more than 4,096 bytes is refused before all else
abbrev pub sheet_said : List ℕ → Result SheetSaid Placed
sheet_said text = cond (nat_lt 4096 (length text)) (Err (placed in_text 21 1 1)) (sheet_of (lines_of text))

-- ── what the parser answers ──

abbrev pub fault_placed : Fault → Placed
fault_placed f = placed (cause_layer f.cause) (fault_number f.cause) f.spot.line f.spot.word

-- a sheet with the names that stand at its spans in the text
abbrev pub sheet_seen : List ℕ → SheetText → SheetSaid
sheet_seen text s = record { names = map (name_at text) (vec_items s.names); measure = s.measure; limit = s.limit.value; rows = row_bytes s.rows }

-- the sheet that the text says, or its first fault; want of memory comes only where the text is not too long
abbrev pub Reads : List ℕ → Result SheetText ParseError → Type 0
Reads text (Ok s) = Ok (sheet_seen text s) ≡ sheet_said text
Reads text (Err (error.Refused f)) = Err (fault_placed f) ≡ sheet_said text
Reads text (Err error.Memory) = length text ≤ 4096
