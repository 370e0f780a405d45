-- The lines of a sheet text, each from where the reading stands to where it stands after the line, with what it answers.
use Rattle.std.specs.Prelude.{◌≡◌, ℕ, ◌+◌, ◌<◌, ◌≤◌, true, false, cond, ◌||◌, ◌⊎◌, List, [], ◌∷◌, ◌++◌, length, Some, None, Ok, Err, codes, Option, Result, nat_lt}
use Rattle.std.specs.Str.{bytes_eq}
use Rattle.refusals.specs.Numbers.{sheet_refusal}
use Rattle.refusals.specs.declared.sheet.SheetRefusal.{SheetRefusal}
use Rattle.refusals.specs.declared.sheet.SheetRefusal.TheVariants as sheet
use Rattle.rows.specs.Rows.{judged, said, refused}
use Rattle.sheet_text.specs.declared.lexer.Lexer.{Lexer}
use Rattle.sheet_text.specs.declared.lexer.Part.{Part}
use Rattle.sheet_text.specs.declared.lexer.Spot.{Spot}
use Rattle.sheet_text.specs.declared.lexer.Word.TheVariants as word
use Rattle.sheet_text.specs.declared.refusal.Fault.{Fault}
use Rattle.sheet_text.specs.declared.refusal.TextRefusal.TheVariants as text
use Rattle.sheet_text.specs.declared.sheet.MeasureKind.{MeasureKind}
use Rattle.rows.specs.declared.span.Span.{Span}
use Rattle.sheet_text.specs.Forms.{number_of, byte_of, measure_of}
use Rattle.sheet_text.specs.Refusals.{text_fault, sheet_fault, row_fault}
use Rattle.sheet_text.specs.Spans.{name_ok}
use Rattle.sheet_text.specs.Steps.{InLine, IsFirstWord}
use Rattle.sheet_text.specs.Texts.{Lexed}

-- the first word of a line is the one due, or the line is refused there; a missing line is refused after the last line with words
abbrev pub due_answer : List ℕ → Lexer → Option Part → Result Spot Fault
due_answer due t None = Err (text_fault text.FirstWord (record { line = t.last + 1; word = 1 }))
due_answer due t (Some p) = cond (bytes_eq p.bytes.now due) (Ok p.spot) (Err (text_fault text.FirstWord p.spot))

abbrev pub Due : List ℕ → Lexer → Lexer → Result Spot Fault → Type 0
Due due s t r = (o : Option Part) × IsFirstWord s t o × (r ≡ due_answer due t o)

-- just one word stands in the rest of a line
abbrev pub SoleWord : Spot → Lexer → Lexer → Result Part Fault → Type 0
SoleWord head s u (Ok p) = (t : Lexer) × InLine s t (Some p) × InLine t u None
SoleWord head s u (Err f) = (f ≡ text_fault text.Word head)
    × (InLine s u None ⊎ ((t : Lexer) × (p : Part) × (q : Part) × InLine s t (Some p) × InLine t u (Some q)))

-- a line of two words, of which the first is due
abbrev pub TwoWords : List ℕ → Lexer → Lexer → Result Part Fault → Type 0
TwoWords due s u (Ok p) = (t : Lexer) × (head : Spot) × Due due s t (Ok head) × SoleWord head t u (Ok p)
TwoWords due s u (Err f) = Due due s u (Err f) ⊎ ((t : Lexer) × (head : Spot) × Due due s t (Ok head) × SoleWord head t u (Err f))

-- an answer, and what is made of it
abbrev pub after : {A B E : Type 0} → Result A E → (A → Result B E) → Result B E
after (Ok x) f = f x
after (Err e) f = Err e

abbrev pub or_fault : {A : Type 0} → Option A → Fault → Result A Fault
or_fault None f = Err f
or_fault (Some x) f = Ok x

abbrev pub MeasureLine : Lexer → Lexer → Result MeasureKind Fault → Type 0
MeasureLine s u r = (o : Result Part Fault) × TwoWords (codes "measure") s u o
    × (r ≡ after o (λ p. or_fault (measure_of p.bytes.now) (text_fault text.Word p.spot)))

-- a limit is 1 to 1,000,000
abbrev pub limit_answer : Spot → ℕ → Result ℕ Fault
limit_answer spot n = cond (nat_lt n 1 || nat_lt 1000000 n) (Err (sheet_fault sheet.Limit spot)) (Ok n)

abbrev pub LimitLine : Lexer → Lexer → Result ℕ Fault → Type 0
LimitLine s u r = (o : Result Part Fault) × TwoWords (codes "limit") s u o
    × (r ≡ after o (λ p. after (or_fault (number_of 7 p.bytes.now) (text_fault text.Word p.spot)) (limit_answer p.spot)))

-- names, each well formed and none twice
abbrev pub span_of : Part → Span
span_of p = record { from = p.from; size = length p.bytes.now }

pub data Named (s : Lexer) : List Span → Lexer → Type 0 where
  none : Named s [] s
  more : (names : List Span) (t u : Lexer) (p : Part) → Named s names t → Lexed t u (Some (word.Part p)) → name_ok s.text.now names p.bytes.now ≡ true
      → Named s (names ++ (span_of p ∷ [])) u

-- the names in the rest of a line, or the first of them that is not right
abbrev pub Names : Lexer → Lexer → Result (List Span) Fault → Type 0
Names s u (Ok names) = (t : Lexer) × Named s names t × InLine t u None
Names s u (Err f) = (names : List Span) × (t : Lexer) × (p : Part) × Named s names t × Lexed t u (Some (word.Part p))
    × (name_ok s.text.now names p.bytes.now ≡ false) × (f ≡ text_fault text.Word p.spot)

-- at most eight channels
abbrev pub ChannelsLine : Lexer → Lexer → Result (List Span) Fault → Type 0
ChannelsLine s u (Ok names) = (t : Lexer) × (head : Spot) × Due (codes "channels") s t (Ok head) × Names t u (Ok names) × (length names ≤ 8)
ChannelsLine s u (Err f) = Due (codes "channels") s u (Err f)
    ⊎ ((t : Lexer) × (head : Spot) × Due (codes "channels") s t (Ok head)
    × (Names t u (Err f) ⊎ ((names : List Span) × Names t u (Ok names) × (8 < length names) × (f ≡ sheet_fault sheet.Channels head))))

pub data BytesRead (s : Lexer) : List ℕ → Lexer → Type 0 where
  none : BytesRead s [] s
  more : (bytes : List ℕ) (t u : Lexer) (p : Part) (b : ℕ) → BytesRead s bytes t → Lexed t u (Some (word.Part p)) → byte_of p.bytes.now ≡ Some b
      → BytesRead s (bytes ++ (b ∷ [])) u

-- the bytes in the rest of a line, or the first word of it that is no byte
abbrev pub Bytes : Lexer → Lexer → Result (List ℕ) Fault → Type 0
Bytes s u (Ok bytes) = (t : Lexer) × BytesRead s bytes t × InLine t u None
Bytes s u (Err f) = (bytes : List ℕ) × (t : Lexer) × (p : Part) × BytesRead s bytes t × Lexed t u (Some (word.Part p))
    × (byte_of p.bytes.now ≡ None) × (f ≡ text_fault text.Word p.spot)

-- a row's fault as a row of the sheet: sixteen rows stand, or its bytes are refused
abbrev pub RowFault : ℕ → ℕ → Spot → List ℕ → Fault → Type 0
RowFault standing channels head bytes f = ((16 ≤ standing) × (f ≡ sheet_fault sheet.Rows head))
    ⊎ ((standing < 16) × ((e : SheetRefusal) × (judged channels bytes ≡ refused (sheet_refusal e).0 (sheet_refusal e).1) × (f ≡ row_fault e head)))

-- the bytes are a row of so many channels
abbrev pub SaysRow : ℕ → List ℕ → Type 0
SaysRow channels bytes = (wanted : ℕ) × (bands : List ℕ) × (judged channels bytes ≡ said wanted bands)

-- the rest of a row's line, where so many rows stand
abbrev pub RowLine : Spot → ℕ → ℕ → Lexer → Lexer → Result (List ℕ) Fault → Type 0
RowLine head standing channels s u (Ok bytes) = Bytes s u (Ok bytes) × (standing < 16) × SaysRow channels bytes
RowLine head standing channels s u (Err f) = Bytes s u (Err f)
    ⊎ ((bytes : List ℕ) × Bytes s u (Ok bytes) × RowFault standing channels head bytes f)

pub data RowsRead (channels : ℕ) (s : Lexer) : List (List ℕ) → Lexer → Type 0 where
  none : RowsRead channels s [] s
  more : (rows : List (List ℕ)) (t v u : Lexer) (p : Part) (bytes : List ℕ) → RowsRead channels s rows t → IsFirstWord t v (Some p)
      → bytes_eq p.bytes.now (codes "row") ≡ true → RowLine p.spot (length rows) channels v u (Ok bytes)
      → RowsRead channels s (rows ++ (bytes ∷ [])) u

-- the rows to the end of the text, or the first line that is no row or not a right one
abbrev pub RowLines : ℕ → Lexer → Lexer → Result (List (List ℕ)) Fault → Type 0
RowLines channels s u (Ok rows) = (t : Lexer) × RowsRead channels s rows t × IsFirstWord t u None
RowLines channels s u (Err f) =
    ((rows : List (List ℕ)) × (t : Lexer) × (p : Part) × RowsRead channels s rows t × IsFirstWord t u (Some p)
    × (bytes_eq p.bytes.now (codes "row") ≡ false) × (f ≡ text_fault text.FirstWord p.spot))
    ⊎ ((rows : List (List ℕ)) × (t : Lexer) × (v : Lexer) × (p : Part) × RowsRead channels s rows t × IsFirstWord t v (Some p)
    × (bytes_eq p.bytes.now (codes "row") ≡ true) × RowLine p.spot (length rows) channels v u (Err f))
