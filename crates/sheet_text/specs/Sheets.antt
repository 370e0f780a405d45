-- What reading a sheet text answers.
use Rattle.std.specs.Prelude.{◌≡◌, ℕ, ◌<◌, ◌≤◌, true, ◌⊎◌, List, map, length, Ok, Err, vec_items, vec_len, Result, Vec}
use Rattle.std.specs.List.{AllByRecursion}
use Rattle.sheet_text.specs.Lines.{SaysRow, ChannelsLine, MeasureLine, LimitLine, RowLines}
use Rattle.sheet_text.specs.Refusals.{text_fault, ordinary}
use Rattle.sheet_text.specs.Spans.{InText, Formed}
use Rattle.sheet_text.specs.declared.refusal.ParseError.{ParseError}
use Rattle.sheet_text.specs.declared.refusal.ParseError.TheVariants as error
use Rattle.sheet_text.specs.declared.refusal.TextRefusal.TheVariants.{TooLong}
use Rattle.sheet_text.specs.declared.lexer.Lexer.{Lexer}
use Rattle.sheet_text.specs.declared.refusal.Fault.{Fault}
use Rattle.sheet_text.specs.declared.sheet.MeasureKind.{MeasureKind}
use Rattle.sheet_text.specs.declared.sheet.SheetText.{SheetText}
use Rattle.rows.specs.declared.span.Span.{Span}
use Rattle.sheet_text.specs.Texts.{Fresh}
use Rattle.std.specs.declared.alloc.Global.{Global}

-- the rows' bytes
abbrev pub row_bytes : Vec (Vec ℕ Global) Global → List (List ℕ)
row_bytes rows = map vec_items (vec_items rows)

-- as many names as channels, each within the text and well formed there; at most sixteen rows, and the bytes of each say a row
pub record Sound (text : List ℕ) (sheet : SheetText) : Type 0 where
  pub named : vec_len sheet.names ≡ sheet.channels.value
  pub within : AllByRecursion (InText (length text)) (vec_items sheet.names)
  pub formed : AllByRecursion (Formed text) (vec_items sheet.names)
  pub few : vec_len sheet.rows ≤ 16
  pub right : AllByRecursion (SaysRow sheet.channels.value) (row_bytes sheet.rows)

-- the four kinds of lines in their order, or the first fault in one of them
abbrev pub SheetRead : Lexer → Lexer → Result SheetText Fault → Type 0
SheetRead s u (Ok sheet) = (t : Lexer) × (v : Lexer) × (w : Lexer) × ChannelsLine s t (Ok (vec_items sheet.names))
    × MeasureLine t v (Ok sheet.measure) × LimitLine v w (Ok sheet.limit.value)
    × RowLines sheet.channels.value w u (Ok (row_bytes sheet.rows))
SheetRead s u (Err f) = ChannelsLine s u (Err f)
    ⊎ ((t : Lexer) × (names : List Span) × ChannelsLine s t (Ok names)
    × (MeasureLine t u (Err f)
    ⊎ ((v : Lexer) × (kind : MeasureKind) × MeasureLine t v (Ok kind)
    × (LimitLine v u (Err f)
    ⊎ ((w : Lexer) × (n : ℕ) × LimitLine v w (Ok n) × RowLines (length names) w u (Err f))))))

-- a text of more than 4,096 bytes is refused at once, and any other is read from its beginning
abbrev pub Parsed : List ℕ → Result SheetText ParseError → Type 0
Parsed text (Ok sheet) = (length text ≤ 4096) × Sound text sheet × ((s : Lexer) × (u : Lexer) × Fresh text s × SheetRead s u (Ok sheet))
Parsed text (Err (error.Refused f)) = ((4096 < length text) × (f ≡ text_fault TooLong (record { line = 1; word = 1 })))
    ⊎ ((length text ≤ 4096) × (ordinary f.cause ≡ true) × ((s : Lexer) × (u : Lexer) × Fresh text s × SheetRead s u (Err f)))
Parsed text (Err error.Memory) = length text ≤ 4096
