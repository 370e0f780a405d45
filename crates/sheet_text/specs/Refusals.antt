-- Each fault's number; its place is a line and a word.
use Rattle.std.specs.Prelude.{ℕ, ◌+◌, Bool, true, false, Ok, Err, Result}
use Rattle.refusals.specs.Numbers.{sheet_refusal}
use Rattle.refusals.specs.declared.sheet.SheetRefusal.{SheetRefusal}
use Rattle.refusals.specs.declared.sheet.SheetRefusal.TheVariants as sheet
use Rattle.sheet_text.specs.declared.lexer.Spot.{Spot}
use Rattle.sheet_text.specs.declared.refusal.Fault.{Fault}
use Rattle.sheet_text.specs.declared.refusal.ParseError.{ParseError}
use Rattle.sheet_text.specs.declared.refusal.ParseError.TheVariants as error
use Rattle.sheet_text.specs.declared.refusal.TextRefusal.{TextRefusal}
use Rattle.sheet_text.specs.declared.refusal.TextRefusal.TheVariants as text
use Rattle.sheet_text.specs.declared.refusal.Cause.{Cause}
use Rattle.sheet_text.specs.declared.refusal.Cause.TheVariants as cause

abbrev pub text_refusal : TextRefusal → ℕ
text_refusal text.FirstWord = 19
text_refusal text.Word = 20
text_refusal text.TooLong = 21

abbrev pub fault_number : Cause → ℕ
fault_number (cause.Text t) = text_refusal t
fault_number (cause.Sheet s) = (sheet_refusal s).0

abbrev pub text_fault : TextRefusal → Spot → Fault
text_fault t spot = record { cause = cause.Text t; spot = spot }

abbrev pub sheet_fault : SheetRefusal → Spot → Fault
sheet_fault s spot = record { cause = cause.Sheet s; spot = spot }

-- the place p of a row's bytes is the word p + 2 of its line; any other fault of a row is at its first word
abbrev pub row_spot : SheetRefusal → Spot → Spot
row_spot sheet.Length head = head
row_spot (sheet.Band p) head = record { line = head.line; word = p + 2 }
row_spot sheet.Rows head = head
row_spot sheet.Limit head = head
row_spot sheet.Channels head = head

abbrev pub row_fault : SheetRefusal → Spot → Fault
row_fault s head = sheet_fault s (row_spot s head)

-- whether a fault is another than that the text is too long
abbrev pub of_text : TextRefusal → Bool
of_text text.FirstWord = true
of_text text.Word = true
of_text text.TooLong = false

abbrev pub ordinary : Cause → Bool
ordinary (cause.Text t) = of_text t
ordinary (cause.Sheet s) = true

-- no memory, or such a fault
abbrev pub ordinary_error : ParseError → Bool
ordinary_error (error.Refused f) = ordinary f.cause
ordinary_error error.Memory = true

-- what is said of an answer where memory was found
abbrev pub Faulted : {A : Type 0} → (Result A Fault → Type 0) → ParseError → Type 0
Faulted P (error.Refused f) = P (Err f)
Faulted P error.Memory = Unit {0}

abbrev pub Heard : {V A : Type 0} → (V → A) → (Result A Fault → Type 0) → Result V ParseError → Type 0
Heard seen P (Ok v) = P (Ok (seen v))
Heard seen P (Err e) = Faulted P e
