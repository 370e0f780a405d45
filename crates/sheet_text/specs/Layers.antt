-- Where a refusal of a sheet text comes from.
use Rattle.std.specs.Prelude.{ℕ, List, ◌++◌, codes}
use Rattle.std.specs.Fmt.{decimal}
use Rattle.refusals.specs.declared.sheet.SheetRefusal.{SheetRefusal}
use Rattle.refusals.specs.declared.sheet.SheetRefusal.TheVariants as sheet
use Rattle.sheet_text.specs.declared.refusal.Cause.{Cause}
use Rattle.sheet_text.specs.declared.refusal.Cause.TheVariants as cause
use Rattle.sheet_text.specs.Refusals.{fault_number}
use Rattle.sheet_text.specs.declared.refusal.Fault.{Fault}
use Rattle.sheet_text.specs.declared.refusal.Layer as declared
use Rattle.sheet_text.specs.declared.refusal.Layer.TheVariants as layer

-- the text itself, a row, or what the finder would refuse
pub data Layer : Type 0 where
  in_text : Layer
  in_row : Layer
  in_finder : Layer

abbrev pub sheet_layer : SheetRefusal → Layer
sheet_layer sheet.Length = in_row
sheet_layer (sheet.Band p) = in_row
sheet_layer sheet.Rows = in_finder
sheet_layer sheet.Limit = in_finder
sheet_layer sheet.Channels = in_finder

abbrev pub cause_layer : Cause → Layer
cause_layer (cause.Text t) = in_text
cause_layer (cause.Sheet s) = sheet_layer s

abbrev pub layer_seen : declared.Layer → Layer
layer_seen layer.Text = in_text
layer_seen layer.Row = in_row
layer_seen layer.Finder = in_finder

-- what is printed of a layer, and of a text that is refused
abbrev pub layer_text : Layer → List ℕ
layer_text in_text = codes "text"
layer_text in_row = codes "row"
layer_text in_finder = codes "finder"

abbrev pub fault_text : Fault → List ℕ
fault_text f =
    codes "refused " ++ (layer_text (cause_layer f.cause) ++ (codes " " ++ (decimal (fault_number f.cause)
    ++ (codes " line " ++ (decimal f.spot.line ++ (codes " word " ++ decimal f.spot.word))))))
