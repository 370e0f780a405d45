-- Each refusal's number and place. The place is the first byte at fault, counted from 0; for a length, a number or a call it is 0.
use Rattle.std.specs.Prelude.{ℕ, Some, None, Ok, Err, Option, Result}
use Rattle.refusals.specs.declared.sheet.SheetRefusal.{SheetRefusal}
use Rattle.refusals.specs.declared.sheet.SheetRefusal.TheVariants as sheet
use Rattle.refusals.specs.declared.firmware.FirmwareRefusal.{FirmwareRefusal}
use Rattle.refusals.specs.declared.firmware.FirmwareRefusal.TheVariants as firmware
use Rattle.refusals.specs.declared.record.RecordRefusal.{RecordRefusal}
use Rattle.refusals.specs.declared.record.RecordRefusal.TheVariants as rec

abbrev pub sheet_refusal : SheetRefusal → ℕ × ℕ
sheet_refusal sheet.Length = (1, 0)
sheet_refusal (sheet.Band p) = (2, p)
sheet_refusal sheet.Rows = (3, 0)
sheet_refusal sheet.Limit = (5, 0)
sheet_refusal sheet.Channels = (6, 0)

abbrev pub firmware_refusal : FirmwareRefusal → ℕ × ℕ
firmware_refusal firmware.Settled = (7, 0)
firmware_refusal firmware.NotFound = (8, 0)
firmware_refusal firmware.Room = (9, 0)
firmware_refusal firmware.Charge = (22, 0)

-- the place is the step at fault, counted from 0
abbrev pub record_refusal : RecordRefusal → ℕ × ℕ
record_refusal rec.Length = (15, 0)
record_refusal rec.Count = (16, 0)
record_refusal (rec.Code i) = (17, i)
record_refusal (rec.Argument i) = (18, i)

-- the number and the place that an answer was refused with, if it was
abbrev pub refused_by : {T E : Type 0} → (E → ℕ × ℕ) → Result T E → Option (ℕ × ℕ)
refused_by refusal (Ok x) = None
refused_by refusal (Err e) = Some (refusal e)
