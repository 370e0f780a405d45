-- What a law of readings holds after a filling, and what it answers to a reading.
use Rattle.std.specs.Prelude.{◌≡◌, ℕ, cond, ◌↔◌, List, length, Some, None, Ok, Err, Option, Result, ◌==◌, nat_lt}
use Rattle.refusals.specs.Numbers.{firmware_refusal, refused_by}
use Rattle.refusals.specs.declared.firmware.FirmwareRefusal.{FirmwareRefusal}
use Rattle.refusals.specs.declared.record.RecordRefusal.{RecordRefusal}
use Rattle.operators.specs.Bands.{mark, SetMeaning}
use Rattle.rows.specs.Rows.{sound_bands}
use Rattle.formulas.specs.Formula.{Formula, band}
use Rattle.formulas.specs.Says.{StepsSay}
use Rattle.formulas.specs.Steps.{Steps, listed}
use Rattle.records.specs.Bytes.{record_of}
use Rattle.records.specs.Writing.{Written}
use Rattle.records.specs.Record.{Lawful, Says, SaysOneFormula}

-- ── filling ──

-- the formula that a law holds; a law without one says none
abbrev pub LawSays : SetMeaning → Option Steps → Formula → Type 0
LawSays m None f = ⊥
LawSays m (Some s) f = StepsSay m (listed s) f

-- after a filling the law says the formula that the record says, one that is well formed and no other
pub record Holds (m : SetMeaning) (channels : ℕ) (bytes : List ℕ) (law : Option Steps) : Type 0 where
  pub lawful : Lawful m channels bytes
  pub one : SaysOneFormula m channels bytes
  pub same : (f : Formula) → LawSays m law f ↔ Says m bytes f

-- a refused filling leaves the law as it was
abbrev pub Filled : SetMeaning → ℕ → List ℕ → Option Steps → Option Steps → Result (Unit {0}) RecordRefusal → Type 0
Filled m channels bytes before after (Ok x) = Holds m channels bytes after
Filled m channels bytes before after (Err e) = after ≡ before

-- ── reading ──

-- 1 for a wrong length, then 2 at the first byte above 15, its place counted from 0
abbrev pub reading_refusal : ℕ → List ℕ → Option (ℕ × ℕ)
reading_refusal channels reading =
    cond (length reading == channels)
    (cond (nat_lt (sound_bands reading) (length reading)) (Some (2, sound_bands reading)) None)
    (Some (1, 0))

-- the band of the formula that the law says; the mark for a law without one
abbrev pub LawBand : SetMeaning → Option Steps → List ℕ → ℕ → Type 0
LawBand m None reading b = b ≡ mark
LawBand m (Some s) reading b = (f : Formula) → StepsSay m (listed s) f → b ≡ band m reading f

-- after a filling by a record: the band of the formula that the record says
abbrev pub AnswersRecord : SetMeaning → ℕ → Option Steps → List ℕ → ℕ → Type 0
AnswersRecord m channels law reading b = (bytes : List ℕ) → Holds m channels bytes law → (f : Formula) → Says m bytes f → b ≡ band m reading f

-- ── writing ──

-- the record of the law's steps; 8 for a law without a formula, and the buffer is as it was
abbrev pub Recorded : Option Steps → List ℕ → List ℕ → Result ℕ FirmwareRefusal → Type 0
Recorded None before after r = (refused_by firmware_refusal r ≡ Some (8, 0)) × (after ≡ before)
Recorded (Some s) before after r = Written (record_of (listed s)) before after r
