-- What writing into a buffer leaves in it.
use Rattle.std.specs.Prelude.{◌≡◌, ℕ, ◌<◌, ◌≤◌, List, ◌++◌, length, drop, Ok, Err, Result}
use Rattle.refusals.specs.Numbers.{firmware_refusal}
use Rattle.refusals.specs.declared.firmware.FirmwareRefusal.{FirmwareRefusal}
use Rattle.operators.specs.Bands.{SetMeaning, SetLaws}
use Rattle.measures.specs.Measures.{most_channels}
use Rattle.formulas.specs.Says.{LawfulSteps}
use Rattle.formulas.specs.declared.steps.Step.{Step}
use Rattle.records.specs.Bytes.{steps_of, record_of}
use Rattle.records.specs.Record.{Lawful}

-- the bytes stand in the front of the buffer, s before and t after, and the rest is as it was; where there is no room for them the
-- answer is 9 and the whole buffer is as it was
abbrev pub Written : List ℕ → List ℕ → List ℕ → Result ℕ FirmwareRefusal → Type 0
Written bytes s t (Ok n) = (n ≡ length bytes) × (t ≡ bytes ++ drop n s) × (length bytes ≤ length s)
Written bytes s t (Err e) = (firmware_refusal e ≡ (9, 0)) × (t ≡ s) × (length s < length bytes)

-- over every operator set and channel count that the steps are lawful over, their record is lawful and its steps are these
abbrev pub ReadsBack : List Step → Type 0
ReadsBack steps =
    (m : SetMeaning) (channels : ℕ) → SetLaws m → channels ≤ most_channels → LawfulSteps m channels steps
    → Lawful m channels (record_of steps) × (steps_of (record_of steps) ≡ steps)
