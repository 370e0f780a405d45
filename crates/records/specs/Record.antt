-- Which records are lawful, and what formula one says.
use Rattle.std.specs.Prelude.{◌≡◌, ℕ, ◌<◌, ◌≤◌, List, length}
use Rattle.operators.specs.Bands.{SetMeaning}
use Rattle.formulas.specs.Formula.{Formula, WellFormed}
use Rattle.formulas.specs.Says.{LawfulStep, StepsSay}
use Rattle.formulas.specs.Steps.{most_steps}
use Rattle.records.specs.Size.{record_size}
use Rattle.records.specs.Bytes.{steps_in, step_at, steps_of}

-- 1 to 513 steps, as long as so many steps ask for, and each step is lawful: its code is an operator that is offered or a channel
-- that is there, each argument that it uses is an earlier step, and each that it does not use is 0
pub record Lawful (m : SetMeaning) (channels : ℕ) (bytes : List ℕ) : Type 0 where
  pub least : 1 ≤ steps_in bytes
  pub most : steps_in bytes ≤ most_steps
  pub long : length bytes ≡ record_size (steps_in bytes)
  pub steps : (i : ℕ) → i < steps_in bytes → LawfulStep m channels i (step_at bytes i)

-- the formula of the last step
abbrev pub Says : SetMeaning → List ℕ → Formula → Type 0
Says m bytes f = StepsSay m (steps_of bytes) f

-- the record says one formula, which is well formed, and no other
pub record SaysOneFormula (m : SetMeaning) (channels : ℕ) (bytes : List ℕ) : Type 0 where
  pub formula : Formula
  pub formed : WellFormed m channels formula
  pub says : Says m bytes formula
  pub only : (g : Formula) → Says m bytes g → g ≡ formula
