-- Which steps are lawful, and the formula that steps say.
use Rattle.std.specs.Prelude.{◌≡◌, ℕ, suc, ◌-◌, ◌<◌, ◌≤◌, List, [], length, slice_index, slice_index_or}
use Rattle.operators.specs.Bands.{most_arguments, SetMeaning}
use Rattle.formulas.specs.Formula.{Formula, Formulas, channel, operator, nil, cons, count, WellFormed}
use Rattle.formulas.specs.Steps.{most_steps}
use Rattle.formulas.specs.declared.steps.Step.{Step}
use Rattle.formulas.specs.declared.steps.Top.{Top}
use Rattle.formulas.specs.declared.steps.Top.TheVariants.{Channel, Operator}

-- what is read past the last step
abbrev pub no_step : Step
no_step = record { top = Channel 0; args = [] }

-- step i, counted from 0
abbrev pub step_of : List Step → ℕ → Step
step_of steps i = slice_index_or steps i no_step

-- the number of the step that is argument j, counted from 0
abbrev pub argument_of : Step → ℕ → ℕ
argument_of s j = slice_index s.args j

-- a channel has no arguments
abbrev pub top_arity : SetMeaning → Top → ℕ
top_arity m (Channel i) = 0
top_arity m (Operator k) = m.arity k

-- a channel that is there, or an operator that is offered
abbrev pub Known : SetMeaning → ℕ → Top → Type 0
Known m channels (Channel i) = i < channels
Known m channels (Operator k) = k < m.count

-- step i is lawful: its top is known, each argument that it uses is an earlier step, and each that it does not use is 0
pub record LawfulStep (m : SetMeaning) (channels i : ℕ) (s : Step) : Type 0 where
  pub known : Known m channels s.top
  pub used_is_earlier : (j : ℕ) → j < top_arity m s.top → argument_of s j < i
  pub unused_is_0 : (j : ℕ) → top_arity m s.top ≤ j → j < most_arguments → argument_of s j ≡ 0

pub record LawfulSteps (m : SetMeaning) (channels : ℕ) (steps : List Step) : Type 0 where
  pub least : 1 ≤ length steps
  pub most : length steps ≤ most_steps
  pub wide : (i : ℕ) → i < length steps → length (step_of steps i).args ≡ most_arguments
  pub each : (i : ℕ) → i < length steps → LawfulStep m channels i (step_of steps i)

-- step i says the formula: it has the formula's top and as many arguments, and each is an earlier step that says that argument
abbrev mutual
  pub StepSays : SetMeaning → List Step → ℕ → Formula → Type 0
  StepSays m steps i (channel c) = (i < length steps) × ((step_of steps i).top ≡ Channel c)
  StepSays m steps i (operator k fs) =
      (i < length steps) × ((step_of steps i).top ≡ Operator k) × (count fs ≡ m.arity k) × ArgumentsSay m steps i 0 fs

  -- so for the arguments of step i from the j-th on
  pub ArgumentsSay : SetMeaning → List Step → ℕ → ℕ → Formulas → Type 0
  ArgumentsSay m steps i j nil = Unit {0}
  ArgumentsSay m steps i j (cons f fs) =
      (argument_of (step_of steps i) j < i) × StepSays m steps (argument_of (step_of steps i) j) f × ArgumentsSay m steps i (suc j) fs

-- the last step says the formula
abbrev pub StepsSay : SetMeaning → List Step → Formula → Type 0
StepsSay m steps f = StepSays m steps (length steps - 1) f

-- the steps say one formula, which is well formed, and no other
pub record SaysOne (m : SetMeaning) (channels : ℕ) (steps : List Step) : Type 0 where
  pub formula : Formula
  pub formed : WellFormed m channels formula
  pub says : StepsSay m steps formula
  pub only : (g : Formula) → StepsSay m steps g → g ≡ formula

abbrev pub LawfulStepsSayOne : Type 0
LawfulStepsSayOne = (m : SetMeaning) (channels : ℕ) (steps : List Step) → LawfulSteps m channels steps → SaysOne m channels steps
