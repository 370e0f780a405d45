-- The steps of a candidate's formula as they are kept.
use Rattle.std.specs.Prelude.{ℕ, List, [], ◌++◌, map, take, replicate}
use Rattle.operators.specs.Bands.{most_arguments}
use Rattle.formulas.specs.declared.steps.Step.{Step}
use Rattle.formulas.specs.declared.steps.Top.TheVariants.{Channel, Operator}
use Rattle.search.specs.Places.{Candidate, of_channel, of_operator, Place}
use Rattle.search.specs.Marks.{steps_of as numbered_steps}

-- a step as it is kept: the arguments that are not used are 0
abbrev pub filled_up : List ℕ → List ℕ
filled_up is = take most_arguments (is ++ replicate most_arguments 0)

abbrev pub as_step : Candidate → Step
as_step (of_channel i) = record { top = Channel i; args = filled_up [] }
as_step (of_operator k is) = record { top = Operator k; args = filled_up is }

-- the steps of a candidate's formula
abbrev pub steps_of : List Place → Candidate → List Step
steps_of ps t = map as_step (numbered_steps ps t)
