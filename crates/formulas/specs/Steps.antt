-- The steps of a formula as a list.
use Rattle.std.specs.Prelude.{ℕ, List}
use Rattle.fixed.specs.Listed as fixed
use Rattle.fixed.specs.declared.list.FixedList.{FixedList}
use Rattle.formulas.specs.declared.steps.Step.{Step}

-- how many places the finder's bank has, each for another column
abbrev pub most_places : ℕ
most_places = 512

-- how many steps a formula has at most: one for each bank place, and itself
abbrev pub most_steps : ℕ
most_steps = 513

-- steps in fixed memory
abbrev pub Steps : Type 0
Steps = FixedList Step most_steps

-- the steps that stand
abbrev pub listed : Steps → List Step
listed s = fixed.listed s
