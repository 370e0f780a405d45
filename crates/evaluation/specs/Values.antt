-- How the value of a step comes from those of the earlier steps, for bands and weights alike.
use Rattle.std.specs.Prelude.{◌≡◌, ℕ, List, [], ◌∷◌, map, get_or, slice_index_or}
use Rattle.std.specs.List.{range_with_len}
use Rattle.operators.specs.Bands.{mark, SetMeaning}
use Rattle.measures.specs.Measures.{MeasureMeaning}
use Rattle.formulas.specs.Formula.{Formula, Formulas, channel, operator, nil, cons}
use Rattle.formulas.specs.Says.{argument_of, top_arity}
use Rattle.formulas.specs.declared.steps.Step.{Step}
use Rattle.formulas.specs.declared.steps.Top.{Top}
use Rattle.formulas.specs.declared.steps.Top.TheVariants.{Channel, Operator}

-- the value of each channel, and of each operator over its arguments' values
pub record Rule : Type 0 where
  pub channel : ℕ → ℕ
  pub operator : ℕ → List ℕ → ℕ

-- bands at a reading
abbrev pub band_rule : SetMeaning → List ℕ → Rule
band_rule m reading = record { channel = λ c. slice_index_or reading c mark; operator = m.band }

-- weights under a measure
abbrev pub weight_rule : MeasureMeaning → Rule
weight_rule v = record { channel = v.channel; operator = v.operator }

abbrev pub top_value : Rule → List ℕ → Top → ℕ
top_value rule args (Channel c) = rule.channel c
top_value rule args (Operator k) = rule.operator k args

-- the values of the arguments that a step uses, in the table of the earlier steps' values; past its end they are d
abbrev pub argument_values : SetMeaning → ℕ → List ℕ → Step → List ℕ
argument_values m d earlier s = map (λ j. get_or earlier (argument_of s j) d) (range_with_len 0 (top_arity m s.top))

abbrev pub step_value : SetMeaning → Rule → ℕ → List ℕ → Step → ℕ
step_value m rule d earlier s = top_value rule (argument_values m d earlier s) s.top

-- the values of formulas go by a rule
pub record GoesBy (rule : Rule) (value : Formula → ℕ) (values : Formulas → List ℕ) : Type 0 where
  pub on_channel : (c : ℕ) → rule.channel c ≡ value (channel c)
  pub on_operator : (k : ℕ) (fs : Formulas) → rule.operator k (values fs) ≡ value (operator k fs)
  pub on_none : values nil ≡ []
  pub on_more : (f : Formula) (fs : Formulas) → values (cons f fs) ≡ value f ∷ values fs
