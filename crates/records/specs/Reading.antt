-- What reading a record is refused, in this order: 15 under two bytes, 16 for the number of steps, 15 for the length, and then step
-- by step 17 for the code and 18 for the arguments, with the step as the place.
use Rattle.std.specs.Prelude.{ℕ, zero, suc, Bool, true, cond, ◌&&◌, ◌||◌, List, length, Some, None, Option, ◌==◌, nat_lt}
use Rattle.operators.specs.Bands.{most_arguments, SetMeaning}
use Rattle.formulas.specs.Says.{argument_of, top_arity}
use Rattle.formulas.specs.Steps.{most_steps}
use Rattle.formulas.specs.declared.steps.Step.{Step}
use Rattle.formulas.specs.declared.steps.Top.{Top}
use Rattle.formulas.specs.declared.steps.Top.TheVariants.{Channel, Operator}
use Rattle.records.specs.Size.{record_size}
use Rattle.records.specs.Bytes.{steps_in, step_at}

-- the first of the two that there is
abbrev pub or_else : {X : Type 0} → Option X → Option X → Option X
or_else (Some x) o = Some x
or_else None o = o

-- the first that f gives for 0, 1 and so on below n
abbrev pub first_below : {X : Type 0} → (ℕ → Option X) → ℕ → Option X
first_below f zero = None
first_below f (suc n) = or_else (first_below f n) (f n)

-- p holds of each number below n
abbrev pub all_below : (ℕ → Bool) → ℕ → Bool
all_below p zero = true
all_below p (suc n) = all_below p n && p n

-- a channel that is there, or an operator that is offered
abbrev pub known_top : SetMeaning → ℕ → Top → Bool
known_top m channels (Channel i) = nat_lt i channels
known_top m channels (Operator k) = nat_lt k m.count

-- an argument that is used is an earlier step, one that is not used is 0
abbrev pub argument_fits : Bool → ℕ → ℕ → Bool
argument_fits used i argument = cond used (nat_lt argument i) (argument == 0)

abbrev pub arguments_fit : ℕ → ℕ → Step → Bool
arguments_fit arity i s = all_below (λ j. argument_fits (nat_lt j arity) i (argument_of s j)) most_arguments

abbrev pub step_refusal : SetMeaning → ℕ → ℕ → Step → Option (ℕ × ℕ)
step_refusal m channels i s =
    cond (known_top m channels s.top)
    (cond (arguments_fit (top_arity m s.top) i s) None (Some (18, i)))
    (Some (17, i))

-- the first n steps
abbrev pub steps_refusal : SetMeaning → ℕ → List ℕ → ℕ → Option (ℕ × ℕ)
steps_refusal m channels bytes n = first_below (λ i. step_refusal m channels i (step_at bytes i)) n

-- the number of steps and the length, and then whatever follows
abbrev pub size_refusal : List ℕ → Option (ℕ × ℕ) → Option (ℕ × ℕ)
size_refusal bytes rest =
    cond (nat_lt (length bytes) 2) (Some (15, 0))
    (cond (nat_lt (steps_in bytes) 1 || nat_lt most_steps (steps_in bytes)) (Some (16, 0))
    (cond (length bytes == record_size (steps_in bytes)) rest (Some (15, 0))))

abbrev pub bytes_refusal : SetMeaning → ℕ → List ℕ → Option (ℕ × ℕ)
bytes_refusal m channels bytes = size_refusal bytes (steps_refusal m channels bytes (steps_in bytes))
