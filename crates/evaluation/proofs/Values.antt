-- Values worked out step by step are those of the formulas that the steps say, for every rule that the formulas' values go by.
use Rattle.std.proofs.Common.{◌≡◌, ℕ, zero, suc, ◌+◌, ◌-◌, ◌<◌, ◌≤◌, List, [], ◌∷◌, map, length, get_or, take, set, sym, refl, ap, ◌∙◌, subst, ap₂, inl, inr, arith}
use Rattle.std.specs.List.{range_with_len}
use Rattle.std.proofs.lemmas.List.{get_or-set_same, get_or-set_other}
use Rattle.std.proofs.lemmas.List.FromFn.{take-map-range_with_len}
use Rattle.std.proofs.lemmas.Bool.{cases_eq, cases_lt}
use Rattle.operators.specs.Bands.{most_arguments, SetMeaning}
use Rattle.measures.specs.Measures.{MeasureMeaning}
use Rattle.formulas.specs.Formula.{Formula, Formulas, channel, operator, nil, cons, count, band, bands, weighed, all_weighed}
use Rattle.formulas.specs.Says.{step_of, argument_of, top_arity, StepSays, ArgumentsSay, StepsSay}
use Rattle.formulas.specs.declared.steps.Step.{Step}
use Rattle.formulas.specs.declared.steps.Top.{Top}
use Rattle.formulas.specs.declared.steps.Top.TheVariants.{Operator}
use Rattle.evaluation.specs.Values.{Rule, GoesBy, band_rule, weight_rule, top_value, argument_values, step_value}

pub bands-go : (m : SetMeaning) (reading : List ℕ) → GoesBy (band_rule m reading) (band m reading) (bands m reading)
bands-go m reading = record { on_channel = λ c. refl; on_operator = λ k fs. refl; on_none = refl; on_more = λ f fs. refl }

pub weights_go : (v : MeasureMeaning) → GoesBy (weight_rule v) (weighed v) (all_weighed v)
weights_go v = record { on_channel = λ c. refl; on_operator = λ k fs. refl; on_none = refl; on_more = λ f fs. refl }

-- the values of the steps below i are known
abbrev pub KnownBelow : SetMeaning → (Formula → ℕ) → List Step → ℕ → ℕ → List ℕ → Type 0
KnownBelow m value steps d i table = (k : ℕ) → k < i → (f : Formula) → StepSays m steps k f → get_or table k d ≡ value f

module _ (m : SetMeaning) (rule : Rule) (value : Formula → ℕ) (values : Formulas → List ℕ) (goes : GoesBy rule value values) (steps : List Step) (d : ℕ) where
  arguments_known : (i : ℕ) (table : List ℕ) → KnownBelow m value steps d i table → (fs : Formulas) (j : ℕ) → ArgumentsSay m steps i j fs → map (λ k. get_or table (argument_of (step_of steps i) k) d) (range_with_len j (count fs)) ≡ values fs
  arguments_known i table known nil j says = sym goes.on_none
  arguments_known i table known (cons f fs) j says =
      let next : j + 1 ≡ suc j = omega arith in
      ap₂ (λ (x : ℕ) (xs : List ℕ). x ∷ xs)
      (known (argument_of (step_of steps i) j) says.0 f says.1)
      (ap (λ n. map (λ k. get_or table (argument_of (step_of steps i) k) d) (range_with_len n (count fs))) next ∙ arguments_known i table known fs (suc j) says.2)
      ∙ sym (goes.on_more f fs)

  step_right : (i : ℕ) (table : List ℕ) → KnownBelow m value steps d i table → (f : Formula) → StepSays m steps i f → step_value m rule d table (step_of steps i) ≡ value f
  step_right i table known (channel c) says = ap (top_value rule (argument_values m d table (step_of steps i))) says.1 ∙ goes.on_channel c
  step_right i table known (operator k fs) says =
      let given : ℕ → List ℕ = λ n. map (λ j. get_or table (argument_of (step_of steps i) j) d) (range_with_len 0 n) in
      ap (λ (t : Top). top_value rule (given (top_arity m t)) t) says.1
      ∙ ap (λ n. rule.operator k (given n)) (sym says.2)
      ∙ ap (rule.operator k) (arguments_known i table known fs 0 says.3)
      ∙ goes.on_operator k fs

  -- one more value is known
  pub known_more : (i : ℕ) (table : List ℕ) (x : ℕ) → KnownBelow m value steps d i table → i < length table → x ≡ step_value m rule d table (step_of steps i) → KnownBelow m value steps d (i + 1) (set table i x)
  known_more i table x known l e k h f says = elim (cases_eq k i) [
    | inl q ↦ (
        subst (λ n. get_or (set table i x) n d ≡ value f) (sym q)
        (get_or-set_same table i x d l ∙ e ∙ step_right i table known f (subst (λ n. StepSays m steps n f) q says)))
    | inr q ↦ get_or-set_other table i k x d q ∙ known k (below k i h q) f says
  ]
    where
      below : (k i : ℕ) → k < i + 1 → (k ≡ i → ⊥) → k < i
      below k i h q = elim (cases_lt k i) [ inl l ↦ l | inr l ↦ absurd (q (omega arith)) ]

-- the value of an operator over as many of the arguments' values as it takes
pub operator-value : (m : SetMeaning) (rule : Rule) (d : ℕ) (earlier : List ℕ) (s : Step) (op : ℕ) (args : List ℕ) → s.top ≡ Operator op → m.arity op ≤ most_arguments → args ≡ map (λ j. get_or earlier (argument_of s j) d) (range_with_len 0 most_arguments) → rule.operator op (take (m.arity op) args) ≡ step_value m rule d earlier s
operator-value m rule d earlier s op args top narrow are =
    let given : ℕ → List ℕ = λ k. map (λ j. get_or earlier (argument_of s j) d) (range_with_len 0 k) in
    ap (λ (xs : List ℕ). rule.operator op (take (m.arity op) xs)) are
    ∙ ap (rule.operator op) (take-map-range_with_len (λ j. get_or earlier (argument_of s j) d) 0 most_arguments (m.arity op) narrow)
    ∙ sym (ap (λ (t : Top). top_value rule (given (top_arity m t)) t) top)

-- ── the steps ──

says_inside : (m : SetMeaning) (steps : List Step) (i : ℕ) (f : Formula) → StepSays m steps i f → i < length steps
says_inside m steps i (channel c) says = says.0
says_inside m steps i (operator k fs) says = says.0

-- the value of the last step, once all are known
pub last_value : (m : SetMeaning) (value : Formula → ℕ) (steps : List Step) (d i : ℕ) (table : List ℕ) → KnownBelow m value steps d i table → length steps ≤ i → (f : Formula) → StepsSay m steps f → get_or table (length steps - 1) d ≡ value f
last_value m value steps d i table known all f says =
    let inside = says_inside m steps (length steps - 1) f says in
    known (length steps - 1) (omega arith) f says

-- ── the plain numbers of values ──

pub at_map : {T : Type 0} (number : T → ℕ) (xs : List T) (i : ℕ) (x : T) → get_or (map number xs) i (number x) ≡ number (get_or xs i x)
at_map number [] i x = refl
at_map number (y ∷ ys) zero x = refl
at_map number (y ∷ ys) (suc i) x = at_map number ys i x
