-- How far true answers are determined by the calls: in every acceptance, refusal, level, kind of answer and found weight, but not
-- in which of several lightest formulas is found. No search is in it.
use Rattle.std.specs.Prelude.{◌≡◌, ℕ, ◌≤◌, ◌⊎◌, [], ◌∷◌}
use Rattle.formulas.specs.Setting.{Setting}
use Rattle.formulas.specs.Steps.{most_steps}
use Rattle.records.specs.Size.{record_size}
use Rattle.histories.specs.History.{Call, add, correct, strike, limit, advance, write, level, found, none, full, Event, History, call_of, calls_of, Effect, nothing, reopens, goes, effect, Verdict, verdict, refusal_in}
use Rattle.histories.specs.Answers.{AnswersAreTrue}

-- an effect without the number of steps that Found carries
abbrev pub but_steps : Effect → Effect
but_steps nothing = nothing
but_steps reopens = reopens
but_steps (goes (level w c)) = goes (level w c)
but_steps (goes (found w s)) = goes (found w 0)
but_steps (goes none) = goes none
but_steps (goes full) = goes full

-- How much room a write needs goes by the number of steps that Found carried: the two are alike where those are, or where there
-- is room for any record.
abbrev pub Alike : Call → Verdict → Verdict → Type 0
Alike (add bytes) u u' = Unit {0}
Alike (correct i bytes) u u' = Unit {0}
Alike strike u u' = Unit {0}
Alike (limit m) u u' = Unit {0}
Alike advance u u' = Unit {0}
Alike (write room) u u' = (u ≡ u') ⊎ (record_size most_steps ≤ room)

-- accepted both or refused both with the same number and place; levels with the same two numbers, or Found with the same weight,
-- or None, or Full, both
pub record SameAnswer (u u' : Verdict) (e e' : Event) : Type 0 where
  pub refusals : Alike (call_of e) u u' → refusal_in e ≡ refusal_in e'
  pub effects : but_steps (effect e) ≡ but_steps (effect e')

abbrev pub AnswersAgree : History → History → Type 0
AnswersAgree [] [] = Unit {0}
AnswersAgree [] (e' ∷ h') = ⊥
AnswersAgree (e ∷ h) [] = ⊥
AnswersAgree (e ∷ h) (e' ∷ h') = SameAnswer (verdict h) (verdict h') e e' × AnswersAgree h h'

abbrev pub AnswersAreDetermined : Type 0
AnswersAreDetermined =
    (E : Setting) (start : ℕ) (h h' : History) → calls_of h ≡ calls_of h' →
    AnswersAreTrue E start h → AnswersAreTrue E start h' → AnswersAgree h h'
