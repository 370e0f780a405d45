-- The theorem: whatever set and measure keep their laws, and whatever is called, the answers are true.
use Rattle.std.specs.Prelude.{◌≡◌, ℕ, ◌≤◌, List, [], ◌∷◌}
use Rattle.formulas.specs.Setting.{Setting}
use Rattle.histories.specs.History.{Call, History, calls_of, advances, verdict}
use Rattle.histories.specs.Answers.{AnswersAreTrue, Settled}
use Rattle.search.specs.Machine.{State}
use Rattle.promise.specs.Machine.{opened, step}
use Rattle.promise.specs.Laws.{Openable}

-- ── by lists of calls, the latest first ──

unfoldable pub state_after : Setting → ℕ → List Call → State
state_after E start [] = opened start
state_after E start (c ∷ calls) = (step E (state_after E start calls) c).after

-- those calls with the finder's answers
unfoldable pub history : Setting → ℕ → List Call → History
history E start [] = []
history E start (c ∷ calls) = (step E (state_after E start calls) c).event ∷ history E start calls

abbrev pub CallsAreAnswered : Type 0
CallsAreAnswered = (E : Setting) (start : ℕ) (calls : List Call) → calls_of (history E start calls) ≡ calls

abbrev pub AllAnswersAreTrue : Type 0
AllAnswersAreTrue = (E : Setting) (start : ℕ) → Openable E start → (calls : List Call) → AnswersAreTrue E start (history E start calls)

-- ── by steps: what one call's contract can take and give ──

-- the history h has led to the state
pub data Reached (E : Setting) (start : ℕ) : History → State → Type 0 where
  fresh : Reached E start [] (opened start)
  next : {h : History} {st : State} → Reached E start h st → (c : Call) → Reached E start ((step E st c).event ∷ h) (step E st c).after

abbrev pub ReachedAnswersAreTrue : Type 0
ReachedAnswersAreTrue = (E : Setting) (start : ℕ) → Openable E start → (h : History) (st : State) → Reached E start h st → AnswersAreTrue E start h

-- n accepted advances after opening or the last accepted change settle every sheet
abbrev pub SettledAfter : ℕ → Type 0
SettledAfter n =
    (E : Setting) (start : ℕ) → Openable E start → (h : History) (st : State) → Reached E start h st → n ≤ advances h → Settled (verdict h)
