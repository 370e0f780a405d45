-- The theorems.
use Rattle.std.proofs.Common.{ℕ, List, [], ◌∷◌, refl, ap₂}
use Rattle.formulas.specs.Setting.{Setting}
use Rattle.histories.specs.History.{Call, History}
use Rattle.histories.specs.Answers.{AnswersAreTrue, most_advances}
use Rattle.search.specs.Machine.{State}
use Rattle.promise.specs.Laws.{Openable}
use Rattle.promise.specs.Theorem.{state_after, history, CallsAreAnswered, AllAnswersAreTrue, Reached, fresh, next, ReachedAnswersAreTrue, SettledAfter}
use Rattle.promise.proofs.Runs.{Kept, kept-opened, kept_step, kept_sheet, event_true, step_call}

pub calls_are_answered : CallsAreAnswered
unfolding history
calls_are_answered E start [] = refl
calls_are_answered E start (c ∷ calls) = ap₂ (λ (x : Call) (xs : List Call). x ∷ xs) (step_call E (state_after E start calls) c) (calls_are_answered E start calls)

kept : (E : Setting) (start : ℕ) → Openable E start → {h : History} {st : State} → Reached E start h st → Kept E start h st
kept E start o fresh = kept-opened E o.laws start o.limit
kept E start o (next {h = h} {st = st} r c) = kept_step E o.laws start h st (kept E start o r) c

pub reached_answers_are_true : ReachedAnswersAreTrue
reached_answers_are_true E start o h st r = go r
  where
    go : {h : History} {st : State} → Reached E start h st → AnswersAreTrue E start h
    go fresh = kept_sheet E start [] _ (kept E start o fresh)
    go (next {h = h} {st = st} r c) = (
      event_true E o.laws start h st (kept E start o r) c,
      kept_sheet E start _ _ (kept E start o (next r c)),
      go r,
    )

run : (E : Setting) (start : ℕ) (calls : List Call) → Reached E start (history E start calls) (state_after E start calls)
unfolding history state_after
run E start [] = fresh
run E start (c ∷ calls) = next (run E start calls) c

pub all_answers_are_true : AllAnswersAreTrue
all_answers_are_true E start o calls = reached_answers_are_true E start o (history E start calls) (state_after E start calls) (run E start calls)

pub settled_after : SettledAfter most_advances
settled_after E start o h st r many = (kept_sheet E start h st (kept E start o r)).settled_by_513th_advance many
