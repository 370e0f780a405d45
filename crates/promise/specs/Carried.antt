-- What one call, and a list of calls, carry of the promise.
use Rattle.std.specs.Prelude.{◌≡◌, ℕ, List, [], ◌∷◌, None}
use Rattle.rows.specs.Bounds.{limit_refusal}
use Rattle.formulas.specs.Setting.{Setting}
use Rattle.histories.specs.History.{Event, History}
use Rattle.histories.specs.Answers.{AnswersAreTrue}
use Rattle.search.specs.Machine.{State}
use Rattle.promise.specs.Theorem.{Reached}

-- events in the order in which they came, put on a history
abbrev pub onto : List Event → History → History
onto [] h = h
onto (e ∷ es) h = onto es (e ∷ h)

-- For every history that has led to the finder as it was, from opening with any limit: with these events more it has led to the
-- finder as it is, and all its answers are true.
abbrev pub Carries : Setting → State → List Event → State → Type 0
Carries E before es after =
    (start : ℕ) → limit_refusal start ≡ None → (h : History) → Reached E start h before →
    Reached E start (onto es h) after × AnswersAreTrue E start (onto es h)
