-- From the equation of one call to the promise, and from call to call.
use Rattle.std.proofs.Common.{◌≡◌, ℕ, ◌≤◌, List, [], ◌∷◌, ◌++◌, sym, refl, subst}
use Rattle.operators.specs.Bands.{SetMeaning, SetLaws}
use Rattle.measures.specs.Measures.{MeasureLaws, most_channels}
use Rattle.formulas.specs.Setting.{Setting}
use Rattle.histories.specs.History.{Call, Event, History}
use Rattle.histories.specs.Answers.{AnswersAreTrue}
use Rattle.search.specs.Machine.{State}
use Rattle.promise.specs.Machine.{Move, opened, step}
use Rattle.promise.specs.Laws.{SetBounds, Laws}
use Rattle.promise.specs.Theorem.{Reached, fresh, next}
use Rattle.promise.specs.Carried.{onto, Carries}
use Rattle.promise.proofs.Core.{reached_answers_are_true}

-- the laws of a set give its bounds
pub set_bounds : (m : SetMeaning) → SetLaws m → SetBounds m
set_bounds m l = record { few = l.few; narrow = λ op h. l.narrow op }

pub laws_of : (E : Setting) → SetLaws E.set → MeasureLaws E.measure → E.channels ≤ most_channels → Laws E
laws_of E sl ml few = record { set = set_bounds E.set sl; measure = ml; few = few }

-- one call whose answer and whose finder are those of the machine
pub carries : (E : Setting) → Laws E → (before : State) (c : Call) (e : Event) (after : State) → ◌≡◌ {A = Move} (record { event = e; after = after }) (step E before c) → Carries E before (e ∷ []) after
carries E laws before c e after q start lim h r =
    subst (λ (m : Move). Reached E start (m.event ∷ h) m.after × AnswersAreTrue E start (m.event ∷ h)) (sym q)
    (next r c, reached_answers_are_true E start (record { laws = laws; limit = lim }) _ _ (next r c))

-- no call
pub carries_none : (E : Setting) → Laws E → (st : State) → Carries E st [] st
carries_none E laws st start lim h r = (r, reached_answers_are_true E start (record { laws = laws; limit = lim }) h st r)

onto-more : (es : List Event) (e : Event) (h : History) → onto (es ++ (e ∷ [])) h ≡ e ∷ onto es h
onto-more [] e h = refl
onto-more (x ∷ es) e h = onto-more es e (x ∷ h)

-- one call more
pub carries_more : (E : Setting) (a b c : State) (es : List Event) (e : Event) → Carries E a es b → Carries E b (e ∷ []) c → Carries E a (es ++ (e ∷ [])) c
carries_more E a b c es e x y start lim h r =
    let t = y start lim (onto es h) (x start lim h r).0 in
    subst (λ (g : History). Reached E start g c × AnswersAreTrue E start g) (sym (onto-more es e h)) t

-- from opening
pub opening : (E : Setting) (start : ℕ) (st : State) → st ≡ opened start → Reached E start [] st
opening E start st e = subst (λ s. Reached E start [] s) (sym e) fresh
