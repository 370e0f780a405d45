-- That the machine of six calls does at add and advance what the search's own machine does, by which the contracts of the running
-- finder speak.
use Rattle.std.specs.Prelude.{◌≡◌, ℕ, List, Some, None, Option}
use Rattle.formulas.specs.Setting.{Setting}
use Rattle.histories.specs.History.{add, advance, refused, accepted, done, Done, Outcome, Reply, level, found, none, full, of_add, of_advance}
use Rattle.search.specs.Machine.{State}
use Rattle.search.specs.Machine as search
use Rattle.promise.specs.Machine.{step, Move}

-- how many of the six calls the search's own machine has: add and advance
abbrev pub shared_calls : ℕ
shared_calls = 2

-- the answer to a change, by its refusal if there is one
abbrev pub change_told : Option (ℕ × ℕ) → Reply Done
change_told None = accepted done
change_told (Some r) = refused r.0 r.1

-- the answer to an advance
abbrev pub answer_told : search.Answer → Reply Outcome
answer_told (search.level w c) = accepted (level w c)
answer_told (search.found w s) = accepted (found w s)
answer_told search.none = accepted none
answer_told search.full = accepted full
answer_told (search.turned_away n p) = refused n p

abbrev pub add_told : List ℕ → search.Change → Move
add_told bytes c = record { event = of_add bytes (change_told c.refusal); after = c.after }

abbrev pub advance_told : search.Move → Move
advance_told m = record { event = of_advance (answer_told m.answer); after = m.after }

-- the same answer, and the same state after it
abbrev pub MachinesAgree : Type 0
MachinesAgree = (E : Setting) (st : State) →
    ((bytes : List ℕ) → step E st (add bytes) ≡ add_told bytes (search.add E st bytes)) × (step E st advance ≡ advance_told (search.advance E st))
