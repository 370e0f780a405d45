-- The finder over stored places, for all six calls: the event that each makes, and what the finder then holds. The state is that of
-- the search; its own machine, by which the code's contracts speak, has add and advance alone and answers of its own.
use Rattle.std.specs.Prelude.{◌≡◌, ℕ, ◌<◌, Bool, true, false, List, [], ◌∷◌, ◌++◌, length, Some, None, Option, slice_set}
use Rattle.std.proofs.Math.Decide.{dec_lt, ℕ_discrete}
use Rattle.rows.specs.Rows.{StandingRow}
use Rattle.formulas.specs.Setting.{Setting}
use Rattle.records.specs.Bytes.{record_of}
use Rattle.histories.specs.History.{Call, add, correct, strike, limit, advance, write, refused, accepted, done, Outcome, level, found, none, full, Event, of_add, of_correct, of_strike, of_limit, of_advance, of_write, Verdict, unsettled, as_found, as_none, as_full, row_of, but_last, refusal_due}
use Rattle.search.specs.Places.{Candidate, Place}
use Rattle.search.specs.Stored.{Held, level_at, built}
use Rattle.search.specs.Marks.{steps_at}
use Rattle.search.specs.Machine.{State, Status, is_open, is_found, is_none, is_full}
use Rattle.promise.specs.Steps.{steps_of}

-- as what the sheet has settled; the steps are those that a write would write
abbrev pub verdict_of : List Place → Status → Verdict
verdict_of places is_open = unsettled
verdict_of places (is_found t w s) = as_found w (length (steps_of places t))
verdict_of places is_none = as_none
verdict_of places is_full = as_full

-- an accepted change empties the bank and reopens the sheet
abbrev pub reopened : List StandingRow → ℕ → State
reopened rows bound = record { rows = rows; limit = bound; places = []; status = is_open }

-- no row, an empty bank, an open sheet
abbrev pub opened : ℕ → State
opened start = reopened [] start

-- ── an advance on an open sheet ──

pub record Advanced : Type 0 where
  pub outcome : Outcome
  pub after : State

abbrev pub settles_as : State → Status → Outcome → Advanced
settles_as st s o = record { outcome = o; after = record { rows = st.rows; limit = st.limit; places = st.places; status = s } }

abbrev pub filled_to : State → ℕ → List Place → Advanced
filled_to st w places = record { outcome = level w (length places); after = record { rows = st.rows; limit = st.limit; places = places; status = is_open } }

abbrev pub by_room : State → ℕ → List Place → Bool → Advanced
by_room st w places true = settles_as st is_full full
by_room st w places false = filled_to st w places

-- the five rules in their order: no level, or above the limit; a candidate of the level fits; the level is the limit; the new
-- columns go past the bank; else the bank takes them
abbrev pub by_rules : (st : State) (w : ℕ) → Dec (st.limit < w) → Option Candidate → Dec (w ≡ st.limit) → Held → Advanced
by_rules st w (yes above) fit same h = settles_as st is_none none
by_rules st w (no within) (Some t) same h = settles_as st (is_found t w (steps_at st.places t)) (found w (steps_at st.places t))
by_rules st w (no within) None (yes same) h = settles_as st is_none none
by_rules st w (no within) None (no other) h = by_room st w h.places h.over

unfoldable pub advance_open : Setting → State → Advanced
advance_open E st =
    let w = level_at E st.rows st.places in
    let b = built E st.rows w st.places in
    by_rules st w (dec_lt st.limit w) b.0 (ℕ_discrete w st.limit) b.1

-- ── write ──

-- the record of the formula found
abbrev pub found_record : List Place → Status → List ℕ
found_record places is_open = []
found_record places (is_found t w s) = record_of (steps_of places t)
found_record places is_none = []
found_record places is_full = []

-- ── the calls ──

-- a call with its answer, and what the finder then holds
pub record Move : Type 0 where
  pub event : Event
  pub after : State

-- a refused call changes nothing; write changes nothing at all
abbrev pub act : Setting → State → Call → Option (ℕ × ℕ) → Move
act E st (add bytes) (Some r) = record { event = of_add bytes (refused r.0 r.1); after = st }
act E st (add bytes) None = record { event = of_add bytes (accepted done); after = reopened (st.rows ++ (row_of bytes ∷ [])) st.limit }
act E st (correct i bytes) (Some r) = record { event = of_correct i bytes (refused r.0 r.1); after = st }
act E st (correct i bytes) None = record { event = of_correct i bytes (accepted done); after = reopened (slice_set st.rows i (row_of bytes)) st.limit }
act E st strike (Some r) = record { event = of_strike (refused r.0 r.1); after = st }
act E st strike None = record { event = of_strike (accepted done); after = reopened (but_last st.rows) st.limit }
act E st (limit m) (Some r) = record { event = of_limit m (refused r.0 r.1); after = st }
act E st (limit m) None = record { event = of_limit m (accepted done); after = reopened st.rows m }
act E st advance (Some r) = record { event = of_advance (refused r.0 r.1); after = st }
act E st advance None = let a = advance_open E st in record { event = of_advance (accepted a.outcome); after = a.after }
act E st (write room) (Some r) = record { event = of_write room (refused r.0 r.1); after = st }
act E st (write room) None = record { event = of_write room (accepted (found_record st.places st.status)); after = st }

-- a call is refused exactly where a refusal is due
unfoldable pub step : Setting → State → Call → Move
step E st c = act E st c (refusal_due E.channels st.rows (verdict_of st.places st.status) c)
