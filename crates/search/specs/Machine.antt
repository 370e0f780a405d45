-- The finder over stored places: what a call answers and what the finder then holds.
use Rattle.std.specs.Prelude.{◌≡◌, ℕ, ◌<◌, Bool, true, false, List, [], ◌∷◌, ◌++◌, length, Some, None, Option}
use Rattle.std.proofs.Math.Decide.{dec_le, dec_lt, ℕ_discrete}
use Rattle.formulas.specs.Setting.{Setting}
use Rattle.rows.specs.Rows.{StandingRow, Judged, said, refused, judged}
use Rattle.search.specs.Lists.{choose}
use Rattle.search.specs.Places.{Candidate, Place}
use Rattle.search.specs.Stored.{Held, level_at, built}
use Rattle.search.specs.Marks.{steps_at}

-- whether the sheet is open, or as what it has settled: Found with the candidate, its weight and its number of steps
pub data Status : Type 0 where
  is_open : Status
  is_found : Candidate → ℕ → ℕ → Status
  is_none : Status
  is_full : Status

pub record State : Type 0 where
  pub rows : List StandingRow
  pub limit : ℕ
  pub places : List Place
  pub status : Status

abbrev pub opened : ℕ → State
opened limit = record { rows = []; limit = limit; places = []; status = is_open }

-- ── add ──

-- how many rows a sheet has at most
abbrev pub most_rows : ℕ
most_rows = 16

-- a refusal's number and place if there is one, and what the finder then holds
pub record Change : Type 0 where
  pub refusal : Option (ℕ × ℕ)
  pub after : State

abbrev pub turned_down : State → ℕ → ℕ → Change
turned_down st n p = record { refusal = Some (n, p); after = st }

-- an accepted change empties the bank and reopens the sheet
abbrev pub reopened : List StandingRow → ℕ → Change
reopened rows limit = record { refusal = None; after = record { rows = rows; limit = limit; places = []; status = is_open } }

abbrev pub last_row : State → Judged → Change
last_row st (said wanted bands) = reopened (st.rows ++ (record { wanted = wanted; bands = bands } ∷ [])) st.limit
last_row st (refused n p) = turned_down st n p

unfoldable pub add : Setting → State → List ℕ → Change
add E st bytes = choose (dec_le most_rows (length st.rows)) (turned_down st 3 0) (last_row st (judged E.channels bytes))

-- ── advance ──

pub data Answer : Type 0 where
  level : ℕ → ℕ → Answer
  found : ℕ → ℕ → Answer
  none : Answer
  full : Answer
  turned_away : ℕ → ℕ → Answer

pub record Move : Type 0 where
  pub answer : Answer
  pub after : State

abbrev pub settles_as : State → Status → Answer → Move
settles_as st s a = record { answer = a; after = record { rows = st.rows; limit = st.limit; places = st.places; status = s } }

abbrev pub filled_to : State → ℕ → List Place → Move
filled_to st w places = record { answer = level w (length places); after = record { rows = st.rows; limit = st.limit; places = places; status = is_open } }

abbrev pub by_room : State → ℕ → List Place → Bool → Move
by_room st w places true = settles_as st is_full full
by_room st w places false = filled_to st w places

-- the five rules in their order: no level, or above the limit; a candidate of the level fits; the level is the limit; the new
-- columns go past the bank; else the bank takes them
abbrev pub by_rules : (st : State) (w : ℕ) → Dec (st.limit < w) → Option Candidate → Dec (w ≡ st.limit) → Held → Move
by_rules st w (yes above) fit same h = settles_as st is_none none
by_rules st w (no within) (Some t) same h = settles_as st (is_found t w (steps_at st.places t)) (found w (steps_at st.places t))
by_rules st w (no within) None (yes same) h = settles_as st is_none none
by_rules st w (no within) None (no other) h = by_room st w h.places h.over

unfoldable pub advance_open : Setting → State → Move
advance_open E st =
    let w = level_at E st.rows st.places in
    let b = built E st.rows w st.places in
    by_rules st w (dec_lt st.limit w) b.0 (ℕ_discrete w st.limit) b.1

abbrev pub advance_by : Setting → State → Status → Move
advance_by E st is_open = advance_open E st
advance_by E st (is_found t w s) = record { answer = turned_away 7 0; after = st }
advance_by E st is_none = record { answer = turned_away 7 0; after = st }
advance_by E st is_full = record { answer = turned_away 7 0; after = st }

abbrev pub advance : Setting → State → Move
advance E st = advance_by E st st.status
