-- What was called and what was answered, and what follows from that alone: the standing rows, the limit in force, how many
-- advances were accepted since opening or the last accepted change, the last level since, as what the sheet has settled since,
-- and which refusal is due to a call.
use Rattle.std.specs.Prelude.{ℕ, suc, cond, List, [], ◌∷◌, ◌++◌, length, Some, None, Option, nat_le, nat_lt, slice_set}
use Rattle.rows.specs.Bounds.{most_rows, limit_refusal}
use Rattle.rows.specs.Rows.{StandingRow, Judged, judged}
use Rattle.rows.specs.Rows as row
use Rattle.records.specs.Size.{record_size}

pub data Call : Type 0 where
  -- a row's bytes
  add : List ℕ → Call
  -- the row's number, counted from 0, and its new bytes
  correct : ℕ → List ℕ → Call
  strike : Call
  limit : ℕ → Call
  advance : Call
  -- into a buffer of so many bytes
  write : ℕ → Call

-- a refusal by number and place, or what the accepted call gives
pub data Reply (A : Type 0) : Type 0 where
  refused : ℕ → ℕ → Reply A
  accepted : A → Reply A

-- a change gives nothing but that it was accepted
pub data Done : Type 0 where
  done : Done

-- what an advance gives
pub data Outcome : Type 0 where
  -- the level's weight, and how many columns have formulas up to it
  level : ℕ → ℕ → Outcome
  -- the weight and the number of steps
  found : ℕ → ℕ → Outcome
  none : Outcome
  full : Outcome

-- a call with its answer: each call has its own kind
pub data Event : Type 0 where
  of_add : List ℕ → Reply Done → Event
  of_correct : ℕ → List ℕ → Reply Done → Event
  of_strike : Reply Done → Event
  of_limit : ℕ → Reply Done → Event
  of_advance : Reply Outcome → Event
  -- the bytes written
  of_write : ℕ → Reply (List ℕ) → Event

-- the latest event first
abbrev pub History : Type 0
History = List Event

abbrev pub call_of : Event → Call
call_of (of_add bytes r) = add bytes
call_of (of_correct i bytes r) = correct i bytes
call_of (of_strike r) = strike
call_of (of_limit m r) = limit m
call_of (of_advance r) = advance
call_of (of_write room r) = write room

abbrev pub calls_of : History → List Call
calls_of [] = []
calls_of (e ∷ past) = call_of e ∷ calls_of past

-- ── what an event does ──

pub data Effect : Type 0 where
  nothing : Effect
  reopens : Effect
  goes : Outcome → Effect

abbrev pub change : Reply Done → Effect
change (refused number place) = nothing
change (accepted d) = reopens

abbrev pub going : Reply Outcome → Effect
going (refused number place) = nothing
going (accepted o) = goes o

abbrev pub effect : Event → Effect
effect (of_add bytes r) = change r
effect (of_correct i bytes r) = change r
effect (of_strike r) = change r
effect (of_limit m r) = change r
effect (of_advance r) = going r
effect (of_write room r) = nothing

-- the new value where the change was accepted, and the old one where not
abbrev pub if_accepted : {A : Type 0} → Reply Done → A → A → A
if_accepted (refused number place) new old = old
if_accepted (accepted d) new old = new

-- ── the rows and the limit ──

-- the wanted band is the first byte of a row, the rest are the channels' bands
abbrev pub row_of : List ℕ → StandingRow
row_of [] = record { wanted = 0; bands = [] }
row_of (b ∷ bs) = record { wanted = b; bands = bs }

abbrev pub but_last : {A : Type 0} → List A → List A
but_last [] = []
but_last (x ∷ []) = []
but_last (x ∷ y ∷ xs) = x ∷ but_last (y ∷ xs)

-- add puts a row last, correct overwrites one standing row, strike takes the last away
abbrev pub rows_by : Event → List StandingRow → List StandingRow
rows_by (of_add bytes r) rows = if_accepted r (rows ++ (row_of bytes ∷ [])) rows
rows_by (of_correct i bytes r) rows = if_accepted r (slice_set rows i (row_of bytes)) rows
rows_by (of_strike r) rows = if_accepted r (but_last rows) rows
rows_by (of_limit m r) rows = rows
rows_by (of_advance r) rows = rows
rows_by (of_write room r) rows = rows

abbrev pub limit_by : Event → ℕ → ℕ
limit_by (of_add bytes r) bound = bound
limit_by (of_correct i bytes r) bound = bound
limit_by (of_strike r) bound = bound
limit_by (of_limit m r) bound = if_accepted r m bound
limit_by (of_advance r) bound = bound
limit_by (of_write room r) bound = bound

abbrev pub rows_of : History → List StandingRow
rows_of [] = []
rows_of (e ∷ past) = rows_by e (rows_of past)

-- start is the limit at opening
abbrev pub limit_of : ℕ → History → ℕ
limit_of start [] = start
limit_of start (e ∷ past) = limit_by e (limit_of start past)

-- ── since opening or the last accepted change ──

abbrev pub advances_by : Effect → ℕ → ℕ
advances_by nothing n = n
advances_by reopens n = 0
advances_by (goes o) n = suc n

-- how many advances were accepted
abbrev pub advances : History → ℕ
advances [] = 0
advances (e ∷ past) = advances_by (effect e) (advances past)

abbrev pub risen_to : Outcome → ℕ → ℕ
risen_to (level w c) v = w
risen_to (found w s) v = v
risen_to none v = v
risen_to full v = v

abbrev pub level_by : Effect → ℕ → ℕ
level_by nothing v = v
level_by reopens v = 0
level_by (goes o) v = risen_to o v

-- the weight of the last level, 0 at first
abbrev pub last_level : History → ℕ
last_level [] = 0
last_level (e ∷ past) = level_by (effect e) (last_level past)

-- what an advance has answered for good, if it has: Found with the weight and the number of steps
pub data Verdict : Type 0 where
  unsettled : Verdict
  as_found : ℕ → ℕ → Verdict
  as_none : Verdict
  as_full : Verdict

abbrev pub settled_as : Outcome → Verdict
settled_as (level w c) = unsettled
settled_as (found w s) = as_found w s
settled_as none = as_none
settled_as full = as_full

abbrev pub verdict_by : Effect → Verdict → Verdict
verdict_by nothing u = u
verdict_by reopens u = unsettled
verdict_by (goes o) u = settled_as o

abbrev pub verdict : History → Verdict
verdict [] = unsettled
verdict (e ∷ past) = verdict_by (effect e) (verdict past)

-- ── which refusal is due, by number and place ──

-- 1 for a wrong length, then 2 at the first byte at fault
abbrev pub row_refusal : Judged → Option (ℕ × ℕ)
row_refusal (row.said wanted bands) = None
row_refusal (row.refused number place) = Some (number, place)

-- no row to strike
abbrev pub strike_refusal : List StandingRow → Option (ℕ × ℕ)
strike_refusal [] = Some (4, 0)
strike_refusal (r ∷ rows) = None

-- a settled sheet
abbrev pub advance_refusal : Verdict → Option (ℕ × ℕ)
advance_refusal unsettled = None
advance_refusal (as_found w s) = Some (7, 0)
advance_refusal as_none = Some (7, 0)
advance_refusal as_full = Some (7, 0)

-- 8 without Found, then 9 where the record does not fit
abbrev pub write_refusal : ℕ → Verdict → Option (ℕ × ℕ)
write_refusal room unsettled = Some (8, 0)
write_refusal room (as_found w s) = cond (nat_lt room (record_size s)) (Some (9, 0)) None
write_refusal room as_none = Some (8, 0)
write_refusal room as_full = Some (8, 0)

-- with so many channels, the standing rows and what the sheet has settled as: add tries 3, 1, 2; correct 4, 1, 2
abbrev pub refusal_due : ℕ → List StandingRow → Verdict → Call → Option (ℕ × ℕ)
refusal_due channels rows u (add bytes) = cond (nat_le most_rows (length rows)) (Some (3, 0)) (row_refusal (judged channels bytes))
refusal_due channels rows u (correct i bytes) = cond (nat_lt i (length rows)) (row_refusal (judged channels bytes)) (Some (4, 0))
refusal_due channels rows u strike = strike_refusal rows
refusal_due channels rows u (limit m) = limit_refusal m
refusal_due channels rows u advance = advance_refusal u
refusal_due channels rows u (write room) = write_refusal room u

-- the refusal that was answered
abbrev pub refusal : {A : Type 0} → Reply A → Option (ℕ × ℕ)
refusal (refused number place) = Some (number, place)
refusal (accepted a) = None

abbrev pub refusal_in : Event → Option (ℕ × ℕ)
refusal_in (of_add bytes r) = refusal r
refusal_in (of_correct i bytes r) = refusal r
refusal_in (of_strike r) = refusal r
refusal_in (of_limit m r) = refusal r
refusal_in (of_advance r) = refusal r
refusal_in (of_write room r) = refusal r
