-- The machine of six calls and the search's own do the same at add and advance.
use Rattle.std.proofs.Common.{◌≡◌, ℕ, ◌+◌, ◌<◌, ◌≤◌, Bool, true, false, cond, eqb, ltb, leb, List, [], ◌∷◌, length, Some, None, Option, refl, ap, ◌∙◌, arith}
use Rattle.std.proofs.lemmas.Bool.{le-leb, lt-leb}
use native.Mathlib.Decide.{dec_le, dec_lt, ℕ_discrete}
use Rattle.formulas.specs.Setting.{Setting}
use Rattle.rows.specs.Bounds.{most_rows}
use Rattle.rows.specs.Rows.{Judged, said, refused, judged, sound_bands}
use Rattle.histories.specs.History.{add, advance, row_refusal, advance_refusal, accepted, of_advance}
use Rattle.search.specs.Lists.{choose}
use Rattle.search.specs.Places.{Candidate, Place}
use Rattle.search.specs.Stored.{Held, level_at, built}
use Rattle.search.specs.Machine.{State, Status, is_open, is_found, is_none, is_full}
use Rattle.search.specs.Machine as search
use Rattle.promise.specs.Machine.{Move, Advanced, act, step, by_rules, by_room, advance_open, verdict_of}
use Rattle.promise.specs.Agreement.{add_told, advance_told, MachinesAgree}

-- ── advance ──

abbrev made : Advanced → Move
made a = record { event = of_advance (accepted a.outcome); after = a.after }

room_same : (st : State) (w : ℕ) (places : List Place) (over : Bool) → made (by_room st w places over) ≡ advance_told (search.by_room st w places over)
room_same st w places true = refl
room_same st w places false = refl

rules_same : (st : State) (w : ℕ) (above : Dec (st.limit < w)) (fit : Option Candidate) (same : Dec (w ≡ st.limit)) (h : Held)
    → made (by_rules st w above fit same h) ≡ advance_told (search.by_rules st w above fit same h)
rules_same st w (yes above) fit same h = refl
rules_same st w (no within) (Some t) same h = refl
rules_same st w (no within) None (yes same) h = refl
rules_same st w (no within) None (no other) h = room_same st w h.places h.over

open_same : (E : Setting) (st : State) → made (advance_open E st) ≡ advance_told (search.advance_open E st)
unfolding advance_open search.advance_open
open_same E st =
    let w = level_at E st.rows st.places in
    let b = built E st.rows w st.places in
    rules_same st w (dec_lt st.limit w) b.0 (ℕ_discrete w st.limit) b.1

advance_same : (E : Setting) (st : State) (s : Status) → act E st advance (advance_refusal (verdict_of st.places s)) ≡ advance_told (search.advance_by E st s)
advance_same E st is_open = open_same E st
advance_same E st (is_found t w s) = refl
advance_same E st is_none = refl
advance_same E st is_full = refl

-- ── add ──

-- what the bytes of a row are, by the three tests
abbrev row_by : List ℕ → ℕ → Bool → Bool → Bool → Judged
row_by bs b long above unsound = cond long (cond above (refused 2 0) (cond unsound (refused 2 (sound_bands bs + 1)) (said b bs))) (refused 1 0)

by_tests : (E : Setting) (st : State) (b : ℕ) (bs : List ℕ) (long above unsound : Bool)
    → act E st (add (b ∷ bs)) (row_refusal (row_by bs b long above unsound)) ≡ add_told (b ∷ bs) (search.last_row st (row_by bs b long above unsound))
by_tests E st b bs false above unsound = refl
by_tests E st b bs true true unsound = refl
by_tests E st b bs true false true = refl
by_tests E st b bs true false false = refl

row_same : (E : Setting) (st : State) (channels : ℕ) (bytes : List ℕ) → act E st (add bytes) (row_refusal (judged channels bytes)) ≡ add_told bytes (search.last_row st (judged channels bytes))
row_same E st channels [] = refl
row_same E st channels (b ∷ bs) = by_tests E st b bs (eqb (length bs) channels) (ltb 14 b) (ltb (sound_bands bs) (length bs))

add_same : (E : Setting) (st : State) (bytes : List ℕ) (full : Dec (most_rows ≤ length st.rows))
    → act E st (add bytes) (cond (leb most_rows (length st.rows)) (Some (3, 0)) (row_refusal (judged E.channels bytes)))
    ≡ add_told bytes (choose full (search.turned_down st 3 0) (search.last_row st (judged E.channels bytes)))
add_same E st bytes (yes h) =
    ap (λ (b : Bool). act E st (add bytes) (cond b (Some (3, 0)) (row_refusal (judged E.channels bytes)))) (le-leb most_rows (length st.rows) h)
add_same E st bytes (no h) =
    ap (λ (b : Bool). act E st (add bytes) (cond b (Some (3, 0)) (row_refusal (judged E.channels bytes)))) (lt-leb most_rows (length st.rows) (omega arith))
    ∙ row_same E st E.channels bytes

pub machines_agree_lem : MachinesAgree
unfolding step search.add
machines_agree_lem E st = (λ bytes. add_same E st bytes (dec_le most_rows (length st.rows)), advance_same E st st.status)
