-- The promise: what it is that the answers of a history are true. No bank, no candidate and no place is in it.
use Rattle.std.specs.Prelude.{◌≡◌, ℕ, ◌≤◌, ◌↔◌, List, [], ◌∷◌}
use Rattle.rows.specs.Rows.{StandingRow}
use Rattle.formulas.specs.Setting.{Setting}
use Rattle.formulas.specs.Formula.{Formula, Formed, weight, column, Wanted, Fits, StepsNumber}
use Rattle.formulas.specs.Steps.{most_steps}
use Rattle.records.specs.Bytes.{steps_in}
use Rattle.records.specs.Record.{Lawful, Says}
use Rattle.histories.specs.Levels.{Over, Within, OutcomeTrue}
use Rattle.histories.specs.History.{Reply, refused, accepted, Outcome, Event, of_add, of_correct, of_strike, of_limit, of_advance, of_write, History, call_of, rows_of, limit_of, advances, last_level, Verdict, unsettled, as_found, as_none, as_full, verdict, refusal_due, refusal_in}

-- f is a fitting formula of weight w with s different parts, and every fitting formula weighs at least as much
pub record Lightest (E : Setting) (rows : List StandingRow) (w s : ℕ) (f : Formula) : Type 0 where
  pub formed : Formed E f
  pub fits : Fits E rows f
  pub weighs : weight E f ≡ w
  pub steps : StepsNumber f s
  pub least : (g : Formula) → Formed E g → Fits E rows g → w ≤ weight E g

-- over 512 different columns have formulas lighter than the bar: the limit, or the lightest fitting formula's weight if that is
-- lower
abbrev pub Over512LighterColumns : Setting → List StandingRow → ℕ → Type 0
Over512LighterColumns E rows bound = Over E (Formed E) (column E rows) (Wanted rows) bound

-- a fitting formula is within the limit
abbrev pub FitWithinLimit : Setting → List StandingRow → ℕ → Type 0
FitWithinLimit E rows bound = Within E (Formed E) (column E rows) (Wanted rows) bound

-- an accepted write's record: lawful, of s steps, and saying a lightest fitting formula
pub record WrittenFormula (E : Setting) (rows : List StandingRow) (w s : ℕ) (bytes : List ℕ) : Type 0 where
  pub lawful : Lawful E.set E.channels bytes
  pub number : steps_in bytes ≡ s
  pub formula : Formula
  pub says : Says E.set bytes formula
  pub lightest : Lightest E rows w s formula

-- ── the answers ──

-- an accepted advance goes up by one level from the last, v
abbrev pub AdvanceTrue : Setting → List StandingRow → ℕ → ℕ → Reply Outcome → Type 0
AdvanceTrue E rows bound v (refused number place) = Unit {0}
AdvanceTrue E rows bound v (accepted o) = OutcomeTrue E (Formed E) (column E rows) (Wanted rows) bound v o

-- an accepted write gives the formula that Found told of
abbrev pub WriteTrue : Setting → List StandingRow → Verdict → Reply (List ℕ) → Type 0
WriteTrue E rows u (refused number place) = Unit {0}
WriteTrue E rows u (accepted bytes) = (w s : ℕ) → u ≡ as_found w s → WrittenFormula E rows w s bytes

abbrev pub AnswerTrue : Setting → ℕ → History → Event → Type 0
AnswerTrue E start past (of_add bytes r) = Unit {0}
AnswerTrue E start past (of_correct i bytes r) = Unit {0}
AnswerTrue E start past (of_strike r) = Unit {0}
AnswerTrue E start past (of_limit m r) = Unit {0}
AnswerTrue E start past (of_advance r) = AdvanceTrue E (rows_of past) (limit_of start past) (last_level past) r
AnswerTrue E start past (of_write room r) = WriteTrue E (rows_of past) (verdict past) r

-- the event e after the history past
pub record EventTrue (E : Setting) (start : ℕ) (past : History) (e : Event) : Type 0 where
  -- refused with exactly the number and place that are due, and accepted where none is
  pub refused_exactly_when_due : refusal_in e ≡ refusal_due E.channels (rows_of past) (verdict past) (call_of e)
  pub given : AnswerTrue E start past e

abbrev pub Settled : Verdict → Type 0
Settled unsettled = ⊥
Settled (as_found w s) = Unit {0}
Settled as_none = Unit {0}
Settled as_full = Unit {0}

abbrev pub IsFull : Verdict → Type 0
IsFull unsettled = ⊥
IsFull (as_found w s) = ⊥
IsFull as_none = ⊥
IsFull as_full = Unit {0}

abbrev pub IsNone : Verdict → Type 0
IsNone unsettled = ⊥
IsNone (as_found w s) = ⊥
IsNone as_none = Unit {0}
IsNone as_full = ⊥

abbrev pub IsFound : Verdict → Type 0
IsFound unsettled = ⊥
IsFound (as_found w s) = Unit {0}
IsFound as_none = ⊥
IsFound as_full = ⊥

-- so many accepted advances always settle a sheet: one for each bank place, and one more
abbrev pub most_advances : ℕ
most_advances = 513

-- the sheet as a history leaves it: rows, limit, what it has settled as, and how many advances were accepted
pub record SheetTrue (E : Setting) (rows : List StandingRow) (bound : ℕ) (u : Verdict) (n : ℕ) : Type 0 where
  -- Found carries the weight and the number of steps of a lightest fitting formula
  pub found_is_lightest : (w s : ℕ) → u ≡ as_found w s → (f : Formula) × Lightest E rows w s f
  -- so that a buffer for 513 steps always has room
  pub found_has_at_most_513_steps : (w s : ℕ) → u ≡ as_found w s → s ≤ most_steps
  -- a settled sheet is Full exactly when over 512 different columns have formulas lighter than the bar
  pub full_means_over_512_lighter_columns : Settled u → IsFull u ↔ Over512LighterColumns E rows bound
  -- otherwise Found if a fitting formula is within the limit, and None if not
  pub otherwise_found_if_within_limit : Settled u → ¬ Over512LighterColumns E rows bound → FitWithinLimit E rows bound → IsFound u
  pub otherwise_none_if_not : Settled u → ¬ Over512LighterColumns E rows bound → ¬ FitWithinLimit E rows bound → IsNone u
  -- by the 513th accepted advance after opening or the last accepted change the sheet has settled
  pub settled_by_513th_advance : most_advances ≤ n → Settled u

abbrev pub SheetTrueAfter : Setting → ℕ → History → Type 0
SheetTrueAfter E start h = SheetTrue E (rows_of h) (limit_of start h) (verdict h) (advances h)

-- every answer of the history is true, and the sheet is, after each
abbrev pub AnswersAreTrue : Setting → ℕ → History → Type 0
AnswersAreTrue E start [] = SheetTrueAfter E start []
AnswersAreTrue E start (e ∷ past) = EventTrue E start past e × SheetTrueAfter E start (e ∷ past) × AnswersAreTrue E start past
