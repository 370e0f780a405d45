-- The whole finder as it is seen, and its answers.
use Rattle.std.specs.Prelude.{◌≡◌, ℕ, List, map, Some, None, Ok, Err, MatchBool, Option, Result, nat_le}
use Rattle.refusals.specs.Numbers.{sheet_refusal, firmware_refusal, refused_by}
use Rattle.refusals.specs.declared.sheet.SheetRefusal.{SheetRefusal}
use Rattle.refusals.specs.declared.firmware.FirmwareRefusal.{FirmwareRefusal}
use Rattle.operators.specs.Bands.{SetMeaning}
use Rattle.measures.specs.Measures.{MeasureMeaning}
use Rattle.formulas.specs.Setting.{Setting}
use Rattle.formulas.specs.Steps.{Steps, listed}
use Rattle.formulas.specs.declared.steps.Step.{Step}
use Rattle.rows.specs.Read.{Read}
use Rattle.rows.specs.declared.row.Row.{Row}
use Rattle.search.specs.Places as places
use Rattle.search.specs.Marks.{steps_of}
use Rattle.search.specs.Machine as machine
use Rattle.finder.specs.View.{rows_seen, bank_seen, made_of, candidate_seen, setting}
use Rattle.finder.specs.declared.sheet.Sheet.{Sheet}
use Rattle.finder.specs.declared.bank.Bank.{Bank}
use Rattle.finder.specs.declared.state.State.{State}
use Rattle.finder.specs.declared.state.State.TheVariants as state
use Rattle.finder.specs.declared.state.Answer.{Answer}
use Rattle.finder.specs.declared.state.Answer.TheVariants as answer
use Rattle.finder.specs.declared.state.LevelResult.{LevelResult}
use Rattle.finder.specs.declared.state.LevelResult.TheVariants as result
use Rattle.finder.specs.declared.state.Finder.{Finder}

abbrev pub status_seen : SetMeaning → State → machine.Status
status_seen m state.Open = machine.is_open
status_seen m (state.Found c p) = machine.is_found (candidate_seen m c) p.0 p.1
status_seen m state.None = machine.is_none
status_seen m state.Full = machine.is_full

abbrev pub answer_seen : Answer → machine.Answer
answer_seen (answer.Level w n) = machine.level w n
answer_seen (answer.Found p) = machine.found p.0 p.1
answer_seen answer.None = machine.none
answer_seen answer.Full = machine.full

abbrev pub result_seen : Result Answer FirmwareRefusal → machine.Answer
result_seen (Ok a) = answer_seen a
result_seen (Err e) = machine.turned_away (firmware_refusal e).0 (firmware_refusal e).1

abbrev pub whole : SetMeaning → Sheet → Bank → State → machine.State
whole m s b st = record { rows = rows_seen s; limit = s.limit.value; places = bank_seen m s.rows.count b; status = status_seen m st }

abbrev pub finder_seen : {S M : Type 0} → SetMeaning → Finder S M → machine.State
finder_seen m f = whole m f.problem.sheet f.search.bank f.search.state

abbrev pub finder_setting : {S M : Type 0} → SetMeaning → MeasureMeaning → Finder S M → Setting
finder_setting m v f = setting m v f.problem.sheet

-- the set, the measure and the channel count are as they were
pub record SameGround {S M : Type 0} (f g : Finder S M) : Type 0 where
  pub set : g.problem.set ≡ f.problem.set
  pub measure : g.problem.measure ≡ f.problem.measure
  pub channels : g.problem.sheet.channels ≡ f.problem.sheet.channels

-- ── the parts of an add ──

-- the row that comes next: none where sixteen stand, then what the bytes say
abbrev pub NextRow : ℕ → ℕ → List ℕ → Result Row SheetRefusal → Type 0
NextRow standing channels bytes r = MatchBool (nat_le machine.most_rows standing) (refused_by sheet_refusal r ≡ Some (3, 0)) (Read channels bytes r)

-- ── the parts of an advance ──

-- on an open sheet an advance gives the answer and the status, and the bank is then after
abbrev pub ComesTo : SetMeaning → MeasureMeaning → Sheet → Bank → Bank → machine.Status → machine.Answer → Type 0
ComesTo m v s before after st a =
    ◌≡◌ {A = machine.Move}
    (record { answer = a; after = record { rows = rows_seen s; limit = s.limit.value; places = bank_seen m s.rows.count after; status = st } })
    (machine.advance_open (setting m v s) (whole m s before state.Open))

abbrev pub ReadsAs : SetMeaning → MeasureMeaning → Sheet → Bank → LevelResult → Bank → Type 0
ReadsAs m v s before result.Settled after = ⊥
ReadsAs m v s before result.Nothing after = ComesTo m v s before after machine.is_none machine.none
ReadsAs m v s before (result.Fits c p) after = ComesTo m v s before after (machine.is_found (candidate_seen m c) p.0 p.1) (machine.found p.0 p.1)
ReadsAs m v s before result.TooMany after = ComesTo m v s before after machine.is_full machine.full
ReadsAs m v s before (result.Filled w n) after = ComesTo m v s before after machine.is_open (machine.level w n)

-- what an advance comes to, by the state of the sheet
abbrev pub LevelBy : SetMeaning → MeasureMeaning → Sheet → State → Bank → LevelResult → Bank → Type 0
LevelBy m v s state.Open before r after = ReadsAs m v s before r after
LevelBy m v s (state.Found c p) before r after = (r ≡ result.Settled) × (after ≡ before)
LevelBy m v s state.None before r after = (r ≡ result.Settled) × (after ≡ before)
LevelBy m v s state.Full before r after = (r ≡ result.Settled) × (after ≡ before)

-- ── the steps of the formula found ──

abbrev pub step_seen : SetMeaning → Step → places.Candidate
step_seen m s = made_of m s.top s.args

abbrev pub steps_seen : SetMeaning → Steps → List places.Candidate
steps_seen m s = map (step_seen m) (listed s)

-- none unless the sheet has settled as Found; then the steps of what was found
abbrev pub FormulaOf : SetMeaning → Sheet → Bank → State → Option Steps → Type 0
FormulaOf m s b (state.Found c p) (Some steps) = steps_seen m steps ≡ steps_of (bank_seen m s.rows.count b) (candidate_seen m c)
FormulaOf m s b (state.Found c p) None = ⊥
FormulaOf m s b state.Open r = r ≡ None
FormulaOf m s b state.None r = r ≡ None
FormulaOf m s b state.Full r = r ≡ None
