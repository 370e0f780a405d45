-- What the code's tables say: the rows and the places that stand, in the words of the search over stored places.
use Rattle.std.specs.Prelude.{◌≡◌, ℕ, List, ◌++◌, map, take, Some, None, Option}
use Rattle.operators.specs.Bands.{SetMeaning}
use Rattle.measures.specs.Measures.{MeasureMeaning}
use Rattle.formulas.specs.Setting.{Setting}
use Rattle.formulas.specs.declared.steps.Top.{Top}
use Rattle.formulas.specs.declared.steps.Top.TheVariants.{Channel, Operator}
use Rattle.fixed.specs.Listed.{listed}
use Rattle.rows.specs.Rows.{StandingRow}
use Rattle.rows.specs.Read.{row_seen}
use Rattle.search.specs.Places as places
use Rattle.search.specs.Stored.{Held, build}
use Rattle.finder.specs.declared.sheet.Sheet.{Sheet}
use Rattle.finder.specs.declared.bank.Candidate.{Candidate}
use Rattle.finder.specs.declared.bank.Place.{Place}
use Rattle.finder.specs.declared.bank.Bank.{Bank}
use Rattle.finder.specs.declared.problem.Problem.{Problem}

abbrev pub rows_seen : Sheet → List StandingRow
rows_seen s = map (row_seen s.channels.value) (listed s.rows)

-- the arguments that count are as many as the arity
abbrev pub made_of : SetMeaning → Top → List ℕ → places.Candidate
made_of m (Channel i) args = places.of_channel i
made_of m (Operator k) args = places.of_operator k (take (m.arity k) args)

abbrev pub candidate_seen : SetMeaning → Candidate → places.Candidate
candidate_seen m c = made_of m c.top c.args

-- with n standing rows
abbrev pub place_seen : SetMeaning → ℕ → Place → places.Place
place_seen m n p = record { top = candidate_seen m p.made_of; column = take n p.column.bands; weight = p.weight.value }

abbrev pub bank_seen : SetMeaning → ℕ → Bank → List places.Place
bank_seen m n b = map (place_seen m n) (listed b.places)

abbrev pub held_seen : SetMeaning → ℕ → Bank → Held
held_seen m n b = record { places = bank_seen m n b; over = b.over }

abbrev pub setting : SetMeaning → MeasureMeaning → Sheet → Setting
setting m w s = record { set = m; measure = w; channels = s.channels.value }

-- the same of a problem, by what its set and its measure mean
abbrev pub setting_of : {S M : Type 0} → (S → SetMeaning) → (M → MeasureMeaning) → Problem S M → Setting
setting_of set measure p = setting (set p.set) (measure p.measure) p.sheet

abbrev pub rows_of : {S M : Type 0} → Problem S M → List StandingRow
rows_of p = rows_seen p.sheet

abbrev pub bank_of : {S M : Type 0} → (S → SetMeaning) → Problem S M → Bank → List places.Place
bank_of set p b = bank_seen (set p.set) p.sheet.rows.count b

abbrev pub held_of : {S M : Type 0} → (S → SetMeaning) → Problem S M → Bank → Held
held_of set p b = held_seen (set p.set) p.sheet.rows.count b

abbrev pub candidate_of : {S M : Type 0} → (S → SetMeaning) → Problem S M → Candidate → places.Candidate
candidate_of set p c = candidate_seen (set p.set) c

abbrev pub option_seen : SetMeaning → Option Candidate → Option places.Candidate
option_seen m (Some c) = Some (candidate_seen m c)
option_seen m None = None

-- some candidates are gone through: the first that fits is found, with what is held then; or what is held goes on to the rest
abbrev pub Builds : Setting → List StandingRow → ℕ → Held → List places.Candidate → Option places.Candidate → Held → Type 0
Builds E rows w before cs (Some c) after = (rest : List places.Candidate) → (Some c, after) ≡ build E rows w before (cs ++ rest)
Builds E rows w before cs None after = (rest : List places.Candidate) → build E rows w after rest ≡ build E rows w before (cs ++ rest)
