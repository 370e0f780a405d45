-- An advance over a bank of formulas, by its five rules. The bank is the list of its formulas, by place; a place's column and weight
-- are those of its formula.
use Rattle.std.proofs.Common.{◌≡◌, ℕ, ◌+◌, ◌<◌, List, [], ◌∷◌, ◌++◌, map, length}
use native.Mathlib.Decide.{dec_lt, ℕ_discrete}
use Rattle.rows.specs.Rows.{StandingRow, wanted_of}
use Rattle.formulas.specs.Setting.{Setting}
use Rattle.formulas.specs.Formula.{Formula, Formula-discrete, weight, parts, column, Wanted}
use Rattle.formulas.specs.Steps.{most_places}
use Rattle.histories.specs.History.{Outcome, level, found, none, full, Verdict, unsettled, as_found, as_none, as_full}
use Rattle.search.specs.Lists.{dec_in, bands_discrete}
use Rattle.promise.proofs.Lists.{keep}
use Rattle.promise.proofs.Search.{candidates, level_of, fitting, new-places}

-- how far the search has come
pub data Progress : Type 0 where
  ongoing : Progress
  finds : Formula → Progress
  finds_none : Progress
  overfull : Progress

pub record Advanced : Type 0 where
  pub outcome : Outcome
  pub bank : List Formula
  pub progress : Progress

abbrev pub columns : Setting → List StandingRow → List Formula → List (List ℕ)
columns E rows bank = map (column E rows) bank

-- whether a column is the wanted one
unfoldable pub is-wanted : (rows : List StandingRow) (col : List ℕ) → Dec (Wanted rows col)
is-wanted rows col = bands_discrete col (wanted_of rows)

-- the steps that a formula uses, by bank place, the formula itself last
unfoldable pub used : List Formula → Formula → List Formula
used bank f = keep (λ g. dec_in Formula-discrete g (parts f)) bank ++ (f ∷ [])

-- w: the level; fit: the candidates of that weight that fit; new: its new places
abbrev pub judged : (bound : ℕ) (bank : List Formula) (w : ℕ) → Dec (bound < w) → List Formula → Dec (w ≡ bound) → (new : List Formula) → Dec (most_places < length bank + length new) → Advanced
judged bound bank w (yes above) fit same new past = record { outcome = none; bank = bank; progress = finds_none }
judged bound bank w (no within) (f ∷ fit) same new past = record { outcome = found w (length (used bank f)); bank = bank; progress = finds f }
judged bound bank w (no within) [] (yes same) new past = record { outcome = none; bank = bank; progress = finds_none }
judged bound bank w (no within) [] (no other) new (yes past) = record { outcome = full; bank = bank; progress = overfull }
judged bound bank w (no within) [] (no other) new (no room) = record { outcome = level w (length (bank ++ new)); bank = bank ++ new; progress = ongoing }

unfoldable pub advanced : Setting → List StandingRow → ℕ → List Formula → Advanced
advanced E rows bound bank =
    let key = column E rows in
    let cands = candidates E bank in
    let w = level_of E bands_discrete key bank cands in
    let new = new-places E bands_discrete key bank cands w in
    judged bound bank w (dec_lt bound w) (fitting E key (is-wanted rows) cands w) (ℕ_discrete w bound) new (dec_lt most_places (length bank + length new))

-- as what the sheet has settled
abbrev pub verdict-at : Setting → List Formula → Progress → Verdict
verdict-at E bank ongoing = unsettled
verdict-at E bank (finds f) = as_found (weight E f) (length (used bank f))
verdict-at E bank finds_none = as_none
verdict-at E bank overfull = as_full
