-- Opening, and a row more.
use Rattle.std.proofs.Common.{◌≡◌, ℕ, ◌<◌, ◌≤◌, Bool, true, false, leb, List, [], ◌∷◌, ◌++◌, map, length, Some, Ok, Err, MatchBool, sym, refl, ap, ◌∙◌, ap₂, arith}
use native.Mathlib.Decide.{dec_le}
use Rattle.std.proofs.lemmas.List.{map_push}
use Rattle.std.proofs.lemmas.Bool.{leb-true, leb-false}
use Rattle.refusals.specs.Numbers.{sheet_refusal, refused_by}
use Rattle.refusals.specs.declared.sheet.SheetRefusal.{SheetRefusal}
use Rattle.operators.specs.Bands.{SetMeaning}
use Rattle.formulas.specs.Setting.{Setting}
use Rattle.rows.specs.Rows.{StandingRow, judged}
use Rattle.rows.specs.Read.{row_seen, Read}
use Rattle.rows.specs.declared.row.Row.{Row}
use Rattle.rows.specs.declared.channels.ChannelCount.{ChannelCount}
use Rattle.search.specs.Places as places
use Rattle.search.specs.Machine.{State, opened, is_open, most_rows, turned_down, last_row, reopened, add}
use Rattle.search.proofs.Lists.{choose_yes, choose_no}
use Rattle.fixed.specs.Listed.{listed}
use Rattle.finder.specs.View.{rows_seen, place_seen, bank_seen}
use Rattle.finder.specs.Whole.{whole, NextRow}
use Rattle.finder.specs.declared.sheet.Sheet.{Sheet}
use Rattle.finder.specs.declared.bank.Bank.{Bank}
use Rattle.finder.specs.declared.bank.Place.{Place}
use Rattle.finder.specs.declared.state.State.TheVariants as state
use Rattle.finder.proofs.Seen.{rows-length}

pub opens : (m : SetMeaning) (s : Sheet) (b : Bank) (n : ℕ) → listed s.rows ≡ [] → listed b.places ≡ [] → s.limit.value ≡ n → whole m s b state.Open ≡ opened n
opens m s b n se be ne =
    ap (λ k. state_of (rows_seen s) k (bank_seen m s.rows.count b)) ne
    ∙ ap₂ (λ (rs : List Row) (ps : List Place). state_of (map (row_seen s.channels.value) rs) n (map (place_seen m s.rows.count) ps)) se be
  where
    state_of : List StandingRow → ℕ → List places.Place → State
    state_of rows n ps = record { rows = rows; limit = n; places = ps; status = is_open }

module _ (E : Setting) (st : State) (s : Sheet) (rows : rows_seen s ≡ st.rows) (bytes : List ℕ) where
  stand : length st.rows ≡ s.rows.count
  stand = ap length (sym rows) ∙ rows-length s

  many : 16 ≤ s.rows.count → turned_down st 3 0 ≡ add E st bytes
  unfolding add
  many l = let k = stand in sym (choose_yes (dec_le most_rows (length st.rows)) (turned_down st 3 0) _ (omega arith))

  few : s.rows.count < 16 → last_row st (judged E.channels bytes) ≡ add E st bytes
  unfolding add
  few l = let k = stand in sym (choose_no (dec_le most_rows (length st.rows)) (turned_down st 3 0) _ (λ q. absurd (omega arith)))

  module _ (ce : E.channels ≡ s.channels.value) where
    pub add_done : s.rows.count < 16 → (r : Row) → NextRow s.rows.count s.channels.value bytes (Ok r) → (rs : List StandingRow) → rs ≡ rows_seen s ++ (row_seen s.channels.value r ∷ []) → reopened rs st.limit ≡ add E st bytes
    add_done l r next rs e = go (leb 16 s.rows.count) refl next
      where
        go : (b : Bool) → leb 16 s.rows.count ≡ b → MatchBool b (refused_by sheet_refusal (Ok r) ≡ Some (3, 0)) (Read s.channels.value bytes (Ok r)) → reopened rs st.limit ≡ add E st bytes
        go true is never = absurd (let z : ◌≡◌ {A = ℕ} 0 1 = cc in omega arith)
        go false is read =
            ap (λ rs. reopened rs st.limit) (e ∙ ap (λ (u : List StandingRow). u ++ (row_seen s.channels.value r ∷ [])) rows)
            ∙ ap (last_row st) (sym read ∙ ap (λ n. judged n bytes) (sym ce))
            ∙ few l

    pub add-refused : (r : SheetRefusal) → NextRow s.rows.count s.channels.value bytes (Err r) → turned_down st (sheet_refusal r).0 (sheet_refusal r).1 ≡ add E st bytes
    add-refused r next = go (leb 16 s.rows.count) refl next
      where
        go : (b : Bool) → leb 16 s.rows.count ≡ b → MatchBool b (refused_by {T = Row} sheet_refusal (Err r) ≡ Some (3, 0)) (Read s.channels.value bytes (Err r)) → turned_down st (sheet_refusal r).0 (sheet_refusal r).1 ≡ add E st bytes
        go true is full =
            let q : sheet_refusal r ≡ (3, 0) = cc in
            ap (λ (p : ℕ × ℕ). turned_down st p.0 p.1) q ∙ many (leb-true 16 s.rows.count is)
        go false is read = ap (last_row st) (sym read ∙ ap (λ n. judged n bytes) (sym ce)) ∙ few (leb-false 16 s.rows.count is)

-- a sheet with one row more
pub put_last : (s t : Sheet) (r : Row) → listed t.rows ≡ listed s.rows ++ r ∷ [] → t.channels ≡ s.channels → rows_seen t ≡ rows_seen s ++ (row_seen s.channels.value r ∷ [])
put_last s t r le he =
    ap (map (row_seen t.channels.value)) le
    ∙ ap (λ (c : ChannelCount). map (row_seen c.value) (listed s.rows ++ r ∷ [])) he
    ∙ map_push (row_seen s.channels.value) (listed s.rows) r
