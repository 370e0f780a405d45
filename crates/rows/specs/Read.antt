-- What reading a row's bytes answers.
use Rattle.std.specs.Prelude.{◌≡◌, ℕ, List, take, Ok, Err, Result}
use Rattle.refusals.specs.Numbers.{sheet_refusal}
use Rattle.refusals.specs.declared.sheet.SheetRefusal.{SheetRefusal}
use Rattle.rows.specs.Rows.{StandingRow, judged, said, refused}
use Rattle.rows.specs.declared.row.Row.{Row}

-- what a stored row says with c channels
abbrev pub row_seen : ℕ → Row → StandingRow
row_seen c r = record { wanted = r.wanted; bands = take c r.bands }

-- the row that the bytes say, or their refusal
abbrev pub Read : ℕ → List ℕ → Result Row SheetRefusal → Type 0
Read c bytes (Ok row) = judged c bytes ≡ said (row_seen c row).wanted (row_seen c row).bands
Read c bytes (Err e) = judged c bytes ≡ refused (sheet_refusal e).0 (sheet_refusal e).1
