use Rattle.std.proofs.Common.{◌≡◌, ℕ, List, map, sym, ap, ◌∙◌, get_or, take, arith, rules}
use Rattle.std.specs.List.{take-map}
use Rattle.std.proofs.lemmas.Simd.{map-map}
use Rattle.operators.specs.Bands.{mark}
use Rattle.rows.specs.Rows.{StandingRow}
use Rattle.rows.specs.Read.{row_seen}
use Rattle.rows.specs.declared.row.Row.{Row}
use Rattle.formulas.specs.Formula.{band, column}
use Rattle.evaluation.specs.Columns.{over, in_table, table_size}
use Rattle.evaluation.proofs.Columns.{padded_front, each_of}
use Rattle.evaluation.proofs.column.column_of.Goals as goal

pub returns : goal.returns
returns g c v f says =
    let m = g.S.OperatorSet.meaning c.args.set.now in
    let n = c.args.channels.value in
    let rows : List Row = c.args.rows.now in
    let items = c.from_fn.ensures.items in
    let bands : List ℕ = map (λ (r : Row). band m (row_seen n r).bands f) rows in
    let each = each_of (λ i b. b ≡ get_or bands i mark) _ (λ i b q k. search rules) c.from_fn.result table_size 0 items.each in
    padded_front table_size c.from_fn.result bands items.long (λ i l. each i (omega arith) (omega arith)) ∙ ap in_table (take-map _ table_size rows ∙ sym (ap (λ rs. column (over m n v) rs f) (take-map (row_seen n) table_size rows) ∙ map-map (λ (r : StandingRow). band m r.bands f) (row_seen n) (take table_size rows)))
