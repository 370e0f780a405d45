use Rattle.std.proofs.Common.{◌≡◌, length, map, take, sym, ap, ◌∙◌}
use Rattle.fixed.specs.Listed.{listed}
use Rattle.fixed.proofs.Lengths.{listed-length}
use Rattle.rows.specs.Rows.{wanted_of}
use Rattle.rows.specs.declared.row.Row.{Row}
use Rattle.finder.specs.View.{rows_seen}
use Rattle.finder.proofs.Seen.{wanted_stored}
use Rattle.finder.proofs.sheet.Sheet.wants.Goals as goal

pub returns : goal.returns
returns c =
    let s = c.args.self.now in
    let bands = c.args.column.now.bands in
    let same = c.as_slice-rows.ensures in
    let front : take (length c.as_slice-rows.result.now) bands ≡ take s.rows.count bands = ap (λ n. take n bands) (ap length same ∙ listed-length s.rows) in
    let wanted : map (λ (r : Row). r.wanted) c.as_slice-rows.result.now ≡ wanted_of (rows_seen s) = ap (map (λ (r : Row). r.wanted)) same ∙ sym (wanted_stored s.channels.value (listed s.rows)) in
    (λ e. sym front ∙ sym (c.gives.ensures.0 e) ∙ wanted, λ e. c.gives.ensures.1 (wanted ∙ sym e ∙ sym front))
