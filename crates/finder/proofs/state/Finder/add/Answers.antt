use Rattle.std.proofs.Common.{ℕ, List, [], map, None, Err, Option, Result, refl, ap, ◌∙◌}
use Rattle.refusals.specs.Numbers.{sheet_refusal, refused_by}
use Rattle.refusals.specs.declared.sheet.SheetRefusal.{SheetRefusal}
use Rattle.search.specs.Machine.{State, Change, is_open}
use Rattle.std.proofs.lemmas.Result.{err_from_is_err_and}
use Rattle.rows.specs.declared.limit.Limit.{Limit}
use Rattle.finder.specs.declared.bank.Place.{Place}
use Rattle.finder.specs.View.{rows_seen, place_seen}
use Rattle.finder.specs.Whole.{finder_seen, finder_setting}
use Rattle.finder.proofs.Calls.{add_done, add-refused, put_last}
use Rattle.finder.proofs.state.Finder.add.Goals as goal

abbrev changed : Option (ℕ × ℕ) → State → Change
changed o st = record { refusal = o; after = st }

pub returns : goal.returns
returns g c =
    let f = c.args.self.now in
    let m = g.S.OperatorSet.meaning f.problem.set in
    let E = finder_setting m (g.M.Measure.meaning f.problem.measure) f in
    let st = finder_seen m f in
    let s = f.problem.sheet in
    let bytes = c.args.bytes.now in
    let t = c.put_last.new.self in
    let p = c.put_last.ensures in
    record {
      kept = record { set = refl; measure = refl; channels = p.rest.0 };
      moves =
          ap (λ (ps : List Place). changed None (record { rows = rows_seen t; limit = t.limit.value; places = map (place_seen m t.rows.count) ps; status = is_open })) c.truncate.ensures
          ∙ ap (λ (n : ℕ). changed None (record { rows = rows_seen t; limit = n; places = []; status = is_open })) (ap (λ (l : Limit). l.value) p.rest.1)
          ∙ add_done E st s refl bytes refl c.in_ok-row.ensures.room c.in_ok-row.row c.in_ok-row.ensures.row (rows_seen t) (put_last s t c.in_ok-row.row p.rows p.rest.0);
    }

pub returns-in_err-row : goal.returns-in_err-row
returns-in_err-row g c =
    let f = c.args.self.now in
    let m = g.S.OperatorSet.meaning f.problem.set in
    let E = finder_setting m (g.M.Measure.meaning f.problem.measure) f in
    let st = finder_seen m f in
    let s = f.problem.sheet in
    let bytes = c.args.bytes.now in
    let p = err_from_is_err_and c.from_residual.result c.from_residual.ensures.1 in
    record {
      kept = record { set = refl; measure = refl; channels = refl };
      moves =
          ap (λ (r : Result (Unit {0}) SheetRefusal). changed (refused_by sheet_refusal r) st) (p.1 ∙ ap Err p.2)
          ∙ add-refused E st s refl bytes refl c.in_err-row.field-0.0 c.in_err-row.ensures.row;
    }
