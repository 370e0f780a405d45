use Rattle.std.proofs.Common.{◌≡◌, ℕ, List, take, refl, sym, ap, ◌∙◌, ap₂, arith}
use Rattle.search.specs.Places as places
use Rattle.search.specs.Stored.{built}
use Rattle.search.specs.Marks.{steps_at}
use Rattle.search.specs.Machine.{Answer, Move, State, found, none, full, level, by_room, is_found, is_none, is_full, is_open}
use Rattle.search.proofs.Rules.{built_keeps, rule_above, rule_found, rule_limit, rule_room}
use Rattle.finder.specs.View.{bank_seen, held_seen, rows_seen, candidate_seen, setting}
use Rattle.finder.specs.Whole.{whole}
use Rattle.finder.specs.declared.state.State.TheVariants.{Open}
use Rattle.finder.proofs.Seen.{seen_length}
use Rattle.finder.proofs.Weighed.{numbered, unnumbered}
use Rattle.finder.proofs.problem.Problem.next_level.Given as given
use Rattle.finder.proofs.problem.Problem.next_level.Goals as goal
use Rattle.finder.proofs.problem.Problem.next_level.Goals.{After-build-found}

pub returns-in_default : goal.returns-in_default
returns-in_default g c =
    let f = c.args.self.now in
    let b = c.args.bank.now in
    let m = g.S.OperatorSet.meaning f.set in
    let E = setting m (g.M.Measure.meaning f.measure) f.sheet in
    let limit = f.sheet.limit.within in
    let past = unnumbered _ c.level.result.value refl (sym c.in_default.is ∙ c.number.ensures) in
    rule_above E (whole m f.sheet b Open) c.level.result.value c.level.ensures (omega (arith, past, limit))

pub returns-then-weight-limit : goal.returns-then-weight-limit
returns-then-weight-limit g c =
    let f = c.args.self.now in
    let b = c.args.bank.now in
    let m = g.S.OperatorSet.meaning f.set in
    let n = f.sheet.rows.count in
    let E = setting m (g.M.Measure.meaning f.measure) f.sheet in
    let st = whole m f.sheet b Open in
    let w = c.in-Some.weight in
    rule_above E st w (numbered _ _ w (sym c.in-Some.is ∙ c.number.ensures) ∙ c.level.ensures) (omega (arith, c.get-limit.ensures))

abbrev move_to : Answer → State → Move
move_to a s = record { answer = a; after = s }

-- what was filled is what stands of it
kept-places : (g : given.Over) (c : After-build-found g) → (let f = c.args.self.now in let b = c.args.bank.now in let m = g.S.OperatorSet.meaning f.set in let n = f.sheet.rows.count in take c.len-filled.result (bank_seen m n c.build-found.new.bank) ≡ bank_seen m n b)
kept-places g c =
    let f = c.args.self.now in
    let b = c.args.bank.now in
    let m = g.S.OperatorSet.meaning f.set in
    let n = f.sheet.rows.count in
    let E = setting m (g.M.Measure.meaning f.measure) f.sheet in
    let st = whole m f.sheet b Open in
    let w = c.in-Some.weight in
    ap (λ r. take c.len-filled.result r.1.places) c.build-found.ensures
    ∙ ap (λ k. take k (built E (rows_seen f.sheet) w (bank_seen m n b)).1.places) (c.len-filled.ensures.count ∙ sym (seen_length m n b))
    ∙ built_keeps E (rows_seen f.sheet) w (bank_seen m n b)

pub returns-in-Some-found : goal.returns-in-Some-found
returns-in-Some-found g c =
    let f = c.args.self.now in
    let b = c.args.bank.now in
    let m = g.S.OperatorSet.meaning f.set in
    let n = f.sheet.rows.count in
    let E = setting m (g.M.Measure.meaning f.measure) f.sheet in
    let st = whole m f.sheet b Open in
    let w = c.in-Some.weight in
    let t = candidate_seen m c.in-Some-found.candidate in
    let q : bank_seen m n c.cut.new.self ≡ bank_seen m n b = c.cut.ensures m n ∙ kept-places g (goal.at.returns-in-Some-found g c).After-build-found in
    ap₂ (λ (ps : List places.Place) (p : ℕ × ℕ). move_to (found p.0 p.1) (record { rows = st.rows; limit = st.limit; places = ps; status = is_found t p.0 p.1 })) q (c.counted.ensures ∙ ap (λ p. (w, steps_at p t)) q)
    ∙ rule_found E st w (numbered _ _ w (sym c.in-Some.is ∙ c.number.ensures) ∙ c.level.ensures) (omega (arith, c.get-limit.ensures)) (held_seen m n c.build-found.new.bank) t c.in-Some-found.ensures

pub returns-then-weight-limit-2 : goal.returns-then-weight-limit-2
returns-then-weight-limit-2 g c =
    let f = c.args.self.now in
    let b = c.args.bank.now in
    let m = g.S.OperatorSet.meaning f.set in
    let n = f.sheet.rows.count in
    let E = setting m (g.M.Measure.meaning f.measure) f.sheet in
    let st = whole m f.sheet b Open in
    let w = c.in-Some.weight in
    ap (λ (ps : List places.Place). move_to none (record { rows = st.rows; limit = st.limit; places = ps; status = is_none })) (c.cut-then-weight-limit-2.ensures m n ∙ kept-places g (goal.at.returns-then-weight-limit-2 g c).After-build-found)
    ∙ rule_limit E st w (numbered _ _ w (sym c.in-Some.is ∙ c.number.ensures) ∙ c.level.ensures) (omega (arith, c.get-limit.ensures)) (held_seen m n c.build-found.new.bank) c.in_default-found.ensures (c.if-weight-limit-2.true ∙ c.get-limit.ensures)

pub returns-then-bank : goal.returns-then-bank
returns-then-bank g c =
    let f = c.args.self.now in
    let b = c.args.bank.now in
    let m = g.S.OperatorSet.meaning f.set in
    let n = f.sheet.rows.count in
    let E = setting m (g.M.Measure.meaning f.measure) f.sheet in
    let st = whole m f.sheet b Open in
    let w = c.in-Some.weight in
    ap (λ (ps : List places.Place). move_to full (record { rows = st.rows; limit = st.limit; places = ps; status = is_full })) (c.cut-then-bank.ensures m n ∙ kept-places g (goal.at.returns-then-bank g c).After-build-found)
    ∙ ap (by_room st w (bank_seen m n c.build-found.new.bank)) (sym c.if-bank.true)
    ∙ rule_room E st w (numbered _ _ w (sym c.in-Some.is ∙ c.number.ensures) ∙ c.level.ensures) (omega (arith, c.get-limit.ensures)) (held_seen m n c.build-found.new.bank) c.in_default-found.ensures (λ e. c.if-weight-limit-2.false (e ∙ sym c.get-limit.ensures))

pub returns : goal.returns
returns g c =
    let f = c.args.self.now in
    let b = c.args.bank.now in
    let m = g.S.OperatorSet.meaning f.set in
    let n = f.sheet.rows.count in
    let E = setting m (g.M.Measure.meaning f.measure) f.sheet in
    let st = whole m f.sheet b Open in
    let w = c.in-Some.weight in
    ap (λ (k : ℕ). move_to (level w k) (record { rows = st.rows; limit = st.limit; places = bank_seen m n c.build-found.new.bank; status = is_open })) (c.len.ensures.count ∙ sym (seen_length m n c.build-found.new.bank))
    ∙ ap (by_room st w (bank_seen m n c.build-found.new.bank)) (sym c.if-bank.false)
    ∙ rule_room E st w (numbered _ _ w (sym c.in-Some.is ∙ c.number.ensures) ∙ c.level.ensures) (omega (arith, c.get-limit.ensures)) (held_seen m n c.build-found.new.bank) c.in_default-found.ensures (λ e. c.if-weight-limit-2.false (e ∙ sym c.get-limit.ensures))
