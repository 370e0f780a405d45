use Rattle.std.proofs.Common.{◌≡◌, ℕ, [], ◌∷◌, subst, arith, rules}
use Rattle.std.proofs.lemmas.Grind.{common_steps}
use Rattle.std.proofs.lemmas.Option.{gets}
use Rattle.printing.specs.Formulas.{at}
use Rattle.lent.specs.Puts.{Behind}
use Rattle.lent.proofs.Chains.{then}
use Rattle.printing.proofs.Standing.{pair_of, within, falls_first, falls_second, as_leaf, as_one, as_two}
use Rattle.printing.proofs.writing.+put_formula.Goals as goal
use Rattle.printing.proofs.writing.+put_formula.Goals.{In-Some}

-- the piece that was got is the step
is : (t : ℕ) (c : In-Some t) → c.in-Some.piece.now ≡ at c.args.pieces.now c.args.step
is t c = grind (arith, common_steps, gets)

pub returns-in_default : goal.returns-in_default
returns-in_default t c f d = absurd (omega (arith, within c.args.pieces.now c.args.step f d, c.in_default.ensures.lookup))

pub returns-then-piece-eq0 : goal.returns-then-piece-eq0
returns-then-piece-eq0 t c f d =
    let w = (goal.at.returns-then-piece-eq0 t c).In-Some in
    subst (Behind c.args.front.now c.put.new.self) (as_leaf c.args.pieces.now c.args.step c.in-Some.piece.now (is t w) f d c.if-piece-eq0.true) c.put.ensures.written

pub returns-then-first-step : goal.returns-then-first-step
returns-then-first-step t c f d =
    let w = (goal.at.returns-then-first-step t c).In-Some in
    absurd (omega (arith, falls_first c.args.pieces.now c.args.step c.in-Some.piece.now (is t w) _ _ (pair_of c.in-Some.piece.now.args (search rules)) f d c.if-piece-eq0.false))

pub returns-then-piece-eq1 : goal.returns-then-piece-eq1
returns-then-piece-eq1 t c f d =
    let w = (goal.at.returns-then-piece-eq1 t c).In-Some in
    let a = as_one c.args.pieces.now c.args.step c.in-Some.piece.now (is t w) _ _ (pair_of c.in-Some.piece.now.args (search rules)) f d c.if-piece-eq1.true in
    subst (Behind c.args.front.now c.put-then-piece-eq1.new.self) a.2
    (then _ _ _ _ _ c.put.ensures.written
    (then _ _ _ (40 ∷ []) _ c.put-2.ensures.written
    (then _ _ _ _ _ (c.put_formula.ensures a.0 a.1) c.put-then-piece-eq1.ensures.written)))

pub returns-then-second-step : goal.returns-then-second-step
returns-then-second-step t c f d =
    let w = (goal.at.returns-then-second-step t c).In-Some in
    absurd (omega (arith, falls_second c.args.pieces.now c.args.step c.in-Some.piece.now (is t w) _ _ (pair_of c.in-Some.piece.now.args (search rules)) f d c.if-piece-eq0.false c.if-piece-eq1.false))

pub returns : goal.returns
returns t c f d =
    let w = (goal.at.returns t c).In-Some in
    let a = as_two c.args.pieces.now c.args.step c.in-Some.piece.now (is t w) _ _ (pair_of c.in-Some.piece.now.args (search rules)) f d c.if-piece-eq0.false c.if-piece-eq1.false in
    subst (Behind c.args.front.now c.put-4.new.self) a.4
    (then _ _ _ _ _ c.put.ensures.written
    (then _ _ _ (40 ∷ []) _ c.put-2.ensures.written
    (then _ _ _ _ _ (c.put_formula.ensures a.0 a.2)
    (then _ _ _ (44 ∷ []) _ c.put-3.ensures.written
    (then _ _ _ _ _ (c.put_formula-2.ensures a.1 a.3) c.put-4.ensures.written)))))
