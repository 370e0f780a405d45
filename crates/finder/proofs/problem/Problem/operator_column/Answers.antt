use Rattle.std.proofs.Common.{◌≡◌, [], ◌∷◌, get_or, take, ◌∙◌, ap₂, rules, arith}
use Rattle.std.proofs.lemmas.List.{get_or_default}
use Rattle.finder.proofs.problem.Problem.operator_column.Goals as goal

pub returns : goal.returns
returns g c j l =
    let m = g.S.OperatorSet.meaning c.args.self.now.set in
    let op = c.args.op in
    let e = c.len.ensures.count in
    let few = c.args.self.now.sheet.rows.few in
    let tall = c.args.first.now.tall in
    let tall_2 = c.args.second.now.tall in
    let of = c.of.ensures j (omega arith) in
    let p : get_or c.of.result.bands j 15 ≡ m.band op (take (m.arity op) (get_or c.args.first.now.bands j 0 ∷ get_or c.args.second.now.bands j 0 ∷ [])) = search rules in
    p ∙ ap₂ (λ x y. m.band op (take (m.arity op) (x ∷ y ∷ []))) (get_or_default c.args.first.now.bands j 0 15 (omega arith)) (get_or_default c.args.second.now.bands j 0 15 (omega arith))
