use Rattle.std.proofs.Common.{◌≡◌, ℕ, [], ◌∷◌, map, get_or, sym, ap, ◌∙◌, ap₂}
use Rattle.std.specs.List.{range_with_len}
use Rattle.operators.specs.Bands.{most_arguments}
use Rattle.formulas.specs.Says.{argument_of}
use Rattle.evaluation.proofs.Values.{operator-value, at_map}
use Rattle.evaluation.proofs.worth.step_worth.Goals as goal

pub returns-in-Operator : goal.returns-in-Operator
returns-in-Operator g c =
    let worth = c.args.worth.now in
    let m = g.W.Worth.meaning worth in
    let rule = g.W.Worth.rule worth in
    let number = g.W.Worth.number in
    let d = g.W.Worth.absent in
    let narrow = (g.met.W.Worth.lawful worth).narrow c.in-Operator.op in
    let s = c.args.step in
    let ws = c.args.earlier.now in
    let none = c.absent.result in
    let at : (j : ℕ) → get_or (map number ws) (argument_of s j) d ≡ number (get_or ws (argument_of s j) none) = λ j. ap (get_or (map number ws) (argument_of s j)) (sym c.absent.ensures) ∙ at_map number ws (argument_of s j) none in
    let args : map number c.arguments.result ≡ map (λ j. get_or (map number ws) (argument_of s j) d) (range_with_len 0 most_arguments) = ap (map number) c.arguments.ensures ∙ sym (ap₂ (λ x y. x ∷ y ∷ []) (at 0) (at 1)) in
    c.operator.ensures ∙ operator-value m rule d (map number ws) s c.in-Operator.op (map number c.arguments.result) c.in-Operator.is narrow args
