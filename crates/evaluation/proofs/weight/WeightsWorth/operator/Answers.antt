use Rattle.std.proofs.Common.{map, take, sym, ap, ◌∙◌}
use Rattle.std.proofs.lemmas.List.{take-map}
use Rattle.measures.specs.declared.weight.Weight.{Weight as StoredWeight}
use Rattle.evaluation.proofs.weight.WeightsWorth.operator.Goals as goal

pub returns : goal.returns
returns g c =
    let weights = c.args.args.now in
    let number = λ (w : StoredWeight). w.value in
    c.operator.ensures ∙ ap ((g.M.Measure.meaning c.args.self.now.measure.now).operator c.args.op) (sym (take-map number c.arity-n.result weights) ∙ ap (λ n. take n (map number weights)) c.arity-n.ensures)
