use Rattle.formulas.specs.Formula.{weighed, all_weighed}
use Rattle.evaluation.proofs.Values.{weights_go}
use Rattle.evaluation.proofs.weight.weight_of.Goals as goal

pub returns : goal.returns
returns g c f says =
    let v = g.M.Measure.meaning c.args.measure.now in
    c.worth_of.ensures (weighed v) (all_weighed v) (weights_go v) f says
