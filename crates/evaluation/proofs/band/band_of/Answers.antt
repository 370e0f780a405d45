use Rattle.formulas.specs.Formula.{band, bands}
use Rattle.evaluation.proofs.Values.{bands-go}
use Rattle.evaluation.proofs.band.band_of.Goals as goal

pub returns : goal.returns
returns g c f says =
    let m = g.S.OperatorSet.meaning c.args.set.now in
    let reading = c.args.reading.now in
    c.worth_of.ensures (band m reading) (bands m reading) (bands-go m reading) f says
