use Rattle.std.proofs.Common.{subst}
use Rattle.lent.specs.Puts.{Behind}
use Rattle.lent.proofs.Chains.{then}
use Rattle.formulas.specs.Says.{argument_of}
use Rattle.records.specs.Bytes.{two_bytes}
use Rattle.records.proofs.write.put_field.Goals as goal

pub returns : goal.returns
returns c =
    then c.args.front.now c.put.new.self c.put-2.new.self (two_bytes (argument_of c.args.step 0)) (two_bytes (argument_of c.args.step 1))
    (subst (Behind c.args.front.now c.put.new.self) c.two_bytes.ensures c.put.ensures.written)
    (subst (Behind c.put.new.self c.put-2.new.self) c.two_bytes-2.ensures c.put-2.ensures.written)
