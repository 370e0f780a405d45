use Rattle.std.proofs.Common.{◌++◌, length, map, subst}
use Rattle.std.specs.List.{flat_map}
use Rattle.records.specs.Bytes.{two_bytes, step_code, field_of}
use Rattle.lent.specs.Puts.{Behind}
use Rattle.lent.proofs.Chains.{then}
use Rattle.records.proofs.write.put_record.Goals as goal

pub returns : goal.returns
returns c =
    let L = c.args.steps.now in
    let f = c.args.front.now in
    then f c.put.new.self c.put_fields.new.front (two_bytes (length L)) (map step_code L ++ flat_map field_of L)
    (subst (Behind f c.put.new.self) c.two_bytes.ensures c.put.ensures.written)
    (then c.put.new.self c.put_codes.new.front c.put_fields.new.front (map step_code L) (flat_map field_of L) c.put_codes.ensures c.put_fields.ensures)
