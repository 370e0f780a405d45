use Rattle.std.proofs.Common.{rules, List, length, refl, ap, subst, arith}
use Rattle.formulas.specs.Steps.{listed}
use Rattle.formulas.specs.declared.steps.Step.{Step}
use Rattle.records.specs.Bytes.{record_of}
use Rattle.lent.specs.Puts.{Put, Puts}
use Rattle.lent.proofs.Chains.{whole}
use Rattle.records.proofs.Roundtrip.{record_length, reads_back}
use Rattle.records.proofs.write.write_record.Goals as goal

pub returns-then-buffer-record_size : goal.returns-then-buffer-record_size
returns-then-buffer-record_size c =
    let n = ap length c.as_slice-list.ensures in
    let e = record_length (listed c.args.steps.now) in
    record { written = (refl, refl, omega arith); back = tt }

pub returns : goal.returns
returns c =
    let s = c.args.buffer.now in
    let L = listed c.args.steps.now in
    let e = record_length L in
    let n = ap length c.as_slice-list.ensures in
    let done : Puts s c.put_record.new.front.out.now 0 c.put_record.new.front.at (record_of L) = subst (λ (l : List Step). Puts s c.put_record.new.front.out.now 0 c.put_record.new.front.at (record_of l)) c.as_slice-list.ensures c.put_record.ensures.put in
    let put : Put s c.put_record.new.front.out.now 0 c.put_record.new.front.at (record_of L) = done (omega arith) in
    let r = put.behind in
    let w = whole s c.put_record.new.front.out.now c.put_record.new.front.at (record_of L) put in
    let back = reads_back L in
    search rules
