use Rattle.std.proofs.Common.{rules, ℕ, ◌+◌, ◌-◌, List, ◌++◌, length, take, refl, ap, ap₂, ◌∙◌, arith}
use Rattle.std.proofs.lemmas.Slice.{take-put_mid, drop-put_mid}
use Rattle.lent.proofs.front.Front.put.Goals as goal

pub returns-clause-written : goal.returns-clause-written
returns-clause-written c =
    let i = c.args.self.now.at in
    let s = c.args.self.now.out.now in
    let n = length c.args.bytes.now in
    let ys = c.copy_from_slice.new.self in
    let same = c.copy_from_slice.ensures.after in
    let sizes = ap length same in
    record {
      put = λ h. record {
        behind = refl;
        front = take-put_mid _ _ s ys _ (omega arith) (omega arith) ∙ ap₂ (λ (j : ℕ) (l : List ℕ). take j s ++ l) (omega arith) same;
        rest = drop-put_mid _ _ s ys _ (omega arith) (omega arith) (omega arith);
      };
      long = search rules;
      same = refl;
    }
