use Rattle.std.proofs.Common.{Some, None, true, false, sym, arith}
use Rattle.books.proofs.Firsts.{first_is}
use Rattle.books.proofs.book.check.first.Goals as goal

pub returns-then-rule : goal.returns-then-rule
returns-then-rule g c test told =
    first_is test c.args.n (Some c.loop-p.p) (omega arith, c.loop-p-test.true, sym (told c.loop-p.p true c.loop-p-test.true c.if-rule.ensures), λ q l h. sym (told q false (omega arith) (c.loop-p.invariant q h)))

pub returns : goal.returns
returns g c test told =
    first_is test c.args.n None (λ q l h. sym (told q false h (c.loop-p.invariant q (omega arith))))
