use Rattle.std.proofs.Common.{◌≡◌, ◌+◌, [], ◌∷◌, ◌++◌, length, sym, ap, ◌∙◌, subst, arith, length-append}
use Rattle.fixed.specs.Listed.{listed}
use Rattle.fixed.proofs.Lengths.{listed-length, pushed}
use Rattle.books.specs.Held.{offers}
use Rattle.books.specs.Stored.{Reads}
use Rattle.books.proofs.Sound.{sound, reads_more}
use Rattle.books.proofs.book.Book.fill.Goals as goal

pub loop-op-preserved : goal.loop-op-preserved
loop-op-preserved c =
    let s = sound c.args.bytes.now (sym c.in_ok-check.ensures) in
    let old = c.loop-op.entries in
    let n = listed-length c.loop-op.entries in
    let now : listed c.push.new.self ≡ listed c.loop-op.entries ++ c.read.result ∷ [] = pushed c.loop-op.entries c.push.new.self c.read.result _ c.push.ensures.room c.push.ensures.values (omega (arith, s.few, c.loop-op-test.true)) in
    let long : length (listed c.push.new.self) ≡ length (listed c.loop-op.entries) + 1 = ap length now ∙ length-append (listed c.loop-op.entries) (c.read.result ∷ []) in
    let here : Reads c.args.bytes.now (length (listed c.loop-op.entries)) c.read.result = subst (λ k. Reads c.args.bytes.now k c.read.result) (sym c.loop-op.invariant.0) c.read.ensures in (
      omega (arith, long),
      rw now (λ k d h. reads_more c.args.bytes.now (listed c.loop-op.entries) c.read.result c.loop-op.invariant.1 here k d (omega (arith, long, ap length now))),
    )

pub returns : goal.returns
returns c = record {
  answer = c.in_ok-check.ensures;
  outcome = let e = c.loop-op.invariant.0 in offers c.args.bytes.now _ (omega arith) (λ k d h. c.loop-op.invariant.1 k d (omega arith));
}
