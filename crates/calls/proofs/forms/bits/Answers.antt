use Rattle.std.proofs.Common.{refl, arith, rules, tests}
use Rattle.std.proofs.lemmas.Bool.Decides.{nat_tests}
use Rattle.std.proofs.lemmas.Iterator.{YieldsList-from_slice}
use Rattle.calls.proofs.Digits.{bits_is, hex_within, hex_within_next}
use Rattle.calls.proofs.TryFold.{try_fold_is}
use Rattle.calls.proofs.forms.bits.Goals as goal

pub returns : goal.returns
returns c =
    bits_is c.args.word.now c.try_fold.result (grind (arith, nat_tests)) (grind (arith, nat_tests))
    (try_fold_is _ (λ b. b.now) _ hex_within _ (λ n x w q k. (search (rules, tests), λ ys. hex_within_next n x.now w ys (search (rules, tests)))) _ 0 c.try_fold.result (λ n. refl) (YieldsList-from_slice c.args.word.now c.iter.ensures.rest) c.try_fold.ensures.ran)
