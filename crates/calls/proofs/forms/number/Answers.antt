use Rattle.std.proofs.Common.{refl, arith, rules, tests}
use Rattle.std.proofs.lemmas.Bool.Decides.{nat_tests}
use Rattle.std.proofs.lemmas.Iterator.{YieldsList-from_slice}
use Rattle.calls.specs.Forms.{decimal_after}
use Rattle.calls.proofs.Digits.{number_is, decimal_after_next}
use Rattle.calls.proofs.TryFold.{try_fold_is}
use Rattle.calls.proofs.forms.number.Goals as goal

pub returns : goal.returns
returns c =
    number_is c.args.word.now c.try_fold.result (grind (arith, nat_tests))
    (try_fold_is _ (λ b. b.now) _ decimal_after _ (λ n x w q k. (search (rules, tests), λ ys. decimal_after_next n x.now w ys (search (rules, tests)))) _ 0 c.try_fold.result (λ n. refl) (YieldsList-from_slice c.args.word.now c.iter.ensures.rest) c.try_fold.ensures.ran)
