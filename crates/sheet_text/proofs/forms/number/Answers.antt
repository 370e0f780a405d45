use Rattle.std.proofs.Common.{refl, arith, rules, tests}
use Rattle.std.proofs.lemmas.Bool.Decides.{nat_tests}
use Rattle.std.proofs.lemmas.Iterator.{YieldsList-from_slice}
use Rattle.sheet_text.proofs.Digits.{number_is, within, within_next}
use Rattle.sheet_text.proofs.TryFold.{try_fold_is}
use Rattle.sheet_text.proofs.forms.number.Goals as goal

pub returns : goal.returns
returns c =
    number_is c.args.most c.args.word.now c.try_fold.result c.requires (grind (arith, nat_tests)) (grind (arith, nat_tests))
    (try_fold_is _ (λ b. b.now) _ within _ (λ n x w q k. (search (rules, tests), λ ys. within_next n x.now w ys (search (rules, tests)))) _ 0 c.try_fold.result (λ n. refl) (YieldsList-from_slice c.args.word.now c.iter.ensures.rest) c.try_fold.ensures.ran)
