use Rattle.std.proofs.Common.{rules, ◌≡◌, ◌+◌, min, max, [], ◌∷◌}
use Rattle.std.proofs.lemmas.List.{map-append}
use Rattle.std.proofs.lemmas.List.Sums.{fold_push}
use Rattle.std.proofs.lemmas.Fn.{fold_over, fronts}
use Rattle.std.proofs.lemmas.Iterator.{YieldsList-from_slice}
use denote.Ref.{Bor}
use Rattle.measures.specs.declared.weight.Weight.{Weight}
use Rattle.measures.specs.Depth.{heaviest}
use Rattle.measures.specs.Values.{values}
use Rattle.measures.proofs.depth.DepthMeasure.operator.Goals as goal

pub returns : goal.returns
returns c =
    fold_over fronts (λ (x : Bor Weight). x.now) _ (λ ws (r : Weight). r.value ≡ min (1 + heaviest (values ws)) 1000001) _ (λ ys a x b f' j k. rw (map-append (λ (w : Weight). w.value) ys (x.now ∷ []), fold_push max 0 (values ys) x.now.value) (search rules))
    c.iter.result c.args.args.now _ c.fold.result (YieldsList-from_slice c.args.args.now c.iter.ensures.rest).runs (search rules) c.fold.ensures.ran
