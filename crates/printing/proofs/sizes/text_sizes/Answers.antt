use Rattle.std.proofs.Common.{◌≡◌, ◌+◌, ◌<◌, [], ◌∷◌, ◌++◌, length, get_or, Some, sym, ap, ◌∙◌, subst, arith, length-append}
use Rattle.std.specs.List.{slice_get}
use Rattle.std.proofs.lemmas.Option.{slice_get-get_or}
use Rattle.fixed.specs.Listed.{listed}
use Rattle.fixed.proofs.Lengths.{listed-length, pushed}
use Rattle.printing.specs.Formulas.{blank, Sized, Sizes}
use Rattle.printing.proofs.Sizing.{sizes_more}
use Rattle.printing.proofs.sizes.text_sizes.Goals as goal

pub loop-piece-preserved : goal.loop-piece-preserved
loop-piece-preserved c =
    let ps = c.args.pieces.now in
    let old = c.loop-piece.sizes in
    let xs = listed c.loop-piece.sizes in
    let r = c.step_size-size.result in
    let l = listed-length c.loop-piece.sizes in
    let t = c.loop-piece-test.true in
    let n = c.loop-piece.invariant.0 in
    let same = c.as_slice.ensures in
    let now : listed c.push.new.self ≡ xs ++ r ∷ [] = pushed c.loop-piece.sizes c.push.new.self r _ c.push.ensures.room c.push.ensures.values (omega (arith, c.requires)) in
    let long : length (listed c.push.new.self) ≡ length xs + 1 = ap length now ∙ length-append xs (r ∷ []) in
    let inside : length xs < length ps = omega arith in
    let at : slice_get ps (length c.as_slice.result.now) ≡ Some (get_or ps c.loop-piece.piece-index blank) = ap (slice_get ps) (ap length same ∙ n) ∙ slice_get-get_or ps c.loop-piece.piece-index blank (omega arith) in
    let before : Sizes ps (length c.as_slice.result.now) c.as_slice.result.now = subst (λ ys. Sizes ps (length ys) ys) (sym same) c.loop-piece.invariant.1 in
    let here : Sized ps (length xs) r = subst (λ ys. Sized ps (length ys) r) same (c.step_size-size.ensures ps at before) in
    (omega arith, subst (λ ys. Sizes ps (length ys) ys) (sym now) (sizes_more ps xs r c.loop-piece.invariant.1 here))
