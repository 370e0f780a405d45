use Rattle.std.proofs.Common.{◌≡◌, ℕ, ◌<◌, ◌≤◌, cond, ltb, List, ◌++◌, length, get_or, drop, Some, None, sym, refl, ap, ◌∙◌, subst, arith}
use Rattle.std.proofs.lemmas.Bool.{lt-ltb, le-ltb}
use Rattle.std.proofs.lemmas.Result.{err_from_is_err_and}
use Rattle.operators.specs.Bands.{SetMeaning}
use Rattle.formulas.specs.Steps.{listed}
use Rattle.records.specs.Bytes.{record_of}
use Rattle.records.specs.Record.{Lawful}
use Rattle.records.specs.Reading.{or_else, bytes_refusal}
use Rattle.records.specs.Rewriting.{bytes_and_room}
use Rattle.records.proofs.Roundtrip.{writes_back}
use Rattle.records.proofs.rewrite.rewrite.Goals as goal

module _ (m : SetMeaning) (channels : ℕ) (bytes s : List ℕ) (read : None ≡ bytes_refusal m channels bytes) where
  no_room : length s < length bytes → bytes_and_room m channels bytes s ≡ Some (9, 0)
  no_room h = ap (λ o. or_else o (cond (ltb (length s) (length bytes)) (Some (9, 0)) None)) (sym read) ∙ ap (λ b. cond b (Some (9, 0)) None) (lt-ltb (length s) (length bytes) h)

  room : length bytes ≤ length s → bytes_and_room m channels bytes s ≡ None
  room h = ap (λ o. or_else o (cond (ltb (length s) (length bytes)) (Some (9, 0)) None)) (sym read) ∙ ap (λ b. cond b (Some (9, 0)) None) (le-ltb (length s) (length bytes) h)

pub returns-in_err-size : goal.returns-in_err-size
returns-in_err-size g c =
    let m = g.S.OperatorSet.meaning c.args.set.now in
    let bytes = c.args.bytes.now in
    let s = c.args.buffer.now in
    let small : (i : ℕ) → get_or bytes i 0 < 256 = λ i. (c.type_inv.bytes i).fits in
    let l : Lawful m c.args.channels.value bytes = c.in_ok-steps.ensures.lawful.0 refl in
    let same : record_of (listed c.in_ok-steps.steps) ≡ bytes = ap record_of c.in_ok-steps.ensures.steps ∙ writes_back bytes small l.long in
    let w = c.in_err-size.ensures.written in
    let less : length s < length bytes = subst (λ r. length s < length r) same w.2 in
    let p = err_from_is_err_and c.from_residual-in_err-size.result c.from_residual-in_err-size.ensures.1 in
    rw (p.1, p.2) record {
      refused = ap Some w.0 ∙ sym (no_room m c.args.channels.value bytes s c.in_ok-steps.ensures.refused less);
      lawful = ((λ e. let z : ◌≡◌ {A = ℕ} 0 1 = cc in absurd (omega arith)), (λ p. absurd (omega (arith, p.1))));
      written = w.1;
    }

pub returns : goal.returns
returns g c =
    let m = g.S.OperatorSet.meaning c.args.set.now in
    let bytes = c.args.bytes.now in
    let s = c.args.buffer.now in
    let small : (i : ℕ) → get_or bytes i 0 < 256 = λ i. (c.type_inv.bytes i).fits in
    let l : Lawful m c.args.channels.value bytes = c.in_ok-steps.ensures.lawful.0 refl in
    let same : record_of (listed c.in_ok-steps.steps) ≡ bytes = ap record_of c.in_ok-steps.ensures.steps ∙ writes_back bytes small l.long in
    let w = c.in_ok-size.ensures.written in
    let fits : length bytes ≤ length s = subst (λ r. length r ≤ length s) same w.2 in
    record {
      refused = sym (room m c.args.channels.value bytes s c.in_ok-steps.ensures.refused fits);
      lawful = ((λ e. (l, fits)), (λ p. refl));
      written = (w.0 ∙ ap length same, w.1 ∙ ap (λ r. r ++ drop c.in_ok-size.size s) same);
    }
