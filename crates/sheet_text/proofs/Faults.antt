-- A fault by its cause and its place.
use Rattle.std.proofs.Common.{◌≡◌, ap, ◌∙◌}
use Rattle.sheet_text.specs.declared.lexer.Spot.{Spot}
use Rattle.sheet_text.specs.declared.refusal.Cause.{Cause}
use Rattle.sheet_text.specs.declared.refusal.Cause.TheVariants as cause
use Rattle.sheet_text.specs.declared.refusal.Fault.{Fault}
use Rattle.sheet_text.specs.declared.refusal.TextRefusal.{TextRefusal}
use Rattle.sheet_text.specs.Refusals.{text_fault}

pub text_is : (t : TextRefusal) (spot : Spot) (f : Fault) → f.cause ≡ cause.Text t → f.spot ≡ spot → f ≡ text_fault t spot
text_is t spot f e h =
    let by_cause : Cause → Fault = λ c. record { cause = c; spot = f.spot } in
    ap by_cause e ∙ ap (text_fault t) h
