use Rattle.std.proofs.Common.{ℕ, length, sym, ap, ◌∙◌, subst}
use Rattle.std.proofs.lemmas.List.{length-replicate}
use Rattle.measures.specs.Charge.{Charges}
use Rattle.measures.specs.Weights.{ones}
use Rattle.measures.proofs.charge.Charge.nodes.Goals as goal

pub invariant_of-result : goal.invariant_of-result
invariant_of-result c = record {
  operators_ok = subst Charges (sym c.ones.ensures) (ones 64);
  channels_ok = subst Charges (sym c.ones-2.ensures) (ones 8);
  operators_full = ap length c.ones.ensures ∙ length-replicate {A = ℕ} 64 1;
  channels_full = ap length c.ones-2.ensures ∙ length-replicate {A = ℕ} 8 1;
}
