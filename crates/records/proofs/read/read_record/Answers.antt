use Rattle.std.proofs.Common.{◌≡◌, ℕ, true, ◌↔◌, List, is_ok, IfOk, Ok, Err, Result, sym, refl, subst, arith}
use Rattle.refusals.specs.Numbers.{record_refusal, refused_by}
use Rattle.refusals.specs.declared.record.RecordRefusal.{RecordRefusal}
use Rattle.operators.specs.Bands.{SetMeaning, SetLaws}
use Rattle.formulas.specs.Says.{LawfulSteps}
use Rattle.formulas.specs.Steps.{listed}
use Rattle.formulas.specs.Steps.{Steps}
use Rattle.records.specs.Bytes.{steps_of}
use Rattle.records.specs.Record.{Lawful, SaysOneFormula}
use Rattle.records.specs.Reading.{bytes_refusal}
use Rattle.records.proofs.Lawfulness.{read_is_lawful, lawful_is_read, lawful_steps_of, lawful-says-one}
use Rattle.records.proofs.read.read_record.Goals as goal

module _ (m : SetMeaning) (laws : SetLaws m) (channels : ℕ) (bytes : List ℕ) where
  exactly : (r : Result Steps RecordRefusal) → refused_by record_refusal r ≡ bytes_refusal m channels bytes → (is_ok r ≡ true) ↔ Lawful m channels bytes
  exactly (Ok s) e = ((λ _. read_is_lawful m laws channels bytes (sym e)), (λ _. refl))
  exactly (Err x) e = (
    (λ h. let z : ◌≡◌ {A = ℕ} 0 1 = cc in absurd (omega arith)),
    (λ l. let f = lawful_is_read m laws channels bytes l in let z : ◌≡◌ {A = ℕ} 0 1 = cc in absurd (omega arith)),
  )

  checked : (r : Result Steps RecordRefusal) → refused_by record_refusal r ≡ bytes_refusal m channels bytes → IfOk r (λ (s : Steps). listed s ≡ steps_of bytes) → IfOk r (λ (s : Steps). LawfulSteps m channels (listed s))
  checked (Ok s) e same = subst (λ l. LawfulSteps m channels l) (sym same) (lawful_steps_of m laws channels bytes (read_is_lawful m laws channels bytes (sym e)))
  checked (Err x) e same = tt

  one : (r : Result Steps RecordRefusal) → refused_by record_refusal r ≡ bytes_refusal m channels bytes → IfOk r (λ _. SaysOneFormula m channels bytes)
  one (Ok s) e = lawful-says-one m laws channels bytes (read_is_lawful m laws channels bytes (sym e))
  one (Err x) e = tt

pub returns : goal.returns
returns g c =
    let set = c.args.set.now in
    let m = g.S.OperatorSet.meaning set in
    let laws = g.met.S.OperatorSet.lawful set in
    let k = c.args.channels.value in
    let bytes = c.args.bytes.now in
    record {
      refused = c.read_steps.ensures.refused;
      steps = c.read_steps.ensures.steps;
      lawful = exactly m laws k bytes c.read_steps.result c.read_steps.ensures.refused;
      checked = checked m laws k bytes c.read_steps.result c.read_steps.ensures.refused c.read_steps.ensures.steps;
      formula = one m laws k bytes c.read_steps.result c.read_steps.ensures.refused;
    }
