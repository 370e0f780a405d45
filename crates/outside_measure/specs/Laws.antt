-- The sum of two measures keeps the laws.
use Rattle.std.proofs.Common.{arith}
use Rattle.measures.specs.Measures.{MeasureMeaning, MeasureLaws}
use Rattle.outside_measure.specs.Added.{added}

pub added_laws : (a b : MeasureMeaning) → MeasureLaws a → MeasureLaws b → MeasureLaws (added a b)
added_laws a b p q = record {
  channel = λ c h. let x = p.channel c h in let y = q.channel c h in (omega arith, omega arith);
  operator = λ op us h k. let x = p.operator op us h k in let y = q.operator op us h k in (omega arith, omega arith);
  monotone = λ op us vs h k l n. let x = p.monotone op us vs h k l n in let y = q.monotone op us vs h k l n in omega arith;
  strict = λ op us u h k i l. let x = p.strict op us u h k i l in omega arith;
  carried = λ op us h k i. let x = p.carried op us h k i in omega arith;
}
