-- The sum of two measures, beyond past 1,000,000.
use Rattle.std.specs.Prelude.{◌+◌, min}
use Rattle.measures.specs.Measures.{beyond, MeasureMeaning}

abbrev pub added : MeasureMeaning → MeasureMeaning → MeasureMeaning
added a b = record {
  channel = λ c. min (a.channel c + b.channel c) beyond;
  operator = λ op us. min (a.operator op us + b.operator op us) beyond;
}
