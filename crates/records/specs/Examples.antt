-- Worked examples of bands, weights and a record.
use Rattle.std.specs.Prelude.{◌≡◌, ℕ, List, [], ◌∷◌, replicate, None}
use Rattle.operators.specs.Builtin.{builtin}
use Rattle.measures.specs.Measures.{MeasureMeaning, beyond}
use Rattle.measures.specs.Charge.{charged}
use Rattle.measures.specs.Depth.{depth}
use Rattle.formulas.specs.Formula.{Formula, channel, operator, nil, cons, weighed}
use Rattle.formulas.specs.declared.steps.Step.{Step}
use Rattle.formulas.specs.declared.steps.Top.TheVariants.{Channel, Operator}
use Rattle.records.specs.Bytes.{record_of}
use Rattle.records.specs.Record.{Says}
use Rattle.records.specs.Reading.{bytes_refusal}

-- every charge is 1
abbrev nodes : MeasureMeaning
nodes = charged (replicate 64 1) (replicate 8 1)

-- sum(P1,P2), and its steps
abbrev sum_of_two : Formula
sum_of_two = operator 3 (cons (channel 0) (cons (channel 1) nil))

abbrev steps_of_sum : List Step
steps_of_sum = record { top = Channel 0; args = 0 ∷ 0 ∷ [] } ∷ record { top = Channel 1; args = 0 ∷ 0 ∷ [] } ∷ record { top = Operator 3; args = 0 ∷ 1 ∷ [] } ∷ []

-- in hexadecimal 00 03, 40 41 03, 00 00 00 00, 00 00 00 00, 00 00 00 01
abbrev record_of_sum : List ℕ
record_of_sum = 0 ∷ 3 ∷ 64 ∷ 65 ∷ 3 ∷ 0 ∷ 0 ∷ 0 ∷ 0 ∷ 0 ∷ 0 ∷ 0 ∷ 0 ∷ 0 ∷ 0 ∷ 0 ∷ 1 ∷ []

-- sum 9 7 is 14; rest 3 5 is 0; quo 7 2 is 3; quo 7 0 is 15; geq 4 4 is 1; next 14 is 14; high 15 3 is 15;
-- sum(P1,P2) weighs 3 in nodes and 2 in depth; charge 1 over weights 999,999 and 1 is beyond;
-- and sum(P1,P2) has its record, which two channels read and which says it
abbrev pub AsWorked : Type 0
AsWorked =
    (builtin.band 3 (9 ∷ 7 ∷ []) ≡ 14) × (builtin.band 4 (3 ∷ 5 ∷ []) ≡ 0) × (builtin.band 8 (7 ∷ 2 ∷ []) ≡ 3)
    × (builtin.band 8 (7 ∷ 0 ∷ []) ≡ 15) × (builtin.band 7 (4 ∷ 4 ∷ []) ≡ 1) × (builtin.band 2 (14 ∷ []) ≡ 14)
    × (builtin.band 5 (15 ∷ 3 ∷ []) ≡ 15)
    × (weighed nodes sum_of_two ≡ 3)
    × (weighed depth sum_of_two ≡ 2)
    × (nodes.operator 3 (999999 ∷ 1 ∷ []) ≡ beyond)
    × (record_of steps_of_sum ≡ record_of_sum)
    × (bytes_refusal builtin 2 record_of_sum ≡ None)
    × Says builtin record_of_sum sum_of_two
