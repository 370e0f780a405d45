-- Charge: an operator or channel number has a charge of 1 to 1,000, and a weight is the own charge plus the arguments' weights.
use Rattle.std.specs.Prelude.{ℕ, ◌+◌, ◌≤◌, min, Bool, cond, ◌&&◌, List, Some, None, sum, Option, nat_le, nat_lt, slice_index_or, slice_set}
use Rattle.measures.specs.Measures.{beyond, MeasureMeaning}

-- the charge at a number, 1 past the end
abbrev pub charge_at : List ℕ → ℕ → ℕ
charge_at cs i = slice_index_or cs i 1

abbrev pub most_charge : ℕ
most_charge = 1000

-- every charge is 1 to 1,000
abbrev pub Charges : List ℕ → Type 0
Charges cs = (i : ℕ) → (1 ≤ charge_at cs i) × (charge_at cs i ≤ most_charge)

-- whether a number is below n and a charge in range
abbrev pub chargeable : ℕ → ℕ → ℕ → Bool
chargeable n i charge = nat_lt i n && (nat_le 1 charge && nat_le charge most_charge)

-- 22 for what is out of range
abbrev pub charge_refusal : ℕ → ℕ → ℕ → Option (ℕ × ℕ)
charge_refusal n i charge = cond (chargeable n i charge) None (Some (22, 0))

-- n charges, with number i's set where that is in range
abbrev pub recharged : ℕ → List ℕ → ℕ → ℕ → List ℕ
recharged n cs i charge = cond (chargeable n i charge) (slice_set cs i charge) cs

-- the measure of the operators' and the channels' charges
abbrev pub charged : List ℕ → List ℕ → MeasureMeaning
charged operators channels = record {
  channel = λ c. charge_at channels c;
  operator = λ op us. min (charge_at operators op + sum us) beyond;
}
