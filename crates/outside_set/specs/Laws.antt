-- The gate keeps the laws of an operator set.
use Rattle.std.specs.Prelude.{◌≡◌, ℕ, zero, suc, ◌<◌, ◌≤◌, List, refl}
use Rattle.std.proofs.Common.{ap₂, arith}
use Rattle.std.proofs.lemmas.Bool.Decides.{nat_tests}
use Rattle.operators.specs.Bands.{mark, most_arguments, argument, SetLaws}
use Rattle.operators.specs.Names.{Name, NameLaws, blank}
use Rattle.outside_set.specs.Gate.{gate_of, gate_set, gate_names}

gate_most : (a b : ℕ) → b ≤ mark → gate_of a b ≤ mark
gate_most a b h = grind (arith, nat_tests)

gate_first : (a b : ℕ) → a ≡ mark → gate_of a b ≡ mark
gate_first a b e = grind (arith, nat_tests)

gate_second : (a b : ℕ) → b ≡ mark → gate_of a b ≡ mark
gate_second a b e = grind (arith, nat_tests)

narrow : (op : ℕ) → gate_set.arity op ≤ most_arguments
narrow zero = omega arith
narrow (suc op) = omega arith

marked : (op : ℕ) (xs : List ℕ) → gate_set.band op xs ≤ mark
marked zero xs = gate_most (argument xs 0) (argument xs 1) (omega arith)
marked (suc op) xs = omega arith

absent_arity : (op : ℕ) → 1 ≤ op → gate_set.arity op ≡ 0
absent_arity zero h = absurd (omega arith)
absent_arity (suc op) h = refl

absent_band : (op : ℕ) (xs : List ℕ) → 1 ≤ op → gate_set.band op xs ≡ mark
absent_band zero xs h = absurd (omega arith)
absent_band (suc op) xs h = refl

local : (op : ℕ) (xs ys : List ℕ) → ((i : ℕ) → i < gate_set.arity op → argument xs i ≡ argument ys i) → gate_set.band op xs ≡ gate_set.band op ys
local zero xs ys same = ap₂ gate_of (same 0 (omega arith)) (same 1 (omega arith))
local (suc op) xs ys same = refl

strict : (op : ℕ) (xs : List ℕ) (i : ℕ) → i < gate_set.arity op → argument xs i ≡ mark → gate_set.band op xs ≡ mark
strict zero xs zero h e = gate_first (argument xs 0) (argument xs 1) e
strict zero xs (suc zero) h e = gate_second (argument xs 0) (argument xs 1) e
strict zero xs (suc (suc i)) h e = absurd (omega arith)
strict (suc op) xs i h e = refl

pub gate_laws : SetLaws gate_set
gate_laws = record {
  few = omega arith;
  narrow = narrow;
  marked = marked;
  absent_arity = absent_arity;
  absent_band = absent_band;
  local = local;
  strict = strict;
}

offered : (op : ℕ) → op < 1 → Name (gate_names op)
offered zero h = record { wide = refl; some = omega arith; spaced = refl }
offered (suc op) h = absurd (omega arith)

absent : (op : ℕ) → 1 ≤ op → gate_names op ≡ blank
absent zero h = absurd (omega arith)
absent (suc op) h = refl

pub gate_spelt : NameLaws gate_set gate_names
gate_spelt = record { offered = offered; absent = absent }
