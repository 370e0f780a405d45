-- The laws of the built-in set.
use Rattle.std.specs.Prelude.{◌≡◌, ℕ, zero, suc, ◌+◌, ◌-◌, ◌/◌, ◌<◌, ◌≤◌, min, max, cond, List, ◌==◌, nat_le, refl}
use Rattle.std.proofs.Common.{ap, ap₂, arith, div-le_self}
use Rattle.std.proofs.lemmas.Bool.Decides.{nat_tests}
use Rattle.operators.specs.Bands.{argument, SetLaws}
use Rattle.operators.specs.Names.{Name, NameLaws, blank}
use Rattle.operators.specs.Builtin.{given, both, next_of, sum_of, rest_of, high_of, low_of, geq_of, quo_of, builtin, builtin_names}

given_most : (a v : ℕ) → v ≤ 15 → given a v ≤ 15
given_most a v h = grind (arith, nat_tests)

both_most : (a b v : ℕ) → v ≤ 15 → both a b v ≤ 15
both_most a b v h = given_most a (given b v) (given_most b v h)

quo_most : (a b : ℕ) → a ≤ 15 → cond (b == 0) 15 (a / b) ≤ 15
quo_most a b h = let q = div-le_self a b in grind (arith, nat_tests)

geq_most : (a b : ℕ) → cond (nat_le b a) 1 0 ≤ 15
geq_most a b = grind (arith, nat_tests)

-- with an argument of 15, whatever stands behind
given_mark : (a v : ℕ) → a ≡ 15 → given a v ≡ 15
given_mark a v e = grind (arith, nat_tests)

both_mark : (xs : List ℕ) (v i : ℕ) → i < 2 → argument xs i ≡ 15 → both (argument xs 0) (argument xs 1) v ≡ 15
both_mark xs v zero h e = given_mark (argument xs 0) (given (argument xs 1) v) e
both_mark xs v (suc zero) h e = let g = given_mark (argument xs 1) v e in grind (arith, nat_tests)
both_mark xs v (suc (suc i)) h e = absurd (omega arith)

next_mark : (xs : List ℕ) (v i : ℕ) → i < 1 → argument xs i ≡ 15 → given (argument xs 0) v ≡ 15
next_mark xs v zero h e = given_mark (argument xs 0) v e
next_mark xs v (suc i) h e = absurd (omega arith)

narrow : (op : ℕ) → builtin.arity op ≤ 2
narrow zero = omega arith
narrow (suc zero) = omega arith
narrow (suc (suc zero)) = omega arith
narrow (suc (suc (suc zero))) = omega arith
narrow (suc (suc (suc (suc zero)))) = omega arith
narrow (suc (suc (suc (suc (suc zero))))) = omega arith
narrow (suc (suc (suc (suc (suc (suc zero)))))) = omega arith
narrow (suc (suc (suc (suc (suc (suc (suc zero))))))) = omega arith
narrow (suc (suc (suc (suc (suc (suc (suc (suc zero)))))))) = omega arith
narrow (suc (suc (suc (suc (suc (suc (suc (suc (suc op))))))))) = omega arith

marked : (op : ℕ) (xs : List ℕ) → builtin.band op xs ≤ 15
marked zero xs = omega arith
marked (suc zero) xs = omega arith
marked (suc (suc zero)) xs = given_most (argument xs 0) (min (argument xs 0 + 1) 14) (omega arith)
marked (suc (suc (suc zero))) xs = both_most (argument xs 0) (argument xs 1) (min (argument xs 0 + argument xs 1) 14) (omega arith)
marked (suc (suc (suc (suc zero)))) xs = both_most (argument xs 0) (argument xs 1) (argument xs 0 - argument xs 1) (omega arith)
marked (suc (suc (suc (suc (suc zero))))) xs = both_most (argument xs 0) (argument xs 1) (max (argument xs 0) (argument xs 1)) (omega arith)
marked (suc (suc (suc (suc (suc (suc zero)))))) xs = both_most (argument xs 0) (argument xs 1) (min (argument xs 0) (argument xs 1)) (omega arith)
marked (suc (suc (suc (suc (suc (suc (suc zero))))))) xs = both_most (argument xs 0) (argument xs 1) (cond (nat_le (argument xs 1) (argument xs 0)) 1 0) (geq_most (argument xs 0) (argument xs 1))
marked (suc (suc (suc (suc (suc (suc (suc (suc zero)))))))) xs = both_most (argument xs 0) (argument xs 1) (cond (argument xs 1 == 0) 15 (argument xs 0 / argument xs 1)) (quo_most (argument xs 0) (argument xs 1) (omega arith))
marked (suc (suc (suc (suc (suc (suc (suc (suc (suc op))))))))) xs = omega arith

absent_arity : (op : ℕ) → 9 ≤ op → builtin.arity op ≡ 0
absent_arity zero h = absurd (omega arith)
absent_arity (suc zero) h = absurd (omega arith)
absent_arity (suc (suc zero)) h = absurd (omega arith)
absent_arity (suc (suc (suc zero))) h = absurd (omega arith)
absent_arity (suc (suc (suc (suc zero)))) h = absurd (omega arith)
absent_arity (suc (suc (suc (suc (suc zero))))) h = absurd (omega arith)
absent_arity (suc (suc (suc (suc (suc (suc zero)))))) h = absurd (omega arith)
absent_arity (suc (suc (suc (suc (suc (suc (suc zero))))))) h = absurd (omega arith)
absent_arity (suc (suc (suc (suc (suc (suc (suc (suc zero)))))))) h = absurd (omega arith)
absent_arity (suc (suc (suc (suc (suc (suc (suc (suc (suc op))))))))) h = refl

absent_band : (op : ℕ) (xs : List ℕ) → 9 ≤ op → builtin.band op xs ≡ 15
absent_band zero xs h = absurd (omega arith)
absent_band (suc zero) xs h = absurd (omega arith)
absent_band (suc (suc zero)) xs h = absurd (omega arith)
absent_band (suc (suc (suc zero))) xs h = absurd (omega arith)
absent_band (suc (suc (suc (suc zero)))) xs h = absurd (omega arith)
absent_band (suc (suc (suc (suc (suc zero))))) xs h = absurd (omega arith)
absent_band (suc (suc (suc (suc (suc (suc zero)))))) xs h = absurd (omega arith)
absent_band (suc (suc (suc (suc (suc (suc (suc zero))))))) xs h = absurd (omega arith)
absent_band (suc (suc (suc (suc (suc (suc (suc (suc zero)))))))) xs h = absurd (omega arith)
absent_band (suc (suc (suc (suc (suc (suc (suc (suc (suc op))))))))) xs h = refl

local : (op : ℕ) (xs ys : List ℕ) → ((i : ℕ) → i < builtin.arity op → argument xs i ≡ argument ys i) → builtin.band op xs ≡ builtin.band op ys
local zero xs ys same = refl
local (suc zero) xs ys same = refl
local (suc (suc zero)) xs ys same = ap next_of (same 0 (omega arith))
local (suc (suc (suc zero))) xs ys same = ap₂ sum_of (same 0 (omega arith)) (same 1 (omega arith))
local (suc (suc (suc (suc zero)))) xs ys same = ap₂ rest_of (same 0 (omega arith)) (same 1 (omega arith))
local (suc (suc (suc (suc (suc zero))))) xs ys same = ap₂ high_of (same 0 (omega arith)) (same 1 (omega arith))
local (suc (suc (suc (suc (suc (suc zero)))))) xs ys same = ap₂ low_of (same 0 (omega arith)) (same 1 (omega arith))
local (suc (suc (suc (suc (suc (suc (suc zero))))))) xs ys same = ap₂ geq_of (same 0 (omega arith)) (same 1 (omega arith))
local (suc (suc (suc (suc (suc (suc (suc (suc zero)))))))) xs ys same = ap₂ quo_of (same 0 (omega arith)) (same 1 (omega arith))
local (suc (suc (suc (suc (suc (suc (suc (suc (suc op))))))))) xs ys same = refl

strict : (op : ℕ) (xs : List ℕ) (i : ℕ) → i < builtin.arity op → argument xs i ≡ 15 → builtin.band op xs ≡ 15
strict zero xs i h e = absurd (omega arith)
strict (suc zero) xs i h e = absurd (omega arith)
strict (suc (suc zero)) xs i h e = next_mark xs (min (argument xs 0 + 1) 14) i h e
strict (suc (suc (suc zero))) xs i h e = both_mark xs (min (argument xs 0 + argument xs 1) 14) i h e
strict (suc (suc (suc (suc zero)))) xs i h e = both_mark xs (argument xs 0 - argument xs 1) i h e
strict (suc (suc (suc (suc (suc zero))))) xs i h e = both_mark xs (max (argument xs 0) (argument xs 1)) i h e
strict (suc (suc (suc (suc (suc (suc zero)))))) xs i h e = both_mark xs (min (argument xs 0) (argument xs 1)) i h e
strict (suc (suc (suc (suc (suc (suc (suc zero))))))) xs i h e = both_mark xs (cond (nat_le (argument xs 1) (argument xs 0)) 1 0) i h e
strict (suc (suc (suc (suc (suc (suc (suc (suc zero)))))))) xs i h e = both_mark xs (cond (argument xs 1 == 0) 15 (argument xs 0 / argument xs 1)) i h e
strict (suc (suc (suc (suc (suc (suc (suc (suc (suc op))))))))) xs i h e = refl

pub builtin_laws : SetLaws builtin
builtin_laws = record {
  few = omega arith;
  narrow = narrow;
  marked = marked;
  absent_arity = absent_arity;
  absent_band = absent_band;
  local = local;
  strict = strict;
}

offered : (op : ℕ) → op < 9 → Name (builtin_names op)
offered zero h = record { wide = refl; some = omega arith; spaced = refl }
offered (suc zero) h = record { wide = refl; some = omega arith; spaced = refl }
offered (suc (suc zero)) h = record { wide = refl; some = omega arith; spaced = refl }
offered (suc (suc (suc zero))) h = record { wide = refl; some = omega arith; spaced = refl }
offered (suc (suc (suc (suc zero)))) h = record { wide = refl; some = omega arith; spaced = refl }
offered (suc (suc (suc (suc (suc zero))))) h = record { wide = refl; some = omega arith; spaced = refl }
offered (suc (suc (suc (suc (suc (suc zero)))))) h = record { wide = refl; some = omega arith; spaced = refl }
offered (suc (suc (suc (suc (suc (suc (suc zero))))))) h = record { wide = refl; some = omega arith; spaced = refl }
offered (suc (suc (suc (suc (suc (suc (suc (suc zero)))))))) h = record { wide = refl; some = omega arith; spaced = refl }
offered (suc (suc (suc (suc (suc (suc (suc (suc (suc op))))))))) h = absurd (omega arith)

absent : (op : ℕ) → 9 ≤ op → builtin_names op ≡ blank
absent zero h = absurd (omega arith)
absent (suc zero) h = absurd (omega arith)
absent (suc (suc zero)) h = absurd (omega arith)
absent (suc (suc (suc zero))) h = absurd (omega arith)
absent (suc (suc (suc (suc zero)))) h = absurd (omega arith)
absent (suc (suc (suc (suc (suc zero))))) h = absurd (omega arith)
absent (suc (suc (suc (suc (suc (suc zero)))))) h = absurd (omega arith)
absent (suc (suc (suc (suc (suc (suc (suc zero))))))) h = absurd (omega arith)
absent (suc (suc (suc (suc (suc (suc (suc (suc zero)))))))) h = absurd (omega arith)
absent (suc (suc (suc (suc (suc (suc (suc (suc (suc op))))))))) h = refl

pub builtin_spelt : NameLaws builtin builtin_names
builtin_spelt = record { offered = offered; absent = absent }
