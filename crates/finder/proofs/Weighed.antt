-- What a comparison of two weights says of their numbers.
use Rattle.std.proofs.Common.{rules, ◌≡◌, ℕ, ◌<◌, ◌≤◌, Bool, true, false, Some, None, nat_lt}
use Rattle.std.specs.Bool.{if◌then◌else◌}
use Rattle.std.specs.declared.cmp.Ordering.{Ordering}
use Rattle.std.specs.declared.cmp.Ordering.TheVariants.{Less, Equal, Greater}
use Rattle.std.specs.Ordering.{is_lt, nat_cmp}
use Rattle.std.specs.Cmp.{ranked}

pub lighter : (a b : ℕ) (o : Ordering) → o ≡ nat_cmp a b → is_lt o ≡ true → a < b
lighter a b Less e q = ranked a b Less e
lighter a b Equal e q = search rules
lighter a b Greater e q = search rules

-- a weight's number: none where it is beyond
pub numbered : (b : Bool) (v w : ℕ) → Some w ≡ (if b then Some v else None) → w ≡ v
numbered true v w e = search rules
numbered false v w e = search rules

pub unnumbered : (b : Bool) (v : ℕ) → b ≡ nat_lt v 1000001 → None ≡ (if b then Some v else None) → 1000001 ≤ v
unnumbered true v q e = search rules
unnumbered false v q e = search rules
