-- Reading a record and writing its steps again.
use Rattle.std.specs.Prelude.{◌≡◌, ℕ, cond, List, ◌++◌, length, drop, Some, None, Ok, Err, Option, Result, nat_lt}
use Rattle.refusals.specs.Numbers.{record_refusal, firmware_refusal}
use Rattle.operators.specs.Bands.{SetMeaning}
use Rattle.records.specs.Reading.{or_else, bytes_refusal}
use Rattle.records.specs.declared.rewrite.RewriteRefusal.{RewriteRefusal}
use Rattle.records.specs.declared.rewrite.RewriteRefusal.TheVariants.{Record, Firmware}

abbrev pub rewrite_refusal : RewriteRefusal → ℕ × ℕ
rewrite_refusal (Record e) = record_refusal e
rewrite_refusal (Firmware e) = firmware_refusal e

-- what the record is refused, and then 9 where the buffer s is shorter
abbrev pub bytes_and_room : SetMeaning → ℕ → List ℕ → List ℕ → Option (ℕ × ℕ)
bytes_and_room m channels bytes s = or_else (bytes_refusal m channels bytes) (cond (nat_lt (length s) (length bytes)) (Some (9, 0)) None)

-- the same bytes stand in the front of the buffer, s before and t after, and the rest is as it was; a refusal leaves it as it was
abbrev pub Rewritten : List ℕ → List ℕ → List ℕ → Result ℕ RewriteRefusal → Type 0
Rewritten bytes s t (Ok n) = (n ≡ length bytes) × (t ≡ bytes ++ drop n s)
Rewritten bytes s t (Err e) = t ≡ s
