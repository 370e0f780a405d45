-- How many values stand.
use Rattle.std.proofs.Common.{◌≡◌, ℕ, ◌<◌, ltb, Bool, cond, [], ◌∷◌, ◌++◌, length, ap, ◌∙◌, arith}
use Rattle.std.proofs.lemmas.List.{length-take-le}
use Rattle.std.proofs.lemmas.Bool.{lt-ltb}
use Rattle.fixed.specs.Listed.{listed}
use Rattle.fixed.specs.declared.list.FixedList.{FixedList}

pub listed-length : {T : Type 0} {n : ℕ} (s : FixedList T n) → length (listed s) ≡ s.count
listed-length s = let f = s.few in let w = s.whole in length-take-le s.count s.table (omega arith)

-- a value that is put into a list with room stands last
pub pushed : {T : Type 0} {n : ℕ} (s t : FixedList T n) (x : T) (r : Bool) → r ≡ ltb (length (listed s)) n → listed t ≡ cond r (listed s ++ x ∷ []) (listed s) → s.count < n → listed t ≡ listed s ++ x ∷ []
pushed {n = n} s t x r is e room = let l = listed-length s in e ∙ ap (λ b. cond b (listed s ++ x ∷ []) (listed s)) (is ∙ lt-ltb (length (listed s)) n (omega arith))
