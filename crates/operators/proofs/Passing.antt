-- How many numbers pass a mask's test, counted by a sum that stops at 255.
use Rattle.std.proofs.Common.{◌≡◌, ℕ, ◌+◌, ◌≤◌, Bool, true, false, cond, min, List, [], ◌∷◌, filter, length, ap, ◌∙◌, suc, arith}
use Rattle.std.specs.List.{fold}
use Rattle.operators.specs.Mask.{set_at}

-- a sum with one more for a number that passes
abbrev pub one_more : ℕ → ℕ → ℕ → ℕ
one_more bits sum i = min (sum + cond (set_at bits i) 1 0) 255

step : (bits x : ℕ) (xs : List ℕ) (a : ℕ) (passes : Bool) → ((b : ℕ) → b + length xs ≤ 255 → fold (one_more bits) b xs ≡ b + length (filter (set_at bits) xs)) → a + suc (length xs) ≤ 255 → fold (one_more bits) (min (a + cond passes 1 0) 255) xs ≡ a + length (cond passes (x ∷ filter (set_at bits) xs) (filter (set_at bits) xs))
step bits x xs a true rest few =
    let sum : min (a + 1) 255 ≡ a + 1 = omega (arith, few) in
    ap (λ b. fold (one_more bits) b xs) sum ∙ rest (a + 1) (omega (arith, few)) ∙ omega arith
step bits x xs a false rest few =
    let sum : min (a + 0) 255 ≡ a = omega (arith, few) in
    ap (λ b. fold (one_more bits) b xs) sum ∙ rest a (omega (arith, few))

pub passing : (bits : ℕ) (xs : List ℕ) (a : ℕ) → a + length xs ≤ 255 → fold (one_more bits) a xs ≡ a + length (filter (set_at bits) xs)
passing bits [] a few = omega arith
passing bits (x ∷ xs) a few = step bits x xs a (set_at bits x) (passing bits xs) few
