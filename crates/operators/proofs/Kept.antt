-- What a mask keeps, as the numbers that pass its test.
use Rattle.std.proofs.Common.{◌≡◌, ℕ, zero, suc, cond, [], ◌∷◌, ◌++◌, filter, refl, sym, ap, ◌∙◌, arith, add-one}
use Rattle.std.specs.List.{range_with_len}
use Rattle.std.proofs.lemmas.List.FromFn.{filter_of_map_range_with_len_more}
use Rattle.std.proofs.lemmas.List.{map-id}
use Rattle.operators.specs.Mask.{set_at, kept}

more : (bits n : ℕ) → filter (set_at bits) (range_with_len 0 (suc n)) ≡ filter (set_at bits) (range_with_len 0 n) ++ cond (set_at bits n) (n ∷ []) []
more bits n = rw (add-one n) at (simp map-id at (filter_of_map_range_with_len_more (set_at bits) (λ (x : ℕ). x) 0 n n (omega arith)))

pub kept_filter : (bits n : ℕ) → kept bits n ≡ filter (set_at bits) (range_with_len 0 n)
kept_filter bits zero = refl
kept_filter bits (suc n) = ap (λ xs. xs ++ cond (set_at bits n) (n ∷ []) []) (kept_filter bits n) ∙ sym (more bits n)
