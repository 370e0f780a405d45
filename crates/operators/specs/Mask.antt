-- A mask over a set: those of its operators whose bit is 1, renumbered in order.
use Rattle.std.specs.Prelude.{ℕ, zero, suc, ◌/◌, ◌%◌, ◌^◌, Bool, cond, List, [], ◌∷◌, ◌++◌, length, Some, None, Option, ◌==◌}
use Rattle.std.specs.List.{slice_get}
use Rattle.operators.specs.Bands.{mark, SetMeaning}
use Rattle.operators.specs.Names.{blank}

-- whether bit i of a number is 1, 0 the lowest
abbrev pub set_at : ℕ → ℕ → Bool
set_at bits i = bits / 2 ^ i % 2 == 1

-- the numbers below n whose bit is 1, in order
abbrev pub kept : ℕ → ℕ → List ℕ
kept bits zero = []
kept bits (suc n) = kept bits n ++ cond (set_at bits n) (n ∷ []) []

-- the number in the set below of the mask's operator op, if it is offered
abbrev pub behind : ℕ → SetMeaning → ℕ → Option ℕ
behind bits m op = slice_get (kept bits m.count) op

abbrev pub arity_at : SetMeaning → Option ℕ → ℕ
arity_at m (Some k) = m.arity k
arity_at m None = 0

abbrev pub band_at : SetMeaning → Option ℕ → List ℕ → ℕ
band_at m (Some k) xs = m.band k xs
band_at m None xs = mark

abbrev pub name_at : (ℕ → List ℕ) → Option ℕ → List ℕ
name_at names (Some k) = names k
name_at names None = blank

abbrev pub masked : ℕ → SetMeaning → SetMeaning
masked bits m = record {
  count = length (kept bits m.count);
  arity = λ op. arity_at m (behind bits m op);
  band = λ op xs. band_at m (behind bits m op) xs;
}

abbrev pub mask_names : ℕ → SetMeaning → (ℕ → List ℕ) → ℕ → List ℕ
mask_names bits m names op = name_at names (behind bits m op)
