-- What a set that is chosen at run time means, and its names: what the set that it holds means, and that one's names.
use Rattle.std.specs.Prelude.{ℕ, List}
use Rattle.operators.specs.Bands.{SetMeaning}
use Rattle.operators.specs.Builtin.{builtin, builtin_names}
use Rattle.operators.specs.Mask.{masked, mask_names}
use Rattle.operators.specs.Pair.{paired, pair_names}
use Rattle.books.specs.Stored.{held_meaning, held_names}
use Rattle.sets.specs.declared.any_set.AnySet.{AnySet}
use Rattle.sets.specs.declared.any_set.AnySet.TheVariants.{Builtin, Book, BuiltinThenBook, BookThenBuiltin, MaskedBuiltin, MaskedBook, MaskedPair, TwoMasks, Four, Eight}

-- two and four built-in sets as one
abbrev pub double : SetMeaning
double = paired builtin builtin

abbrev pub quad : SetMeaning
quad = paired double double

abbrev pub double_names : ℕ → List ℕ
double_names = pair_names builtin builtin builtin_names builtin_names

abbrev pub quad_names : ℕ → List ℕ
quad_names = pair_names double double double_names double_names

abbrev pub chosen_meaning : AnySet → SetMeaning
chosen_meaning (Builtin s) = builtin
chosen_meaning (Book s) = held_meaning s
chosen_meaning (BuiltinThenBook s) = paired builtin (held_meaning s.second)
chosen_meaning (BookThenBuiltin s) = paired (held_meaning s.first) builtin
chosen_meaning (MaskedBuiltin s) = masked s.bits builtin
chosen_meaning (MaskedBook s) = masked s.bits (held_meaning s.set)
chosen_meaning (MaskedPair s) = masked s.bits (paired builtin (held_meaning s.set.second))
chosen_meaning (TwoMasks s) = paired (masked s.first.bits builtin) (masked s.second.bits builtin)
chosen_meaning (Four s) = quad
chosen_meaning (Eight s) = paired quad quad

abbrev pub chosen_names : AnySet → ℕ → List ℕ
chosen_names (Builtin s) = builtin_names
chosen_names (Book s) = held_names s
chosen_names (BuiltinThenBook s) = pair_names builtin (held_meaning s.second) builtin_names (held_names s.second)
chosen_names (BookThenBuiltin s) = pair_names (held_meaning s.first) builtin (held_names s.first) builtin_names
chosen_names (MaskedBuiltin s) = mask_names s.bits builtin builtin_names
chosen_names (MaskedBook s) = mask_names s.bits (held_meaning s.set) (held_names s.set)
chosen_names (MaskedPair s) = mask_names s.bits (paired builtin (held_meaning s.set.second)) (pair_names builtin (held_meaning s.set.second) builtin_names (held_names s.set.second))
chosen_names (TwoMasks s) = pair_names (masked s.first.bits builtin) (masked s.second.bits builtin) (mask_names s.first.bits builtin builtin_names) (mask_names s.second.bits builtin builtin_names)
chosen_names (Four s) = quad_names
chosen_names (Eight s) = pair_names quad quad quad_names quad_names
