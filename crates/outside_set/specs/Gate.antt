-- The operator gate, numbered 0: its second argument where its first is at least 1, else 0; 15 where an argument is 15.
use Rattle.std.specs.Prelude.{ℕ, cond, ◌||◌, List, [], ◌∷◌, codes, nat_le, slice_index, slice_index_or}
use Rattle.operators.specs.Bands.{mark, argument, SetMeaning}
use Rattle.operators.specs.Names.{blank}

abbrev pub gate_of : ℕ → ℕ → ℕ
gate_of a b = cond (nat_le mark a || nat_le mark b) mark (cond (nat_le 1 a) b 0)

abbrev pub gate_set : SetMeaning
gate_set = record {
  count = 1;
  arity = λ op. slice_index (2 ∷ []) op;
  band = λ op xs. slice_index_or (gate_of (argument xs 0) (argument xs 1) ∷ []) op mark;
}

abbrev pub gate_names : ℕ → List ℕ
gate_names op = slice_index_or (codes "gate" ∷ []) op blank
