-- The codes and the fields of steps, one after the other.
use Rattle.std.proofs.Common.{◌≡◌, ℕ, ◌+◌, ◌<◌, ◌≤◌, List, [], ◌∷◌, ◌++◌, map, length, get_or, take, sym, ap, ◌∙◌}
use Rattle.std.specs.List.{flat_map}
use Rattle.std.proofs.lemmas.List.{take_more, take_all, map_more, flat_map_more}
use Rattle.formulas.specs.declared.steps.Step.{Step}
use Rattle.records.specs.Bytes.{step_code, field_of}

-- one more of the codes, and of the fields
pub codes_more : (xs : List Step) (i : ℕ) (d : Step) → i < length xs → map step_code (take i xs) ++ step_code (get_or xs i d) ∷ [] ≡ map step_code (take (i + 1) xs)
codes_more xs i d h = sym (map_more step_code xs i d h)

pub fields_more : (xs : List Step) (i : ℕ) (d : Step) → i < length xs → flat_map field_of (take i xs) ++ field_of (get_or xs i d) ≡ flat_map field_of (take (i + 1) xs)
fields_more xs i d h = flat_map_more field_of [] (take i xs) (get_or xs i d) ∙ ap (flat_map field_of) (sym (take_more xs i d h))

pub codes_all : (xs : List Step) (i : ℕ) → length xs ≤ i → map step_code (take i xs) ≡ map step_code xs
codes_all xs i h = ap (map step_code) (take_all i xs h)

pub fields_all : (xs : List Step) (i : ℕ) → length xs ≤ i → flat_map field_of (take i xs) ≡ flat_map field_of xs
fields_all xs i h = ap (flat_map field_of) (take_all i xs h)
