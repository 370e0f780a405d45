-- Names of operators: four bytes, one to four letters a to z and then spaces. Four spaces for a number that is not offered.
use Rattle.std.specs.Prelude.{◌≡◌, ℕ, ◌-◌, ◌<◌, ◌≤◌, Bool, ◌&&◌, List, ◌++◌, length, take, replicate, nat_le}
use Rattle.std.specs.List.{prefix_len}
use Rattle.operators.specs.Bands.{SetMeaning}

abbrev pub space : ℕ
space = 32

abbrev pub name_width : ℕ
name_width = 4

abbrev pub letter : ℕ → Bool
letter c = nat_le 97 c && nat_le c 122

-- a name that is not there
abbrev pub blank : List ℕ
blank = replicate name_width space

-- letters, at least one, and then spaces, four bytes in all
pub record Name (bytes : List ℕ) : Type 0 where
  pub wide : length bytes ≡ name_width
  pub some : 1 ≤ prefix_len letter bytes
  pub spaced : bytes ≡ take (prefix_len letter bytes) bytes ++ replicate (name_width - prefix_len letter bytes) space

pub record NameLaws (m : SetMeaning) (names : ℕ → List ℕ) : Type 0 where
  pub offered : (op : ℕ) → op < m.count → Name (names op)
  pub absent : (op : ℕ) → m.count ≤ op → names op ≡ blank
