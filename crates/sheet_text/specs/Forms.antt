-- The forms of words: a channel name, a number of digits, a measure.
use Rattle.std.specs.Prelude.{ℕ, ◌+◌, ◌-◌, ◌*◌, Bool, false, cond, ◌&&◌, ◌||◌, List, [], ◌∷◌, length, Some, None, codes, Option, ◌==◌, nat_le, nat_lt, ◌^◌}
use Rattle.std.specs.List.{prefix_len}
use Rattle.std.specs.Str.{bytes_eq}
use Rattle.sheet_text.specs.declared.sheet.MeasureKind.{MeasureKind}
use Rattle.sheet_text.specs.declared.sheet.MeasureKind.TheVariants.{Nodes, Depth}

abbrev pub capital : ℕ → Bool
capital b = nat_le 65 b && nat_le b 90

abbrev pub small : ℕ → Bool
small b = nat_le 97 b && nat_le b 122

abbrev pub digit : ℕ → Bool
digit b = nat_le 48 b && nat_le b 57

abbrev pub name_byte : ℕ → Bool
name_byte b = capital b || (small b || digit b)

-- a capital, then up to three letters or digits
abbrev pub is_name : List ℕ → Bool
is_name [] = false
is_name (b ∷ bs) = capital b && (nat_le (length bs) 3 && prefix_len name_byte bs == length bs)

-- one digit at least and so many at most, and nothing else
abbrev pub all_digits : ℕ → List ℕ → Bool
all_digits most word = nat_le 1 (length word) && (nat_le (length word) most && prefix_len digit word == length word)

-- the number that the digits write after the number so far
abbrev pub decimal_after : ℕ → List ℕ → ℕ
decimal_after n [] = n
decimal_after n (b ∷ bs) = decimal_after (n * 10 + (b - 48)) bs

abbrev pub decimal : List ℕ → ℕ
decimal word = decimal_after 0 word

-- a number with one digit more, as long as it is below 2 ^ 32
abbrev pub decimal_next : ℕ → ℕ → Option ℕ
decimal_next n b = cond (digit b && nat_lt (n * 10 + (b - 48)) (2 ^ 32)) (Some (n * 10 + (b - 48))) None

-- a word of so many digits at most as a number
abbrev pub number_of : ℕ → List ℕ → Option ℕ
number_of most word = cond (all_digits most word) (Some (decimal word)) None

-- a word of one to three digits that is at most 255
abbrev pub byte_of : List ℕ → Option ℕ
byte_of word = cond (all_digits 3 word && nat_le (decimal word) 255) (Some (decimal word)) None

abbrev pub measure_of : List ℕ → Option MeasureKind
measure_of word = cond (bytes_eq word (codes "nodes")) (Some Nodes) (cond (bytes_eq word (codes "depth")) (Some Depth) None)
