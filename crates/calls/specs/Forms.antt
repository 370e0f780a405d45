-- The forms of words: digits, bits, numbers.
use Rattle.std.specs.Prelude.{ℕ, ◌+◌, ◌-◌, ◌*◌, cond, ◌&&◌, List, [], ◌∷◌, length, Some, None, Option, nat_le, nat_lt, ◌^◌}

-- what is made of a value, if there is one
abbrev pub after : {X : Type 0} → Option ℕ → (ℕ → Option X) → Option X
after (Some d) f = f d
after None f = None

-- a digit's value
abbrev pub decimal_value : ℕ → Option ℕ
decimal_value b = cond (nat_le 48 b && nat_le b 57) (Some (b - 48)) None

-- a hexadecimal digit's value, lower case
abbrev pub hex_value : ℕ → Option ℕ
hex_value b = cond (nat_le 48 b && nat_le b 57) (Some (b - 48)) (cond (nat_le 97 b && nat_le b 102) (Some (b - 97 + 10)) None)

-- the number that hexadecimal digits write after the number so far
abbrev pub hex_after : ℕ → List ℕ → Option ℕ
hex_after n [] = Some n
hex_after n (b ∷ bs) = after (hex_value b) (λ d. hex_after (n * 16 + d) bs)

-- a number with one hexadecimal digit more, as long as it is below 2 ^ 64
abbrev pub hex_next : ℕ → ℕ → Option ℕ
hex_next n b = after (hex_value b) (λ d. cond (nat_lt (n * 16 + d) (2 ^ 64)) (Some (n * 16 + d)) None)

-- one to sixteen hexadecimal digits as a number
abbrev pub bits_of : List ℕ → Option ℕ
bits_of word = cond (nat_le 1 (length word) && nat_le (length word) 16) (hex_after 0 word) None

-- a number with one decimal digit more, as long as it is at most 255
abbrev pub decimal_next : ℕ → ℕ → Option ℕ
decimal_next n b = after (decimal_value b) (λ d. cond (nat_le (n * 10 + d) 255) (Some (n * 10 + d)) None)

-- the number that decimal digits write after the number so far, as long as it is at most 255
abbrev pub decimal_after : ℕ → List ℕ → Option ℕ
decimal_after n [] = Some n
decimal_after n (b ∷ bs) = after (decimal_value b) (λ d. cond (nat_le (n * 10 + d) 255) (decimal_after (n * 10 + d) bs) None)

-- one decimal digit or more as a number from 0 to 255
abbrev pub number_of : List ℕ → Option ℕ
number_of word = cond (nat_le 1 (length word)) (decimal_after 0 word) None
