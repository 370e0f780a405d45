use Rattle.std.proofs.Common.{◌≡◌, ℕ, ◌-◌, ◌≤◌, Bool, true, eqb, List, [], ◌∷◌, length, get_or, take, drop, refl, ap, ◌∙◌, arith}
use Rattle.std.specs.List.{prefix_len, list_all}
use Rattle.std.proofs.lemmas.List.{take_rest}
use Rattle.std.proofs.lemmas.Bool.Decides.{nat_tests}
use Rattle.sheet_text.specs.Forms.{capital, name_byte, is_name}

-- a prefix of all is all
pub whole : (p : ℕ → Bool) (xs : List ℕ) → list_all p xs ≡ eqb (prefix_len p xs) (length xs)
whole p [] = refl
whole p (x ∷ xs) = grind (arith, nat_tests, whole p xs)

-- a word that begins with a capital and is short is a name just where each byte after it is a name's
tail_of : (word : List ℕ) → capital (get_or word 0 0) ≡ true → length (drop 1 word) ≤ 3 → list_all name_byte (drop 1 word) ≡ is_name word
tail_of [] e k = let z : ◌≡◌ {A = ℕ} 0 1 = cc in absurd (omega arith)
tail_of (b ∷ bs) e k = whole name_byte bs ∙ (grind (arith, nat_tests))

pub name_tail : (word : List ℕ) (r : Bool) → capital (get_or word 0 0) ≡ true → length (take (length word - 1) (drop 1 word)) ≤ 3 → r ≡ list_all name_byte (take (length word - 1) (drop 1 word)) → r ≡ is_name word
name_tail word r e k f =
    let t = take_rest word 1 in
    f ∙ ap (list_all name_byte) t ∙ tail_of word e (rw t at k)
