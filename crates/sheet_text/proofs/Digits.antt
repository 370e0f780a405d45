-- One digit more of a number.
use Rattle.std.proofs.Common.{◌≡◌, ℕ, ◌+◌, ◌-◌, ◌*◌, ◌^◌, ◌<◌, ◌≤◌, Bool, true, false, cond, ◌&&◌, ltb, eqb, List, [], ◌∷◌, length, Some, None, Option, refl, sym, ap, subst, ◌∙◌, pow-suc, arith, lit<}
use native.Mathlib.Nat.{pow-le-pow_right}
use Rattle.std.proofs.Math.Nat.{mul-le-mul_right, le-mul_of_pos_right}
use Rattle.std.specs.List.{prefix_len}
use Rattle.std.proofs.lemmas.Bool.{le-leb, lt-ltb}
use Rattle.std.proofs.lemmas.Bool.Decides.{nat_tests}
use Rattle.sheet_text.specs.Forms.{digit, decimal_after, decimal_next, number_of}
use Rattle.sheet_text.proofs.TryFold.{after}

-- the number that digits write after the number so far, as long as it is below 2 ^ 32
abbrev pub within : ℕ → List ℕ → Option ℕ
within n [] = Some n
within n (b ∷ bs) = after (decimal_next n b) (λ m. within m bs)

pub within_next : (n b : ℕ) (w : Option ℕ) (bs : List ℕ) → w ≡ decimal_next n b → within n (b ∷ bs) ≡ after w (λ m. within m bs)
within_next n b w bs e = ap (λ o. after o (λ m. within m bs)) (sym e)

digit_most : (b : ℕ) → digit b ≡ true → b - 48 < 10
digit_most b e = grind (arith, nat_tests)

-- with k digits left the number stays below 10 ^ 7 where it is below 10 ^ 7 / 10 ^ k
room_more : (n d p : ℕ) → d < 10 → (n + 1) * (p * 10) ≤ 10 ^ 7 → (n * 10 + d + 1) * p ≤ 10 ^ 7
room_more n d p h k = let a : (n * 10 + d + 1) * p ≤ (n + 1) * 10 * p = mul-le-mul_right p (omega arith) in grind arith

room_below : (n p : ℕ) → 0 < p → (n + 1) * p ≤ 10 ^ 7 → n < 2 ^ 32
room_below n p h k = let a : n + 1 ≤ (n + 1) * p = le-mul_of_pos_right (n + 1) h in omega arith

within_is : (bs : List ℕ) (n : ℕ) → (n + 1) * 10 ^ length bs ≤ 10 ^ 7 → within n bs ≡ cond (eqb (prefix_len digit bs) (length bs)) (Some (decimal_after n bs)) None
within_is [] n h = refl
within_is (b ∷ bs) n h = go (λ m. within_is bs m) (digit b) refl
  where
    go : ((m : ℕ) → (m + 1) * 10 ^ length bs ≤ 10 ^ 7 → within m bs ≡ cond (eqb (prefix_len digit bs) (length bs)) (Some (decimal_after m bs)) None)
        → (q : Bool) → digit b ≡ q → after (cond (q && ltb (n * 10 + (b - 48)) (2 ^ 32)) (Some (n * 10 + (b - 48))) None) (λ m. within m bs) ≡ cond (eqb (cond q (1 + prefix_len digit bs) 0) (length (b ∷ bs))) (Some (decimal_after n (b ∷ bs))) None
    go more false e = let none : eqb 0 (length (b ∷ bs)) ≡ false = grind (arith, nat_tests) in rw none refl
    go more true e =
        let r : (n * 10 + (b - 48) + 1) * 10 ^ length bs ≤ 10 ^ 7 = room_more n (b - 48) (10 ^ length bs) (digit_most b e) (subst (λ w. (n + 1) * w ≤ 10 ^ 7) (pow-suc 10 (length bs)) h) in
        let p : 0 < 10 ^ length bs = pow-le-pow_right (lit< tt) {i = 0} {j = length bs} (omega arith) in
        let same : eqb (1 + prefix_len digit bs) (length (b ∷ bs)) ≡ eqb (prefix_len digit bs) (length bs) = grind (arith, nat_tests) in
        rw (lt-ltb (n * 10 + (b - 48)) (2 ^ 32) (room_below (n * 10 + (b - 48)) (10 ^ length bs) p r), same) (more (n * 10 + (b - 48)) r)

pub number_is : (most : ℕ) (word : List ℕ) (o : Option ℕ) → most ≤ 7 → 1 ≤ length word → length word ≤ most → o ≡ within 0 word → o ≡ number_of most word
number_is most word o m h k e =
    let p : 10 ^ length word ≤ 10 ^ 7 = pow-le-pow_right (lit< tt) {i = length word} {j = 7} (omega arith) in
    rw (le-leb 1 (length word) h, le-leb (length word) most k) (e ∙ within_is word 0 (omega arith))
