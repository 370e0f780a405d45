-- One digit more of a number.
use Rattle.std.proofs.Common.{◌≡◌, ℕ, ◌+◌, ◌*◌, ◌^◌, ◌<◌, ◌≤◌, Bool, true, false, cond, leb, ltb, List, [], ◌∷◌, length, Some, None, Option, refl, sym, ap, subst, ◌∙◌, pow-suc, arith, lit<}
use native.Mathlib.Nat.{pow-le-pow_right}
use Rattle.std.proofs.Math.Nat.{mul-le-mul_right, le-mul_of_pos_right}
use Rattle.std.proofs.lemmas.Bool.{le-leb, lt-ltb}
use Rattle.std.proofs.lemmas.Bool.Decides.{nat_tests}
use Rattle.calls.specs.Forms.{after, hex_value, hex_next, hex_after, decimal_value, decimal_next, decimal_after, bits_of, number_of}

-- a digit more, where the sum passes the test, and then the others
after_digit : (test : ℕ → Bool) (sum : ℕ → ℕ) (others : ℕ → Option ℕ) (o : Option ℕ) → after o (λ d. cond (test d) (others (sum d)) None) ≡ after (after o (λ d. cond (test d) (Some (sum d)) None)) others
after_digit test sum others None = refl
after_digit test sum others (Some d) = elim (test d) as (λ t. cond t (others (sum d)) None ≡ after (cond t (Some (sum d)) None) others) [ true ↦ refl | false ↦ refl ]

pub decimal_after_next : (n b : ℕ) (w : Option ℕ) (bs : List ℕ) → w ≡ decimal_next n b → decimal_after n (b ∷ bs) ≡ after w (λ m. decimal_after m bs)
decimal_after_next n b w bs e = after_digit (λ d. leb (n * 10 + d) 255) (λ d. n * 10 + d) (λ m. decimal_after m bs) (decimal_value b) ∙ ap (λ o. after o (λ m. decimal_after m bs)) (sym e)

-- the number that hexadecimal digits write after the number so far, as long as it is below 2 ^ 64
abbrev pub hex_within : ℕ → List ℕ → Option ℕ
hex_within n [] = Some n
hex_within n (b ∷ bs) = after (hex_value b) (λ d. cond (ltb (n * 16 + d) (2 ^ 64)) (hex_within (n * 16 + d) bs) None)

pub hex_within_next : (n b : ℕ) (w : Option ℕ) (bs : List ℕ) → w ≡ hex_next n b → hex_within n (b ∷ bs) ≡ after w (λ m. hex_within m bs)
hex_within_next n b w bs e = after_digit (λ d. ltb (n * 16 + d) (2 ^ 64)) (λ d. n * 16 + d) (λ m. hex_within m bs) (hex_value b) ∙ ap (λ o. after o (λ m. hex_within m bs)) (sym e)

pub hex_most : (b d : ℕ) → Some d ≡ hex_value b → d < 16
hex_most b d e = grind (arith, nat_tests)

-- with k digits left the number stays below 2 ^ 64 where it is below 2 ^ 64 / 16 ^ k
room_more : (n d p : ℕ) → d < 16 → (n + 1) * (p * 16) ≤ 2 ^ 64 → (n * 16 + d + 1) * p ≤ 2 ^ 64
room_more n d p h k = let a : (n * 16 + d + 1) * p ≤ (n + 1) * 16 * p = mul-le-mul_right p (omega arith) in grind arith

room_below : (n p : ℕ) → 0 < p → (n + 1) * p ≤ 2 ^ 64 → n < 2 ^ 64
room_below n p h k = let a : n + 1 ≤ (n + 1) * p = le-mul_of_pos_right (n + 1) h in omega arith

hex_within_is : (bs : List ℕ) (n : ℕ) → (n + 1) * 16 ^ length bs ≤ 2 ^ 64 → hex_within n bs ≡ hex_after n bs
hex_within_is [] n h = refl
hex_within_is (b ∷ bs) n h =
    elim (hex_value b) as (λ o. hex_value b ≡ o → after o (λ d. cond (ltb (n * 16 + d) (2 ^ 64)) (hex_within (n * 16 + d) bs) None) ≡ after o (λ d. hex_after (n * 16 + d) bs)) [
      | None ↦ λ e. refl
      | Some d ↦ λ e.
          let r : (n * 16 + d + 1) * 16 ^ length bs ≤ 2 ^ 64 = room_more n d (16 ^ length bs) (hex_most b d (sym e)) (subst (λ w. (n + 1) * w ≤ 2 ^ 64) (pow-suc 16 (length bs)) h) in
          let p : 0 < 16 ^ length bs = pow-le-pow_right (lit< tt) {i = 0} {j = length bs} (omega arith) in
          rw (lt-ltb (n * 16 + d) (2 ^ 64) (room_below (n * 16 + d) (16 ^ length bs) p r)) (hex_within_is bs (n * 16 + d) r)
    ] refl

pub bits_is : (word : List ℕ) (o : Option ℕ) → 1 ≤ length word → length word ≤ 16 → o ≡ hex_within 0 word → o ≡ bits_of word
bits_is word o h k e =
    let p : 16 ^ length word ≤ 16 ^ 16 = pow-le-pow_right (lit< tt) {i = length word} {j = 16} k in
    rw (le-leb 1 (length word) h, le-leb (length word) 16 k) (e ∙ hex_within_is word 0 (omega arith))

pub number_is : (word : List ℕ) (o : Option ℕ) → 1 ≤ length word → o ≡ decimal_after 0 word → o ≡ number_of word
number_is word o h e = rw (le-leb 1 (length word) h) e
