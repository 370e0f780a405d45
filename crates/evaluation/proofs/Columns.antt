-- A table of which each entry is known has a list in front and marks behind it.
use Rattle.std.proofs.Common.{◌≡◌, ℕ, zero, suc, ◌+◌, ◌-◌, ◌<◌, ◌≤◌, List, [], ◌∷◌, ◌++◌, length, get_or, take, replicate, refl, ap, ap₂, ◌∙◌, sym, subst, ⊎_elim, arith}
use Rattle.std.proofs.lemmas.Bool.{cases_eq}
use Rattle.std.specs.Array.{IsFromFnResultFrom}
use denote.Param.Members.{Mut, Called}
use Rattle.operators.specs.Bands.{mark}

all_marks : (n : ℕ) (xs : List ℕ) → length xs ≡ n → ((i : ℕ) → i < n → get_or xs i 0 ≡ mark) → xs ≡ replicate n mark
all_marks zero [] e h = refl
all_marks zero (x ∷ xs) e h = absurd (omega (arith, e))
all_marks (suc n) [] e h = absurd (omega (arith, e))
all_marks (suc n) (x ∷ xs) e h = ap₂ (λ v vs. v ∷ vs) (h zero (omega arith)) (all_marks n xs (omega (arith, e)) (λ i l. h (suc i) (omega arith)))

pub padded_front : (n : ℕ) (xs ys : List ℕ) → length xs ≡ n → ((i : ℕ) → i < n → get_or xs i 0 ≡ get_or ys i mark) → xs ≡ take n ys ++ replicate (n - length (take n ys)) mark
padded_front zero [] ys e h = refl
padded_front zero (x ∷ xs) ys e h = absurd (omega (arith, e))
padded_front (suc n) [] ys e h = absurd (omega (arith, e))
padded_front (suc n) (x ∷ xs) [] e h =
    let whole : suc n ≡ suc n - 0 = omega arith in all_marks (suc n) (x ∷ xs) e h ∙ ap (λ k. replicate k mark) whole
padded_front (suc n) (x ∷ xs) (y ∷ ys) e h =
    let behind : n - length (take n ys) ≡ suc n - suc (length (take n ys)) = omega arith in
    ap₂ (λ v vs. v ∷ vs) (h zero (omega arith)) (padded_front n xs ys (omega (arith, e)) (λ i l. h (suc i) (omega arith))) ∙ ap (λ k. y ∷ (take n ys ++ replicate k mark)) behind

-- what each call of a closure that stays as it is gives stands in the array that is made of them
pub each_of : {F : Type 0} {g : Mut F (ℕ × Unit {0}) ℕ} (J : ℕ → ℕ → Type 0) (f : F) → ((i b : ℕ) (q : F) → Called g f (i, tt) b q → J i b × (q ≡ f)) → (ys : List ℕ) (n i : ℕ) → IsFromFnResultFrom g f ys i n → (k : ℕ) → i ≤ k → k < i + n → J k (get_or ys k 0)
each_of J f step ys zero i made k l h = absurd (omega arith)
each_of {F} {g} J f step ys (suc n) i (q, y, at, called, rest) k l h =
    let t = step i y q called in
    ⊎_elim
    (λ (same : i ≡ k). subst (λ j. J j (get_or ys j 0)) same (subst (J i) (sym (at.1 0)) t.0))
    (λ other. each_of J f step ys n (i + 1) (subst (λ p. IsFromFnResultFrom g p ys (i + 1) n) t.1 rest) k (omega arith) (omega arith))
    (cases_eq i k)
