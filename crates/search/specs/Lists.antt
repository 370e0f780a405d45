-- Words on lists: choosing by a decision, standing in a list, numbers in order.
use Rattle.std.specs.Prelude.{◌≡◌, ℕ, zero, suc, List, [], ◌∷◌, ◌++◌, ◌≢◌, refl}
use Rattle.std.proofs.Math.Decide.{ℕ_discrete}
use Rattle.std.proofs.Common.{ap₂}
use mathlib.Core.List.{nil≢cons, cons≢nil, head-eq_of_cons-eq, tail-eq_of_cons-eq}
pub use Rattle.measures.specs.Lists.{In, here, there}

-- the first where the question is answered by yes, the second where by no
abbrev pub choose : {Q A : Type 0} → Dec Q → A → A → A
choose (yes q) a b = a
choose (no q) a b = b

abbrev pub dec_both : {P Q : Type 0} → Dec P → Dec Q → Dec (P × Q)
dec_both (yes p) (yes q) = yes (p, q)
dec_both (yes p) (no n) = no (λ b. n b.1)
dec_both (no n) d = no (λ b. n b.0)

unfoldable pub dec_in : {A : Type 0} → Discrete A → (x : A) (ys : List A) → Dec (In x ys)
dec_in d x [] = no (λ h. elim h [ ])
dec_in d x (y ∷ ys) = go (d x y) (dec_in d x ys)
  where
    neither : (x ≢ y) → (In x ys → ⊥) → In x (y ∷ ys) → ⊥
    neither e r (here a) = e a
    neither e r (there a) = r a

    go : Dec (x ≡ y) → Dec (In x ys) → Dec (In x (y ∷ ys))
    go (yes e) r = yes (here e)
    go (no e) (yes r) = yes (there r)
    go (no e) (no r) = no (neither e r)

-- the lists that f gives for each, one after the other
abbrev pub each : {A B : Type 0} → (A → List B) → List A → List B
each f [] = []
each f (x ∷ xs) = f x ++ each f xs

-- n numbers in order, from i on
abbrev pub counted : ℕ → ℕ → List ℕ
counted i zero = []
counted i (suc n) = i ∷ counted (suc i) n

abbrev pub numbers : ℕ → List ℕ
numbers n = counted 0 n

abbrev both_same : {a b : ℕ} {us vs : List ℕ} → Dec (a ≡ b) → Dec (us ≡ vs) → Dec (◌≡◌ {A = List ℕ} (a ∷ us) (b ∷ vs))
both_same (yes p) (yes q) = yes (ap₂ (λ (x : ℕ) (xs : List ℕ). x ∷ xs) p q)
both_same (yes p) (no n) = no (λ e. n (tail-eq_of_cons-eq e))
both_same (no n) d = no (λ e. n (head-eq_of_cons-eq e))

-- whether two lists of numbers are the same
unfoldable pub bands_discrete : Discrete (List ℕ)
bands_discrete [] [] = yes refl
bands_discrete [] (b ∷ vs) = no nil≢cons
bands_discrete (a ∷ us) [] = no cons≢nil
bands_discrete (a ∷ us) (b ∷ vs) = both_same (ℕ_discrete a b) (bands_discrete us vs)
