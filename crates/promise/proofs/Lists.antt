-- Standing in a list, keeping those that pass, being pairwise different.
use Rattle.std.proofs.Common.{◌≡◌, ℕ, zero, suc, ◌+◌, ◌<◌, ◌≤◌, ◌⊎◌, List, [], ◌∷◌, ◌++◌, map, length, sym, refl, ap, ◌∙◌, subst, inl, inr, arith}
use native.Mathlib.Decide.{ℕ_discrete}
use Rattle.formulas.specs.Formula.{Apart}
use Rattle.search.specs.Lists.{In, here, there, choose, each, counted, numbers}
use Rattle.search.proofs.Lists.{choose-by, in_none}

abbrev pub dec_not : {Q : Type 0} → Dec Q → Dec (¬ Q)
dec_not (yes q) = no (λ n. n q)
dec_not (no n) = yes n

-- those of the list that pass, in order
abbrev pub keep : {A : Type 0} {P : A → Type 0} → ((a : A) → Dec (P a)) → List A → List A
keep d [] = []
keep d (x ∷ xs) = choose (d x) (x ∷ keep d xs) (keep d xs)

pub in_rest : {A : Type 0} {x y : A} {ys : List A} → (x ≡ y → ⊥) → In x (y ∷ ys) → In x ys
in_rest n (here e) = absurd (n e)
in_rest n (there h) = h

pub in_left : {A : Type 0} {x : A} {s : List A} (t : List A) → In x s → In x (s ++ t)
in_left t (here e) = here e
in_left t (there h) = there (in_left t h)

pub in_right : {A : Type 0} {x : A} (s : List A) {t : List A} → In x t → In x (s ++ t)
in_right [] h = h
in_right (y ∷ s) h = there (in_right s h)

pub in_cases : {A : Type 0} {x : A} (s : List A) {t : List A} → In x (s ++ t) → In x s ⊎ In x t
in_cases [] h = inr h
in_cases (y ∷ s) (here e) = inl (here e)
in_cases (y ∷ s) (there h) = elim (in_cases s h) [ inl a ↦ inl (there a) | inr b ↦ inr b ]

pub in_map : {A B : Type 0} (f : A → B) {x : A} {xs : List A} → In x xs → In (f x) (map f xs)
in_map f (here e) = here (ap f e)
in_map f (there h) = there (in_map f h)

pub in_map_back : {A B : Type 0} (f : A → B) {y : B} (xs : List A) → In y (map f xs) → (x : A) × In x xs × (y ≡ f x)
in_map_back f [] h = in_none h
in_map_back f (x ∷ xs) (here e) = (x, here refl, e)
in_map_back f (x ∷ xs) (there h) = let r = in_map_back f xs h in (r.0, there r.1, r.2)

pub in_each : {A B : Type 0} (f : A → List B) {x : A} {y : B} {xs : List A} → In x xs → In y (f x) → In y (each f xs)
in_each f {y = y} (here {y = z} {ys = xs} e) k = in_left (each f xs) (subst (λ u. In y (f u)) e k)
in_each f (there {y = z} h) k = in_right (f z) (in_each f h k)

pub in_each_back : {A B : Type 0} (f : A → List B) {y : B} (xs : List A) → In y (each f xs) → (x : A) × In x xs × In y (f x)
in_each_back f [] h = in_none h
in_each_back {A = A} f {y = y} (x ∷ xs) h = go (in_each_back f xs) (in_cases (f x) h)
  where
    go : (In y (each f xs) → (u : A) × In u xs × In y (f u)) → In y (f x) ⊎ In y (each f xs) → (u : A) × In u (x ∷ xs) × In y (f u)
    go r (inl k) = (x, here refl, k)
    go r (inr k) = let t = r k in (t.0, there t.1, t.2)

pub in_keep : {A : Type 0} {P : A → Type 0} (d : (a : A) → Dec (P a)) {x : A} {xs : List A} → In x xs → P x → In x (keep d xs)
in_keep {P = P} d {x} (here {y = y} e) p = choose-by (λ l. In x l) (d y) (λ q. here e) (λ n. absurd (n (subst P e p)))
in_keep d {x} (there {y = y} h) p = let r = in_keep d h p in choose-by (λ l. In x l) (d y) (λ q. there r) (λ n. r)

pub in_keep_back : {A : Type 0} {P : A → Type 0} (d : (a : A) → Dec (P a)) {x : A} (xs : List A) → In x (keep d xs) → In x xs × P x
in_keep_back d [] h = in_none h
in_keep_back {P = P} d {x} (y ∷ xs) h = go (d y) (in_keep_back d xs) h
  where
    go : (q : Dec (P y)) → (In x (keep d xs) → In x xs × P x) → In x (choose q (y ∷ keep d xs) (keep d xs)) → In x (y ∷ xs) × P x
    go (yes q) r (here e) = (here e, subst P (sym e) q)
    go (yes q) r (there k) = let t = r k in (there t.0, t.1)
    go (no n) r k = let t = r k in (there t.0, t.1)

in_counted : (n from i : ℕ) → from ≤ i → i < from + n → In i (counted from n)
in_counted zero from i lo hi = absurd (omega arith)
in_counted (suc n) from i lo hi = go (in_counted n (suc from) i) (ℕ_discrete i from)
  where
    go : (suc from ≤ i → i < suc from + n → In i (counted (suc from) n)) → Dec (i ≡ from) → In i (counted from (suc n))
    go r (yes e) = here e
    go r (no e) = there (r (omega arith) (omega arith))

in_counted_back : (n from i : ℕ) → In i (counted from n) → i < from + n
in_counted_back zero from i h = in_none h
in_counted_back (suc n) from i (here e) = omega arith
in_counted_back (suc n) from i (there h) = let r = in_counted_back n (suc from) i h in omega arith

pub in_numbers : (n i : ℕ) → i < n → In i (numbers n)
in_numbers n i h = in_counted n 0 i (omega arith) (omega arith)

pub in_numbers_back : (n i : ℕ) → In i (numbers n) → i < n
in_numbers_back n i h = let r = in_counted_back n 0 i h in omega arith

pub apart-append : {A : Type 0} (s t : List A) → Apart s → Apart t → ((x : A) → In x s → In x t → ⊥) → Apart (s ++ t)
apart-append [] t a b k = b
apart-append (x ∷ s) t a b k = (
  λ h. elim (in_cases s h) [ inl u ↦ a.0 u | inr u ↦ k x (here refl) u ],
  apart-append s t a.1 b (λ y u v. k y (there u) v),
)

-- ── no more different ones than there are places ──

less : {A : Type 0} → Discrete A → A → List A → List A
less d x [] = []
less d x (y ∷ ys) = choose (d x y) ys (y ∷ less d x ys)

less_length : {A : Type 0} (d : Discrete A) (x : A) (ys : List A) → In x ys → length ys ≡ suc (length (less d x ys))
unfolding less
less_length d x [] h = in_none h
less_length {A = A} d x (y ∷ ys) h = choose-by {A = List A} (λ l. suc (length ys) ≡ suc (length l)) (d x y) (λ q. refl) (λ n. ap suc (less_length d x ys (in_rest n h)))

in_less : {A : Type 0} (d : Discrete A) (x z : A) (ys : List A) → (z ≡ x → ⊥) → In z ys → In z (less d x ys)
unfolding less
in_less d x z [] ne h = in_none h
in_less {A = A} d x z (y ∷ ys) ne (here e) = choose-by {A = List A} (λ l. In z l) (d x y) (λ q. absurd (ne (e ∙ sym q))) (λ n. here e)
in_less {A = A} d x z (y ∷ ys) ne (there h) = let r = in_less d x z ys ne h in choose-by {A = List A} (λ l. In z l) (d x y) (λ q. h) (λ n. there r)

pub no_more : {A : Type 0} → Discrete A → (xs ys : List A) → Apart xs → ((x : A) → In x xs → In x ys) → length xs ≤ length ys
no_more d [] ys a within = omega arith
no_more {A = A} d (x ∷ xs) ys a within =
    let e : length ys ≡ suc (length (less d x ys)) = less_length d x ys (within x (here refl)) in
    let r : length xs ≤ length (less d x ys) = no_more d xs (less d x ys) a.1 (λ z h. in_less d x z ys (λ q. a.0 (subst (λ u. In u xs) q h)) (within z (there h))) in
    omega arith
