-- Lemmas on the words on lists.
use Rattle.std.proofs.Common.{◌≡◌, ℕ, zero, suc, ◌+◌, ◌<◌, List, [], ◌∷◌, ◌++◌, map, length, get_or, sym, refl, ap, ◌∙◌, arith}
use Rattle.std.proofs.lemmas.List.{get_or-map}
use Rattle.search.specs.Lists.{In, here, there, choose, counted, numbers}

-- what holds of both choices, where the question's answer is known there
pub choose-by : {Q A : Type 0} (P : A → Type 0) (d : Dec Q) {a b : A} → (Q → P a) → ((Q → ⊥) → P b) → P (choose d a b)
choose-by P (yes q) f g = f q
choose-by P (no n) f g = g n

pub in_none : {A C : Type 0} {x : A} → In x [] → C
in_none h = elim h [ ]

pub map-append : {A B : Type 0} (f : A → B) (s t : List A) → map f (s ++ t) ≡ map f s ++ map f t
map-append f [] t = refl
map-append f (x ∷ s) t = ap (λ l. f x ∷ l) (map-append f s t)

pub in_split : {A C : Type 0} {x y : A} {ys : List A} → (x ≡ y → C) → (In x ys → C) → In x (y ∷ ys) → C
in_split f g (here e) = f e
in_split f g (there h) = g h

pub choose_yes : {Q A : Type 0} (d : Dec Q) (a b : A) → Q → choose d a b ≡ a
choose_yes (yes q) a b h = refl
choose_yes (no n) a b h = absurd (n h)

pub choose_no : {Q A : Type 0} (d : Dec Q) (a b : A) → (Q → ⊥) → choose d a b ≡ b
choose_no (yes q) a b h = absurd (h q)
choose_no (no n) a b h = refl

length-counted : (n from : ℕ) → length (counted from n) ≡ n
length-counted zero from = refl
length-counted (suc n) from = ap suc (length-counted n (suc from))

get_or-counted : (n from i d : ℕ) → i < n → get_or (counted from n) i d ≡ from + i
get_or-counted zero from i d l = absurd (omega arith)
get_or-counted (suc n) from zero d l = omega arith
get_or-counted (suc n) from (suc i) d l = get_or-counted n (suc from) i d (omega arith) ∙ omega arith

pub length-numbers : (n : ℕ) → length (numbers n) ≡ n
length-numbers n = length-counted n 0

pub get_or_tabled : (f : ℕ → ℕ) (n j d : ℕ) → j < n → get_or (map f (numbers n)) j d ≡ f j
get_or_tabled f n j d l =
    let a : j < length (numbers n) = (let e = length-numbers n in omega arith) in
    get_or-map f (numbers n) j 0 d a ∙ ap f (get_or-counted n 0 j 0 l ∙ omega arith)

pub in_at : {A : Type 0} (x : A) (xs : List A) → In x xs → (k : ℕ) × (k < length xs) × ((d : A) → get_or xs k d ≡ x)
in_at x [] h = in_none h
in_at x (y ∷ xs) (here e) = (0, omega arith, λ d. sym e)
in_at x (y ∷ xs) (there h) = let r = in_at x xs h in (suc r.0, (let l = r.1 in omega arith), r.2)

pub at_in : {A : Type 0} (x : A) (xs : List A) (k : ℕ) (d : A) → k < length xs → get_or xs k d ≡ x → In x xs
at_in x [] k d l e = absurd (omega arith)
at_in x (y ∷ xs) zero d l e = here (sym e)
at_in x (y ∷ xs) (suc k) d l e = there (at_in x xs k d (omega arith) e)
