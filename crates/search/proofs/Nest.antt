-- A loop over numbers from 0 that works off the lists of those numbers, inside a run F over what is left.
use Rattle.std.proofs.Common.{◌≡◌, ℕ, zero, suc, ◌+◌, ◌-◌, ◌<◌, ◌≤◌, List, [], ◌∷◌, ◌++◌, map, sym, refl, ap, ◌∙◌, ap₂, arith}
use Rattle.std.proofs.lemmas.List.{append_assoc}
use Rattle.search.specs.Order.{up_from, span, channel, cell, row, block}
use Rattle.search.specs.Lists.{each, counted, numbers}
use Rattle.formulas.specs.Setting.{Setting}
use Rattle.search.specs.Places.{of_channel, of_operator, tuples, candidates}
use Rattle.search.proofs.Lists.{map-append}

module _ {X : Type 0} (f : ℕ → List X) (n i : ℕ) where
  pub up_more : i < n → up_from f (n - i) i ≡ f i ++ up_from f (n - (i + 1)) (i + 1)
  up_more h = let e : n - i ≡ suc (n - (i + 1)) = omega arith in ap (λ m. up_from f m i) e

  pub up_done : n ≤ i → up_from f (n - i) i ≡ []
  up_done h = let e : n - i ≡ 0 = omega arith in ap (λ m. up_from f m i) e

-- at number i of n, what is left from the state s on, whatever follows, comes to what all gives from the first state t on
abbrev pub Through : {X P Z : Type 0} → (P → List X → Z) → (ℕ → List X) → ℕ → P → ℕ → P → Type 0
Through {X} F f n s i t = (rest : List X) → F s (up_from f (n - i) i ++ rest) ≡ F t (up_from f n 0 ++ rest)

module _ {X P Z : Type 0} (F : P → List X → Z) (f : ℕ → List X) (n : ℕ) where
  pub through_none : (s : P) → Through F f n s 0 s
  through_none s rest = let e : n - 0 ≡ n = omega arith in ap (λ m. F s (up_from f m 0 ++ rest)) e

  -- the turn at i, whose list comes first; k is n by another name
  pub through_turn : (k : ℕ) → n ≡ k → (s t : P) (i : ℕ) → i < n → Through F f n s i t → (rest : List X)
      → F s (f i ++ (up_from f (n - (i + 1)) (i + 1) ++ rest)) ≡ F t (up_from f k 0 ++ rest)
  through_turn k e s t i h inv rest =
      ap (F s) (sym (append_assoc (f i) _ rest)) ∙ ap (λ l. F s (l ++ rest)) (sym (up_more f n i h)) ∙ inv rest ∙ ap (λ m. F t (up_from f m 0 ++ rest)) e

  pub through_more : (s s' t : P) (i : ℕ) → i < n → Through F f n s i t
      → ((rest : List X) → F s' rest ≡ F s (f i ++ rest)) → Through F f n s' (i + 1) t
  through_more s s' t i h inv step rest = step (up_from f (n - (i + 1)) (i + 1) ++ rest) ∙ through_turn n refl s t i h inv rest

  -- after the last turn
  pub through_all : (k : ℕ) → n ≡ k → (s t : P) (i : ℕ) → n ≤ i → Through F f n s i t → (rest : List X) → F s rest ≡ F t (up_from f k 0 ++ rest)
  through_all k e s t i h inv rest = ap (λ l. F s (l ++ rest)) (sym (up_done f n i h)) ∙ inv rest ∙ ap (λ m. F t (up_from f m 0 ++ rest)) e

-- ── the loops go through the candidates in build order ──

up_counted : {X : Type 0} (f : ℕ → List X) (n i : ℕ) → up_from f n i ≡ each f (counted i n)
up_counted f zero i = refl
up_counted f (suc n) i = ap (λ l. f i ++ l) (up_counted f n (i + 1) ∙ ap (λ k. each f (counted k n)) (omega arith))

each-one : {X Y : Type 0} (f : X → Y) (xs : List X) → each (λ x. f x ∷ []) xs ≡ map f xs
each-one f [] = refl
each-one f (x ∷ xs) = ap (λ l. f x ∷ l) (each-one f xs)

each_like : {X Y : Type 0} (f g : X → List Y) → ((x : X) → f x ≡ g x) → (xs : List X) → each f xs ≡ each g xs
each_like f g e [] = refl
each_like f g e (x ∷ xs) = ap₂ (λ a b. a ++ b) (e x) (each_like f g e xs)

map_each : {A B C : Type 0} (g : B → C) (f : A → List B) (xs : List A) → map g (each f xs) ≡ each (λ x. map g (f x)) xs
map_each g f [] = refl
map_each g f (x ∷ xs) = map-append g (f x) (each f xs) ∙ ap (λ l. map g (f x) ++ l) (map_each g f xs)

block-tuples : (a n op : ℕ) → a ≤ 2 → up_from (row a n op) (span a 0 n) 0 ≡ map (of_operator op) (tuples a n)
unfolding tuples
block-tuples zero n op l = refl
block-tuples (suc zero) n op l = up_counted (row 1 n op) n 0 ∙ sym (map_each (of_operator op) (λ i. (i ∷ []) ∷ []) (numbers n))
block-tuples (suc (suc zero)) n op l =
    up_counted (row 2 n op) n 0
    ∙ each_like (row 2 n op) (λ i. map (of_operator op) (map (λ is. i ∷ is) (each (λ j. (j ∷ []) ∷ []) (numbers n))))
    (λ i. up_counted (cell 2 op i) n 0 ∙ sym (ap (map (of_operator op)) (map_each (λ is. i ∷ is) (λ j. (j ∷ []) ∷ []) (numbers n)) ∙ map_each (of_operator op) (λ j. (i ∷ j ∷ []) ∷ []) (numbers n)))
    (numbers n)
    ∙ sym (map_each (of_operator op) (λ i. map (λ is. i ∷ is) (each (λ j. (j ∷ []) ∷ []) (numbers n))) (numbers n))
block-tuples (suc (suc (suc a))) n op l = absurd (omega arith)

pub nest_candidates : (E : Setting) (n : ℕ) → ((op : ℕ) → E.set.arity op ≤ 2) → up_from channel E.channels 0 ++ up_from (block E.set.arity n) E.set.count 0 ≡ candidates E n
unfolding candidates
nest_candidates E n narrow =
    ap₂ (λ a b. a ++ b)
    (up_counted channel E.channels 0 ∙ each-one of_channel (numbers E.channels))
    (up_counted (block E.set.arity n) E.set.count 0 ∙ each_like (block E.set.arity n) (λ k. map (of_operator k) (tuples (E.set.arity k) n)) (λ k. block-tuples (E.set.arity k) n k (narrow k)) (numbers E.set.count))
