-- What a step that stands for a formula has, by its arity.
use Rattle.std.proofs.Common.{◌≡◌, ℕ, zero, suc, ◌+◌, ◌<◌, ◌≤◌, List, [], ◌∷◌, ◌++◌, length, get_or, take, sym, refl, ap, ◌∙◌, subst, arith, length-append}
use Rattle.std.proofs.lemmas.List.{append-nil}
use Rattle.printing.specs.declared.pieces.Piece.{Piece}
use Rattle.printing.specs.Formulas.{Formula, Formulas, over, nil, cons, printed, others, at, Denotes, Arguments}

pub pair_of : (xs : List ℕ) → length xs ≡ 2 → xs ≡ get_or xs 0 0 ∷ (get_or xs 1 0 ∷ [])
pair_of [] e = absurd (omega arith)
pair_of (x ∷ []) e = absurd (omega arith)
pair_of (x ∷ (y ∷ [])) e = refl
pair_of (x ∷ (y ∷ (z ∷ zs))) e = absurd (omega arith)

pub within : (ps : List Piece) (k : ℕ) (f : Formula) → Denotes ps k f → k < length ps
within ps k (over l fs) d = d.0

-- an argument of a step that has one, and its second
pub first_of : (ps : List Piece) (k n x : ℕ) (xs : List ℕ) (a : Formula) (fs : Formulas) → Arguments ps k (take n (x ∷ xs)) (cons a fs)
    → (x < k) × Denotes ps x a
first_of ps k zero x xs a fs d = absurd d
first_of ps k (suc n) x xs a fs d = (d.0, d.1)

pub second_of : (ps : List Piece) (k n x y : ℕ) (xs : List ℕ) (a b : Formula) (fs : Formulas) → Arguments ps k (take n (x ∷ (y ∷ xs))) (cons a (cons b fs))
    → (y < k) × Denotes ps y b
second_of ps k zero x y xs a b fs d = absurd d
second_of ps k (suc n) x y xs a b fs d = first_of ps k n y xs b fs d.2

pub no_third : (ps : List Piece) (k n x y : ℕ) (a b e : Formula) (fs : Formulas) → Arguments ps k (take n (x ∷ (y ∷ []))) (cons a (cons b (cons e fs))) → ⊥
no_third ps k zero x y a b e fs d = d
no_third ps k (suc zero) x y a b e fs d = d.2
no_third ps k (suc (suc zero)) x y a b e fs d = d.2.2
no_third ps k (suc (suc (suc n))) x y a b e fs d = d.2.2

-- a bracket is closed
closed : (fs : Formulas) → 1 ≤ length (others fs)
closed nil = omega arith
closed (cons f fs) = omega arith

-- p is the step k of ps
module _ (ps : List Piece) (k : ℕ) (p : Piece) (is : p ≡ at ps k) where
  same_arity : (n : ℕ) → p.arity ≡ n → (at ps k).arity ≡ n
  same_arity n z = sym (ap (λ q. q.arity) is) ∙ z

  other_arity : (n : ℕ) → (p.arity ≡ n → ⊥) → (at ps k).arity ≡ n → ⊥
  other_arity n z e = z (ap (λ q. q.arity) is ∙ e)

  same_label : p.label.now ≡ (at ps k).label.now
  same_label = ap (λ q. q.label.now) is

  pub as_leaf : (f : Formula) → Denotes ps k f → p.arity ≡ 0 → p.label.now ≡ printed f
  as_leaf (over l nil) d z = same_label ∙ d.1 ∙ sym (append-nil l)
  as_leaf (over l (cons a fs)) d z = absurd (omega (arith, d.2, same_arity 0 z))

  pub from_leaf : k < length ps → p.arity ≡ 0 → Denotes ps k (over p.label.now nil)
  from_leaf inside z = let e = same_arity 0 z in (inside, sym same_label, sym e, subst (λ m. Arguments ps k (take m (at ps k).args) nil) (sym e) tt)

  -- with its two numbers
  module _ (x y : ℕ) (args : p.args ≡ x ∷ (y ∷ [])) where
    two : (at ps k).args ≡ x ∷ (y ∷ [])
    two = sym (ap (λ q. q.args) is) ∙ args

    given : (fs : Formulas) → Arguments ps k (take (at ps k).arity (at ps k).args) fs → Arguments ps k (take (at ps k).arity (x ∷ (y ∷ []))) fs
    given fs d = subst (λ l. Arguments ps k (take (at ps k).arity l) fs) two d

    pub falls_first : (f : Formula) → Denotes ps k f → (p.arity ≡ 0 → ⊥) → x < k
    falls_first (over l nil) d n = absurd (other_arity 0 n (sym d.2))
    falls_first (over l (cons a fs)) d n = (first_of ps k (at ps k).arity x (y ∷ []) a fs (given (cons a fs) d.3)).0

    pub falls_second : (f : Formula) → Denotes ps k f → (p.arity ≡ 0 → ⊥) → (p.arity ≡ 1 → ⊥) → y < k
    falls_second (over l nil) d n m = absurd (other_arity 0 n (sym d.2))
    falls_second (over l (cons a nil)) d n m = absurd (other_arity 1 m (sym d.2))
    falls_second (over l (cons a (cons b fs))) d n m = (second_of ps k (at ps k).arity x y [] a b fs (given (cons a (cons b fs)) d.3)).0

    -- an argument of a step that has one, and how much of the text it takes
    pub as_some : (f : Formula) → Denotes ps k f → (p.arity ≡ 0 → ⊥) → (a : Formula) × Denotes ps x a × (length p.label.now + 2 + length (printed a) ≤ length (printed f))
    as_some (over l nil) d n = absurd (other_arity 0 n (sym d.2))
    as_some (over l (cons a fs)) d n = (
      a,
      (first_of ps k (at ps k).arity x (y ∷ []) a fs (given (cons a fs) d.3)).1,
      omega (arith, ap length (same_label ∙ d.1), length-append l (40 ∷ (printed a ++ others fs)), length-append (printed a) (others fs), closed fs),
    )

    pub as_one : (f : Formula) → Denotes ps k f → p.arity ≡ 1 → (a : Formula) × Denotes ps x a × (p.label.now ++ 40 ∷ (printed a ++ 41 ∷ []) ≡ printed f)
    as_one (over l nil) d z = absurd (omega (arith, d.2, same_arity 1 z))
    as_one (over l (cons a nil)) d z =
        (a, (first_of ps k (at ps k).arity x (y ∷ []) a nil (given (cons a nil) d.3)).1, ap (λ t. t ++ 40 ∷ (printed a ++ 41 ∷ [])) (same_label ∙ d.1))
    as_one (over l (cons a (cons b fs))) d z = absurd (omega (arith, d.2, same_arity 1 z))

    pub as_two : (f : Formula) → Denotes ps k f → (p.arity ≡ 0 → ⊥) → (p.arity ≡ 1 → ⊥)
        → (a : Formula) × (b : Formula) × Denotes ps x a × Denotes ps y b × (p.label.now ++ 40 ∷ (printed a ++ 44 ∷ (printed b ++ 41 ∷ [])) ≡ printed f)
    as_two (over l nil) d n m = absurd (other_arity 0 n (sym d.2))
    as_two (over l (cons a nil)) d n m = absurd (other_arity 1 m (sym d.2))
    as_two (over l (cons a (cons b nil))) d n m = (
      a,
      b,
      (first_of ps k (at ps k).arity x (y ∷ []) a (cons b nil) (given (cons a (cons b nil)) d.3)).1,
      (second_of ps k (at ps k).arity x y [] a b nil (given (cons a (cons b nil)) d.3)).1,
      ap (λ t. t ++ 40 ∷ (printed a ++ 44 ∷ (printed b ++ 41 ∷ []))) (same_label ∙ d.1),
    )
    as_two (over l (cons a (cons b (cons e fs)))) d n m = absurd (no_third ps k (at ps k).arity x y a b e fs (given (cons a (cons b (cons e fs))) d.3))

    pub never : (f : Formula) → Denotes ps k f → 2 < p.arity → ⊥
    never (over l nil) d m = omega (arith, d.2, ap (λ q. q.arity) is)
    never (over l (cons a nil)) d m = omega (arith, d.2, ap (λ q. q.arity) is)
    never (over l (cons a (cons b nil))) d m = omega (arith, d.2, ap (λ q. q.arity) is)
    never (over l (cons a (cons b (cons e fs)))) d m = no_third ps k (at ps k).arity x y a b e fs (given (cons a (cons b (cons e fs))) d.3)

    -- the other way round
    taken : (n : ℕ) (fs : Formulas) → (at ps k).arity ≡ n → Arguments ps k (take n (x ∷ (y ∷ []))) fs → Arguments ps k (take (at ps k).arity (at ps k).args) fs
    taken n fs z d = subst (λ l. Arguments ps k (take (at ps k).arity l) fs) (sym two) (subst (λ m. Arguments ps k (take m (x ∷ (y ∷ []))) fs) (sym z) d)

    pub from_one : (a : Formula) → k < length ps → p.arity ≡ 1 → x < k → Denotes ps x a → Denotes ps k (over p.label.now (cons a nil))
    from_one a inside z below d = let e = same_arity 1 z in (inside, sym same_label, sym e, taken 1 (cons a nil) e (below, d, tt))

    pub from_two : (a b : Formula) → k < length ps → p.arity ≡ 2 → x < k → y < k → Denotes ps x a → Denotes ps y b → Denotes ps k (over p.label.now (cons a (cons b nil)))
    from_two a b inside z below under d h = let e = same_arity 2 z in (inside, sym same_label, sym e, taken 2 (cons a (cons b nil)) e (below, d, (under, h, tt)))
