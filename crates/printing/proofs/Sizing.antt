-- The size of a step's text, by its arity.
use Rattle.std.proofs.Common.{◌≡◌, ℕ, ◌+◌, ◌^◌, ◌<◌, ◌≤◌, cond, List, [], ◌∷◌, ◌++◌, length, get_or, Some, None, Option, sym, refl, ap, ◌∙◌, subst, ⊎_elim, arith, length-append, ltb, lt-ltb, le-ltb}
use Rattle.std.proofs.lemmas.List.{get_or_past}
use Rattle.std.specs.List.{slice_get}
use Rattle.std.proofs.lemmas.Bool.{cases_lt, cases_eq}
use Rattle.std.proofs.lemmas.List.{get_or_append_left}
use Rattle.std.proofs.Math.Seq.{get_or-append_seam}
use Rattle.std.proofs.lemmas.Option.{cond_some, slice_get_within, get_or_from_slice_get}
use Rattle.printing.specs.declared.pieces.Piece.{Piece}
use Rattle.printing.specs.Formulas.{Formula, over, nil, cons, printed, blank, at, Denotes, counted, added, Sized, Sizes}
use Rattle.printing.proofs.Standing.{pair_of, as_leaf, as_one, as_two, as_some, never, falls_first, falls_second, from_leaf, from_one, from_two}

fits : (n : ℕ) → n < 2 ^ 64 → counted n ≡ Some n
fits n h = ap (λ b. cond b (Some n) None) (lt-ltb n (2 ^ 64) h)

pub past : (n : ℕ) → 2 ^ 64 ≤ n → counted n ≡ None
past n h = ap (λ b. cond b (Some n) None) (le-ltb n (2 ^ 64) h)

-- a length counted later is the whole length counted
pub added-counted : (n m : ℕ) → added n (counted m) ≡ counted (n + m)
added-counted n m =
    ⊎_elim (λ h. ap (added n) (fits m h)) (λ h. ap (added n) (past m h) ∙ sym (past (n + m) (omega arith))) (cases_lt m (2 ^ 64))

pub counted_some : (n m : ℕ) → ◌≡◌ {A = Option ℕ} (counted n) (Some m) → m ≡ n
counted_some n m h = sym (cond_some (ltb n (2 ^ 64)) n m h).1

added_some : (n : ℕ) (r : Option ℕ) (s : ℕ) → ◌≡◌ {A = Option ℕ} (added n r) (Some s) → (m : ℕ) × (r ≡ Some m) × (s ≡ n + m)
added_some n None s h = cc
added_some n (Some m) s h = (m, refl, counted_some (n + m) s h)

-- the size r of an argument x of the step k: none where it is no earlier step
pub record Argument (ps : List Piece) (k x : ℕ) (r : Option ℕ) : Type 0 where
  pub earlier : x < k → Sized ps x r
  pub later : k ≤ x → r ≡ None

under : (ps : List Piece) (k x : ℕ) (r : Option ℕ) → Argument ps k x r → (m : ℕ) → r ≡ Some m → x < k
under ps k x r p m h = ⊎_elim (λ below. below) (λ above. let e : ◌≡◌ {A = Option ℕ} None (Some m) = sym (p.later above) ∙ h in cc) (cases_lt x k)

-- the step k of ps, p, with its two numbers
module _ (ps : List Piece) (k : ℕ) (p : Piece) (is : p ≡ at ps k) (inside : k < length ps) where
  pub sized_leaf : p.arity ≡ 0 → length p.label.now < 2 ^ 64 → Sized ps k (Some (length p.label.now))
  sized_leaf z small = record {
    exact = λ f d. sym (fits _ small) ∙ ap (λ l. counted (length l)) (as_leaf ps k p is f d z);
    stands = λ n h. (over p.label.now nil, from_leaf ps k p is inside z);
  }

  module _ (x y : ℕ) (args : p.args ≡ x ∷ (y ∷ [])) where
    -- what is counted of a name and its first argument
    first_counted : (r : Option ℕ) → Argument ps k x r → x < k → (a : Formula) → Denotes ps x a → added (length p.label.now + 2) r ≡ counted (length p.label.now + 2 + length (printed a))
    first_counted r h below a d = ap (added (length p.label.now + 2)) ((h.earlier below).exact a d) ∙ added-counted (length p.label.now + 2) (length (printed a))

    pub sized_one : (r : Option ℕ) (one : ℕ) → p.arity ≡ 1 → Argument ps k x r → ◌≡◌ {A = Option ℕ} (Some one) (added (length p.label.now + 2) r) → Sized ps k (Some one)
    sized_one r one z h s =
        let n = length p.label.now in
        let some : p.arity ≡ 0 → ⊥ = λ e. omega arith in
        record {
          exact = λ f d.
              let a = as_one ps k p is x y args f d z in
              let e : n + 2 + length (printed a.0) ≡ length (printed f) = omega (arith, simp length-append at (ap length a.2)) in
              s ∙ first_counted r h (falls_first ps k p is x y args f d some) a.0 a.1 ∙ ap counted e;
          stands = λ m g.
              let q = added_some (n + 2) r one (sym s) in
              let below = under ps k x r h q.0 q.1 in
              let a = (h.earlier below).stands q.0 q.1 in
              (over p.label.now (cons a.0 nil), from_one ps k p is x y args a.0 inside z below a.1);
        }

    pub sized_two : (r q : Option ℕ) (one : ℕ) (size : Option ℕ) → p.arity ≡ 2 → Argument ps k x r → Argument ps k y q → ◌≡◌ {A = Option ℕ} (Some one) (added (length p.label.now + 2) r) → size ≡ added (one + 1) q → Sized ps k size
    sized_two r q one size z h o s t =
        let n = length p.label.now in
        let some : p.arity ≡ 0 → ⊥ = λ e. omega arith in
        let more : p.arity ≡ 1 → ⊥ = λ e. omega arith in
        record {
          exact = λ f d.
              let a = as_two ps k p is x y args f d some more in
              let e : n + (1 + (length (printed a.0) + (1 + (length (printed a.1) + 1)))) ≡ length (printed f) = omega (arith, simp length-append at (ap length a.4)) in
              let c = first_counted r h (falls_first ps k p is x y args f d some) a.0 a.2 in
              let whole : one ≡ n + 2 + length (printed a.0) = counted_some _ one (sym (s ∙ c)) in
              let all : one + 1 + length (printed a.1) ≡ length (printed f) = omega arith in
              t ∙ ap (added (one + 1)) ((o.earlier (falls_second ps k p is x y args f d some more)).exact a.1 a.3) ∙ added-counted (one + 1) (length (printed a.1)) ∙ ap counted all;
          stands = λ m g.
              let u = added_some (n + 2) r one (sym s) in
              let v = added_some (one + 1) q m (sym t ∙ g) in
              let below = under ps k x r h u.0 u.1 in
              let lower = under ps k y q o v.0 v.1 in
              let a = (h.earlier below).stands u.0 u.1 in
              let b = (o.earlier lower).stands v.0 v.1 in
              (over p.label.now (cons a.0 (cons b.0 nil)), from_two ps k p is x y args a.0 b.0 inside z below lower a.1 b.1);
        }

    -- a step whose first argument is none or too long
    pub sized_none : (r : Option ℕ) → (p.arity ≡ 0 → ⊥) → Argument ps k x r → ◌≡◌ {A = Option ℕ} None (added (length p.label.now + 2) r) → Sized ps k None
    sized_none r z h s =
        let n = length p.label.now in
        record {
          exact = λ f d.
              let a = as_some ps k p is x y args f d z in
              let c : counted (n + 2 + length (printed a.0)) ≡ None = sym (s ∙ first_counted r h (falls_first ps k p is x y args f d z) a.0 a.1) in
              ⊎_elim
              (λ few. let e : ◌≡◌ {A = Option ℕ} (Some (n + 2 + length (printed a.0))) None = sym (fits (n + 2 + length (printed a.0)) few) ∙ c in cc)
              (λ many. sym (past (length (printed f)) (omega (arith, a.2)))) (cases_lt (n + 2 + length (printed a.0)) (2 ^ 64));
          stands = λ m g. cc;
        }

    -- a step of more arguments than there are numbers for
    pub sized_many : 2 < p.arity → Sized ps k None
    sized_many m = record { exact = λ f d. absurd (never ps k p is x y args f d m); stands = λ n g. cc }

pub argument : (ps : List Piece) (x : ℕ) (r : Option ℕ) (sizes : List (Option ℕ)) → Sizes ps (length sizes) sizes → r ≡ get_or sizes x None → Argument ps (length sizes) x r
argument ps x r sizes before is = record {
  earlier = λ below. subst (Sized ps x) (sym is) (before x below);
  later = λ above. is ∙ get_or_past sizes x None above;
}

-- one more entry
pub sizes_more : (ps : List Piece) (xs : List (Option ℕ)) (r : Option ℕ) → Sizes ps (length xs) xs → Sized ps (length xs) r → Sizes ps (length (xs ++ r ∷ [])) (xs ++ r ∷ [])
sizes_more ps xs r before here j h =
    let l = length-append xs (r ∷ []) in
    ⊎_elim
    (λ (same : j ≡ length xs). subst (λ k. Sized ps k (get_or (xs ++ r ∷ []) k None)) (sym same) (subst (Sized ps (length xs)) (sym (get_or-append_seam xs r [] None)) here))
    (λ other. let k : j < length xs = omega arith in subst (Sized ps j) (sym (get_or_append_left xs (r ∷ []) None j k)) (before j k))
    (cases_eq j (length xs))

-- p is the step behind those of the sizes
module _ (ps : List Piece) (p : Piece) (sizes : List (Option ℕ)) (here : slice_get ps (length sizes) ≡ Some p) where
  inside : length sizes < length ps
  inside = slice_get_within ps (length sizes) p here

  is : p ≡ at ps (length sizes)
  is = sym (get_or_from_slice_get ps (length sizes) p blank here)

  pub step_leaf : p.arity ≡ 0 → length p.label.now < 2 ^ 64 → Sized ps (length sizes) (Some (length p.label.now))
  step_leaf z small = sized_leaf ps (length sizes) p is inside z small

  pub step_none : (r : Option ℕ) → Sizes ps (length sizes) sizes → length p.args ≡ 2 → (p.arity ≡ 0 → ⊥) → r ≡ get_or sizes (get_or p.args 0 0) None
      → ◌≡◌ {A = Option ℕ} None (added (length p.label.now + 2) r) → Sized ps (length sizes) None
  step_none r before both z e s = sized_none ps (length sizes) p is inside _ _ (pair_of p.args both) r z (argument ps _ r sizes before e) s

  pub step_one : (r : Option ℕ) (one : ℕ) → Sizes ps (length sizes) sizes → length p.args ≡ 2 → p.arity ≡ 1 → r ≡ get_or sizes (get_or p.args 0 0) None
      → ◌≡◌ {A = Option ℕ} (Some one) (added (length p.label.now + 2) r) → Sized ps (length sizes) (Some one)
  step_one r one before both z e s = sized_one ps (length sizes) p is inside _ _ (pair_of p.args both) r one z (argument ps _ r sizes before e) s

  pub step_two : (r q : Option ℕ) (one : ℕ) (size : Option ℕ) → Sizes ps (length sizes) sizes → length p.args ≡ 2 → p.arity ≡ 2
      → r ≡ get_or sizes (get_or p.args 0 0) None → q ≡ get_or sizes (get_or p.args 1 0) None → ◌≡◌ {A = Option ℕ} (Some one) (added (length p.label.now + 2) r) → size ≡ added (one + 1) q
      → Sized ps (length sizes) size
  step_two r q one size before both z e f s t =
      sized_two ps (length sizes) p is inside _ _ (pair_of p.args both) r q one size z (argument ps _ r sizes before e) (argument ps _ q sizes before f) s t

  pub step_many : length p.args ≡ 2 → 2 < p.arity → Sized ps (length sizes) None
  step_many both m = sized_many ps (length sizes) p is inside _ _ (pair_of p.args both) m

pub ruleset step_sized = (step_leaf, step_none, step_one, step_two, step_many)
