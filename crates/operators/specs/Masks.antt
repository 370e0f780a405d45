-- What a mask keeps, and its laws.
use Rattle.std.specs.Prelude.{◌≡◌, ℕ, zero, suc, ◌+◌, ◌-◌, ◌<◌, ◌≤◌, Bool, true, false, cond, List, [], ◌∷◌, ◌++◌, length, Some, None, Option, slice_index, refl}
use Rattle.std.proofs.Common.{sym, ap, ◌∙◌, subst, ⊎_elim, append_assoc, arith, add-one, length-append}
use Rattle.std.specs.List.{slice_get}
use Rattle.std.proofs.lemmas.List.{get_or_append_left, get_or-append_right}
use Rattle.std.proofs.lemmas.Option.{slice_get-get_or, slice_get_past}
use Rattle.std.proofs.lemmas.Bool.{cases_eq, cases_lt}
use Rattle.operators.specs.Bands.{mark, most_arguments, argument, SetMeaning, SetLaws}
use Rattle.operators.specs.Names.{Name, NameLaws}
use Rattle.operators.specs.Mask.{set_at, kept, behind, arity_at, band_at, name_at, masked, mask_names}

one_or_none : (b : Bool) (n : ℕ) → length (cond b (n ∷ []) []) ≤ 1
one_or_none true n = omega arith
one_or_none false n = omega arith

pub length_kept : (bits n : ℕ) → length (kept bits n) ≤ n
length_kept bits zero = omega arith
length_kept bits (suc n) =
    simp length-append (omega (arith, length_kept bits n, one_or_none (set_at bits n) n))

length_one : (b : Bool) (n : ℕ) → length (cond b (n ∷ []) []) ≡ cond b 1 0
length_one true n = refl
length_one false n = refl

-- one operator more
pub length_kept_more : (bits n : ℕ) → length (kept bits (n + 1)) ≡ length (kept bits n) + cond (set_at bits n) 1 0
length_kept_more bits n = rw (add-one n, length-append, length_one (set_at bits n) n)

-- what stands before an operator that is kept, and after it
kept_split : (bits i n : ℕ) → i < n → set_at bits i ≡ true → (rest : List ℕ) × (kept bits n ≡ kept bits i ++ (i ∷ rest))
kept_split bits i zero h e = absurd (omega arith)
kept_split bits i (suc n) h e =
    ⊎_elim
    (λ same. ([], rw (same) (rw same at (ap (λ b. kept bits i ++ cond b (i ∷ []) []) e))))
    (λ other. let r = kept_split bits i n (omega arith) e in
    (r.0 ++ cond (set_at bits n) (n ∷ []) [], ap (λ xs. xs ++ cond (set_at bits n) (n ∷ []) []) r.1 ∙ append_assoc (kept bits i) (i ∷ r.0) (cond (set_at bits n) (n ∷ []) [])))
    (cases_eq i n)

nth_seam : (xs ys : List ℕ) (y : ℕ) → slice_get (xs ++ (y ∷ ys)) (length xs) ≡ Some y
nth_seam [] ys y = refl
nth_seam (x ∷ xs) ys y = nth_seam xs ys y

pub kept_at : (bits i n : ℕ) → i < n → set_at bits i ≡ true → slice_get (kept bits n) (length (kept bits i)) ≡ Some i
kept_at bits i n h e =
    let r = kept_split bits i n h e in ap (λ xs. slice_get xs (length (kept bits i))) r.1 ∙ nth_seam (kept bits i) r.0 i

one_below : (b : Bool) (n j : ℕ) → slice_index (cond b (n ∷ []) []) j ≤ n
one_below true n zero = omega arith
one_below true n (suc j) = omega arith
one_below false n j = omega arith

-- a number that is kept is one of the set's
kept_below : (bits n i : ℕ) → i < length (kept bits n) → slice_index (kept bits n) i < n
kept_below bits zero i h = absurd (omega arith)
kept_below bits (suc n) i h =
    ⊎_elim
    (λ (l : i < length (kept bits n)). omega (arith, kept_below bits n i l, get_or_append_left (kept bits n) (cond (set_at bits n) (n ∷ []) []) 0 i l))
    (λ (l : length (kept bits n) ≤ i). omega (arith, one_below (set_at bits n) n (i - length (kept bits n)), get_or-append_right (kept bits n) (cond (set_at bits n) (n ∷ []) []) (length (kept bits n)) i 0 refl l))
    (cases_lt i (length (kept bits n)))

module _ (m : SetMeaning) (laws : SetLaws m) where
  narrow_at : (o : Option ℕ) → arity_at m o ≤ most_arguments
  narrow_at (Some k) = laws.narrow k
  narrow_at None = omega arith

  marked_at : (o : Option ℕ) (xs : List ℕ) → band_at m o xs ≤ mark
  marked_at (Some k) xs = laws.marked k xs
  marked_at None xs = omega arith

  local_at : (o : Option ℕ) (xs ys : List ℕ) → ((i : ℕ) → i < arity_at m o → argument xs i ≡ argument ys i) → band_at m o xs ≡ band_at m o ys
  local_at (Some k) xs ys same = laws.local k xs ys same
  local_at None xs ys same = refl

  strict_at : (o : Option ℕ) (xs : List ℕ) (i : ℕ) → i < arity_at m o → argument xs i ≡ mark → band_at m o xs ≡ mark
  strict_at (Some k) xs i h e = laws.strict k xs i h e
  strict_at None xs i h e = refl

  pub masked_laws : (bits : ℕ) → SetLaws (masked bits m)
  masked_laws bits = record {
    few = omega (arith, length_kept bits m.count, laws.few);
    narrow = λ op. narrow_at (behind bits m op);
    marked = λ op xs. marked_at (behind bits m op) xs;
    absent_arity = λ op h. ap (arity_at m) (slice_get_past (kept bits m.count) op h);
    absent_band = λ op xs h. ap (λ o. band_at m o xs) (slice_get_past (kept bits m.count) op h);
    local = λ op xs ys same. local_at (behind bits m op) xs ys same;
    strict = λ op xs i h e. strict_at (behind bits m op) xs i h e;
  }

pub masked_spelt : (m : SetMeaning) (names : ℕ → List ℕ) → NameLaws m names → (bits : ℕ) → NameLaws (masked bits m) (mask_names bits m names)
masked_spelt m names laws bits = record {
  offered = λ op h. subst (λ (o : Option ℕ). Name (name_at names o)) (sym (slice_get-get_or (kept bits m.count) op 0 h))
      (laws.offered (slice_index (kept bits m.count) op) (kept_below bits m.count op h));
  absent = λ op h. ap (name_at names) (slice_get_past (kept bits m.count) op h);
}
