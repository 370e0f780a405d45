-- The first place that passes a test.
use Rattle.std.proofs.Common.{◌≡◌, ℕ, zero, suc, ◌<◌, ◌≤◌, Bool, true, false, cond, Some, None, Option, MatchOption, sym, refl, ap, subst, ⊎_elim, arith}
use Rattle.std.proofs.lemmas.Bool.{cases_eq}
use Rattle.books.specs.Refusal.{first, sooner}

none-parts : (o : Option ℕ) (b : Bool) (n : ℕ) → sooner o (cond b (Some n) None) ≡ None → (o ≡ None) × (b ≡ false)
none-parts (Some q) b n e = let z : ◌≡◌ {A = ℕ} 0 1 = cc in absurd (omega arith)
none-parts None true n e = let z : ◌≡◌ {A = ℕ} 0 1 = cc in absurd (omega arith)
none-parts None false n e = (refl, refl)

module _ (test : ℕ → Bool) where
  -- the first is found here, and stays
  pub first-here : (p n : ℕ) → p < n → first test p ≡ None → test p ≡ true → first test n ≡ Some p
  first-here p zero h e f = absurd (omega arith)
  first-here p (suc n) h e f =
      ⊎_elim
      (λ (same : p ≡ n). let e' : first test n ≡ None = subst (λ k. first test k ≡ None) same e in
      let f' : test n ≡ true = subst (λ k. test k ≡ true) same f in rw (e', f') (ap Some (sym same)))
      (λ other. rw (first-here p n (omega arith) e f))
      (cases_eq p n)

  -- there is none
  pub first-none : (n : ℕ) → first test n ≡ None → (p : ℕ) → p < n → test p ≡ false
  first-none zero e p h = absurd (omega arith)
  first-none (suc n) e p h =
      let parts = none-parts (first test n) (test n) n e in
      ⊎_elim
      (λ (same : p ≡ n). subst (λ k. test k ≡ false) (sym same) parts.1)
      (λ other. first-none n parts.0 p (omega arith))
      (cases_eq p n)

-- a search from below finds it
module _ (test : ℕ → Bool) where
  none_yet : (n : ℕ) → ((p : ℕ) → 0 ≤ p → p < n → test p ≡ false) → first test n ≡ None
  none_yet zero passed = refl
  none_yet (suc n) passed = rw (none_yet n (λ p l h. passed p l (omega arith)), passed n (omega arith) (omega arith))

  pub first_is : (n : ℕ) (r : Option ℕ) → MatchOption r ((p : ℕ) → 0 ≤ p → p < n → test p ≡ false) (λ i. (0 ≤ i) × (i < n) × (test i ≡ true) × ((p : ℕ) → 0 ≤ p → p < i → test p ≡ false)) → r ≡ first test n
  first_is n None passed = sym (none_yet n passed)
  first_is n (Some i) at = sym (first-here test i n at.1 (none_yet i at.3) at.2)
