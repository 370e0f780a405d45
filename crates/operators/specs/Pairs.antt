-- A pair of two sets that keep the laws keeps them.
use Rattle.std.specs.Prelude.{◌≡◌, ℕ, ◌-◌, ◌<◌, ◌≤◌, Bool, true, false, cond, List, nat_lt, refl}
use Rattle.std.proofs.Common.{arith}
use Rattle.std.proofs.lemmas.Bool.{ltb-true, ltb-false}
use Rattle.operators.specs.Bands.{mark, most_arguments, argument, SetMeaning, SetLaws}
use Rattle.operators.specs.Names.{Name, NameLaws, blank}
use Rattle.operators.specs.Pair.{pair_count, paired, pair_names}

-- what holds of each of three cases holds of the one that is taken
chosen : {X : Type 0} (P : X → Type 0) (p q : Bool) (x y z : X) → (p ≡ true → P x) → (p ≡ false → q ≡ true → P y) → (p ≡ false → q ≡ false → P z) → P (cond p x (cond q y z))
chosen P true q x y z f g h = f refl
chosen P false true x y z f g h = g refl refl
chosen P false false x y z f g h = h refl refl

same_bands : (p q : Bool) (a b : ℕ) (x y u v : ℕ) (same : ℕ → Type 0) → (((i : ℕ) → i < a → same i) → x ≡ u) → (((i : ℕ) → i < b → same i) → y ≡ v) →
    ((i : ℕ) → i < cond p a (cond q b 0) → same i) → cond p x (cond q y mark) ≡ cond p u (cond q v mark)
same_bands true q a b x y u v same f g h = f h
same_bands false true a b x y u v same f g h = g h
same_bands false false a b x y u v same f g h = refl

no_band : (p q : Bool) (a b x y i : ℕ) → (i < a → x ≡ mark) → (i < b → y ≡ mark) → i < cond p a (cond q b 0) → cond p x (cond q y mark) ≡ mark
no_band true q a b x y i f g h = f h
no_band false true a b x y i f g h = g h
no_band false false a b x y i f g h = refl

-- past the end of a pair a number is past the end of each
past : (m n : SetMeaning) → SetLaws m → (op : ℕ) → pair_count m n ≤ op → m.count ≤ op
past m n first op h = omega (arith, first.few)

pub paired_laws : (m n : SetMeaning) → SetLaws m → SetLaws n → SetLaws (paired m n)
paired_laws m n first second = record {
  few = omega arith;
  narrow = λ op. chosen (λ k. k ≤ most_arguments) (nat_lt op m.count) (nat_lt op (pair_count m n)) (m.arity op) (n.arity (op - m.count)) 0
      (λ _. first.narrow op) (λ _ _. second.narrow (op - m.count)) (λ _ _. omega arith);
  marked = λ op xs. chosen (λ k. k ≤ mark) (nat_lt op m.count) (nat_lt op (pair_count m n)) (m.band op xs) (n.band (op - m.count) xs) mark
      (λ _. first.marked op xs) (λ _ _. second.marked (op - m.count) xs) (λ _ _. omega arith);
  absent_arity = λ op h. chosen (λ k. k ≡ 0) (nat_lt op m.count) (nat_lt op (pair_count m n)) (m.arity op) (n.arity (op - m.count)) 0
      (λ e. first.absent_arity op (past m n first op h))
      (λ _ e. absurd (omega (arith, ltb-true op (pair_count m n) e, h))) (λ _ _. refl);
  absent_band = λ op xs h. chosen (λ k. k ≡ mark) (nat_lt op m.count) (nat_lt op (pair_count m n)) (m.band op xs) (n.band (op - m.count) xs) mark
      (λ e. first.absent_band op xs (past m n first op h))
      (λ _ e. absurd (omega (arith, ltb-true op (pair_count m n) e, h))) (λ _ _. refl);
  local = λ op xs ys same.
      same_bands (nat_lt op m.count) (nat_lt op (pair_count m n)) (m.arity op) (n.arity (op - m.count)) (m.band op xs) (n.band (op - m.count) xs) (m.band op ys) (n.band (op - m.count) ys)
      (λ i. argument xs i ≡ argument ys i) (first.local op xs ys) (second.local (op - m.count) xs ys) same;
  strict = λ op xs i h e.
      no_band (nat_lt op m.count) (nat_lt op (pair_count m n)) (m.arity op) (n.arity (op - m.count)) (m.band op xs) (n.band (op - m.count) xs) i
      (λ l. first.strict op xs i l e) (λ l. second.strict (op - m.count) xs i l e) h;
}

pub paired_spelt : (m n : SetMeaning) (xs ys : ℕ → List ℕ) → SetLaws m → NameLaws m xs → NameLaws n ys → NameLaws (paired m n) (pair_names m n xs ys)
paired_spelt m n xs ys few first second = record {
  offered = λ op h. chosen Name (nat_lt op m.count) (nat_lt op (pair_count m n)) (xs op) (ys (op - m.count)) blank
      (λ e. first.offered op (ltb-true op m.count e))
      (λ d e. second.offered (op - m.count) (omega (arith, ltb-false op m.count d, ltb-true op (pair_count m n) e)))
      (λ _ e. absurd (omega (arith, ltb-false op (pair_count m n) e, h)));
  absent = λ op h. chosen (λ w. w ≡ blank) (nat_lt op m.count) (nat_lt op (pair_count m n)) (xs op) (ys (op - m.count)) blank
      (λ e. first.absent op (past m n few op h))
      (λ _ e. absurd (omega (arith, ltb-true op (pair_count m n) e, h))) (λ _ _. refl);
}
