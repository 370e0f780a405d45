-- The laws of the two measures, and folds over weights.
use Rattle.std.specs.Prelude.{◌≡◌, ℕ, zero, suc, ◌+◌, ◌<◌, ◌≤◌, max, true, ◌&&◌, List, [], ◌∷◌, length, get_or, take, replicate, fold, sum, nat_le, nat_lt, slice_index_or, slice_set, refl}
use Rattle.std.proofs.Common.{sym, ap, ◌∙◌, arith}
use Rattle.std.proofs.lemmas.Bool.{and_parts, leb-true}
use Rattle.std.proofs.lemmas.List.{take_more, take_all, map-append}
use Rattle.std.proofs.lemmas.List.Sums.{fold_push}
use Rattle.measures.specs.Lists.{In, here, there}
use Rattle.measures.specs.Measures.{NoHeavier, MeasureLaws}
use Rattle.measures.specs.Values.{values}
use Rattle.measures.specs.declared.weight.Weight.{Weight}
use Rattle.measures.specs.Charge.{charged, chargeable, Charges}
use Rattle.measures.specs.Depth.{depth}

-- a fold that grows with its start and with each element
module _ (f : ℕ → ℕ → ℕ) (grows : (a b x y : ℕ) → a ≤ b → x ≤ y → f a x ≤ f b y) where
  folded_mono : (a b : ℕ) (xs ys : List ℕ) → a ≤ b → NoHeavier xs ys → fold f a xs ≤ fold f b ys
  folded_mono a b [] [] h k = h
  folded_mono a b [] (y ∷ ys) h k = absurd k
  folded_mono a b (x ∷ xs) [] h k = absurd k
  folded_mono a b (x ∷ xs) (y ∷ ys) h k = folded_mono (f a x) (f b y) xs ys (grows a b x y h k.0) k.1

-- a fold that is at least its start and each element
module _ (f : ℕ → ℕ → ℕ) (start : (a x : ℕ) → a ≤ f a x) (element : (a x : ℕ) → x ≤ f a x) where
  start_le : (a : ℕ) (xs : List ℕ) → a ≤ fold f a xs
  start_le a [] = omega arith
  start_le a (x ∷ xs) = let s = start a x in omega (arith, start_le (f a x) xs)

  in_le : (a u : ℕ) (xs : List ℕ) → In u xs → u ≤ fold f a xs
  in_le a u [] i = elim i [ ]
  in_le a u (x ∷ xs) (here e) = let s = element a x in omega (arith, start_le (f a x) xs)
  in_le a u (x ∷ xs) (there i) = in_le (f a x) u xs i

in_sum : (u : ℕ) (xs : List ℕ) → In u xs → u ≤ sum xs
in_sum u xs i = in_le ◌+◌ (λ a x. omega arith) (λ a x. omega arith) 0 u xs i

in_heaviest : (u : ℕ) (xs : List ℕ) → In u xs → u ≤ fold max 0 xs
in_heaviest u xs i = in_le max (λ a x. omega arith) (λ a x. omega arith) 0 u xs i

pub ones : (n : ℕ) → Charges (replicate n 1)
ones zero i = (omega arith, omega arith)
ones (suc n) zero = (omega arith, omega arith)
ones (suc n) (suc i) = ones n i

pub charged_laws : (operators channels : List ℕ) → Charges operators → Charges channels → MeasureLaws (charged operators channels)
charged_laws operators channels o c = record {
  channel = λ i h. ((c i).0, omega (arith, c i));
  operator = λ op us h a. (omega (arith, o op), omega arith);
  monotone = λ op us vs h a b k. omega (arith, folded_mono ◌+◌ (λ a b x y p q. omega arith) 0 0 us vs (omega arith) k);
  strict = λ op us u h a i l. omega (arith, o op, in_sum u us i);
  carried = λ op us h a i. omega (arith, o op, in_sum 1000001 us i);
}

pub depth_laws : MeasureLaws depth
depth_laws = record {
  channel = λ i h. (omega arith, omega arith);
  operator = λ op us h a. (omega arith, omega arith);
  monotone = λ op us vs h a b k. omega (arith, folded_mono max (λ a b x y p q. omega arith) 0 0 us vs (omega arith) k);
  strict = λ op us u h a i l. omega (arith, in_heaviest u us i);
  carried = λ op us h a i. omega (arith, in_heaviest 1000001 us i);
}

-- a fold over a list of weights goes on by one
module _ (f : ℕ → ℕ → ℕ) where
  pub values_more : (ws : List Weight) (i : ℕ) (w : Weight) → i < length ws → w ≡ slice_index_or ws i w → fold f 0 (values (take (i + 1) ws)) ≡ f (fold f 0 (values (take i ws))) w.value
  values_more ws i w h read =
      ap (λ vs. fold f 0 (values vs)) (take_more ws i w h)
      ∙ (ap (fold f 0) (map-append (λ (v : Weight). v.value) (take i ws) (slice_index_or ws i w ∷ []))
      ∙ (fold_push f 0 (values (take i ws)) (get_or ws i w).value ∙ ap (λ (v : Weight). f (fold f 0 (values (take i ws))) v.value) (sym read)))

pub values_all : (ws : List Weight) (i : ℕ) → length ws ≤ i → values (take i ws) ≡ values ws
values_all ws i h = ap values (take_all i ws h)

pub values_take : (n : ℕ) (ws : List Weight) → values (take n ws) ≡ take n (values ws)
values_take zero ws = refl
values_take (suc n) [] = refl
values_take (suc n) (w ∷ ws) = ap (λ vs. w.value ∷ vs) (values_take n ws)

charges_set : (cs : List ℕ) (k v : ℕ) → Charges cs → 1 ≤ v → v ≤ 1000 → Charges (slice_set cs k v)
charges_set [] k v ok l m i = ok i
charges_set (x ∷ cs) zero v ok l m zero = (l, m)
charges_set (x ∷ cs) zero v ok l m (suc i) = ok (suc i)
charges_set (x ∷ cs) (suc k) v ok l m zero = ok zero
charges_set (x ∷ cs) (suc k) v ok l m (suc i) = charges_set cs k v (λ j. ok (suc j)) l m i

-- a charge in range keeps every charge in range
pub charges_recharged : (n : ℕ) (cs : List ℕ) (k v : ℕ) → Charges cs → true ≡ chargeable n k v → Charges (slice_set cs k v)
charges_recharged n cs k v ok e =
    let a = and_parts (nat_lt k n) (nat_le 1 v && nat_le v 1000) (sym e) in
    let b = and_parts (nat_le 1 v) (nat_le v 1000) a.1 in
    charges_set cs k v ok (leb-true 1 v b.0) (leb-true v 1000 b.1)
