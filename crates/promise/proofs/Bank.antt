-- What a bank keeps true, for any kind of key: a part without a goal, and a part for each goal that is open.
use Rattle.std.proofs.Common.{◌≡◌, ℕ, ◌<◌, ◌≤◌, min, ◌⊎◌, List, [], ◌∷◌, ◌++◌, map, length, sym, refl, ap, subst, inl, inr, append_assoc, append-nil, arith}
use native.Mathlib.Decide.{dec_lt, dec_le}
use Rattle.std.proofs.lemmas.List.{length-map}
use Rattle.measures.specs.Measures.{beyond}
use Rattle.formulas.specs.Setting.{Setting}
use Rattle.formulas.specs.Formula.{Formula, weight, Apart}
use Rattle.formulas.specs.Steps.{most_places}
use Rattle.histories.specs.Levels.{UnderBar, Over, New, KeysNumber}
use Rattle.search.specs.Lists.{In, here, there, dec_in}
use Rattle.search.proofs.Lists.{choose-by, in_none, in_split, map-append}
use Rattle.promise.proofs.Lists.{keep, in_left, in_right, in_cases, in_map_back, in_keep, in_keep_back, apart-append, no_more}
use Rattle.promise.proofs.Search.{Fresh, dec_fresh, least, level_of, FitsAt, dec_fits_at, fitting, unseen, dec_weighs, new-places}
use Rattle.promise.proofs.Best.{args, Forming, Complete, Lowest, level_below, level_own}

-- each one's arguments stand before it
abbrev pub Grounded : List Formula → List Formula → Type 0
Grounded earlier [] = Unit {0}
Grounded earlier (x ∷ xs) = ((a : Formula) → In a (args x) → In a earlier) × Grounded (earlier ++ (x ∷ [])) xs

-- ── the level, the fitting ones and the new places ──

least_le : (E : Setting) (fs : List Formula) (f : Formula) → In f fs → least E fs ≤ weight E f
unfolding least
least_le E [] f h = in_none h
least_le E (g ∷ fs) f (here e) = let r : weight E f ≡ weight E g = ap (weight E) e in omega arith
least_le E (g ∷ fs) f (there h) = let r = least_le E fs f h in omega arith

least_met : (E : Setting) (fs : List Formula) → least E fs < beyond → (f : Formula) × In f fs × (weight E f ≡ least E fs)
unfolding least
least_met E [] small = absurd (omega arith)
least_met E (g ∷ fs) small = go (least_met E fs) (dec_le (weight E g) (least E fs))
  where
    go : (least E fs < beyond → (f : Formula) × In f fs × (weight E f ≡ least E fs)) → Dec (weight E g ≤ least E fs) → (f : Formula) × In f (g ∷ fs) × (weight E f ≡ min (weight E g) (least E fs))
    go r (yes l) = (g, here refl, omega arith)
    go r (no l) = let t = r (omega arith) in let e = t.2 in (t.0, there t.1, omega arith)

pub level-lowest : (E : Setting) {K : Type 0} (same? : Discrete K) (key : Formula → K) (bank cands : List Formula) → Lowest E key bank cands (level_of E same? key bank cands)
unfolding level_of
level-lowest E same? key bank cands c h fresh = least_le E _ c (in_keep (dec_fresh same? key bank) h fresh)

pub level_met : (E : Setting) {K : Type 0} (same? : Discrete K) (key : Formula → K) (bank cands : List Formula) → level_of E same? key bank cands < beyond → (c : Formula) × In c cands × Fresh key bank c × (weight E c ≡ level_of E same? key bank cands)
unfolding level_of
level_met E same? key bank cands small =
    let r = least_met E (keep (dec_fresh same? key bank) cands) small in
    let t = in_keep_back (dec_fresh same? key bank) cands r.1 in
    (r.0, t.0, t.1, r.2)

pub fitting_is : (E : Setting) {K : Type 0} (key : Formula → K) {Goal : K → Type 0} (goal : (x : K) → Dec (Goal x)) (cands : List Formula) (w : ℕ) (c : Formula) → In c (fitting E key goal cands w) → In c cands × FitsAt E key Goal w c
unfolding fitting
fitting_is E key goal cands w c h = in_keep_back (dec_fits_at E key goal w) cands h

pub fitting_none : (E : Setting) {K : Type 0} (key : Formula → K) {Goal : K → Type 0} (goal : (x : K) → Dec (Goal x)) (cands : List Formula) (w : ℕ) → [] ≡ fitting E key goal cands w → (c : Formula) → In c cands → FitsAt E key Goal w c → ⊥
unfolding fitting
fitting_none E key goal cands w e c h k = in_none (subst (λ l. In c l) (sym e) (in_keep (dec_fits_at E key goal w) h k))

module _ {K : Type 0} (same? : Discrete K) (key : Formula → K) where
  unseen_in : (seen : List K) (fs : List Formula) (g : Formula) → In g (unseen same? key seen fs) → In g fs
  unfolding unseen
  unseen_in seen [] g = λ h. in_none h
  unseen_in seen (f ∷ fs) g =
      let r = unseen_in seen fs g in
      let t = unseen_in (key f ∷ seen) fs g in
      choose-by (λ l. In g l → In g (f ∷ fs)) (dec_in same? (key f) seen) (λ q h. there (r h)) (λ n h. in_split (λ e. here e) (λ k. there (t k)) h)

  unseen_new : (seen : List K) (fs : List Formula) (g : Formula) → In g (unseen same? key seen fs) → In (key g) seen → ⊥
  unfolding unseen
  unseen_new seen [] g = λ h. in_none h
  unseen_new seen (f ∷ fs) g =
      let r = unseen_new seen fs g in
      let t = unseen_new (key f ∷ seen) fs g in
      choose-by (λ l. In g l → In (key g) seen → ⊥) (dec_in same? (key f) seen) (λ q. r)
      (λ n h s. in_split (λ e. n (subst (λ u. In (key u) seen) e s)) (λ k. t k (there s)) h)

  unseen_apart : (seen : List K) (fs : List Formula) → Apart (map key (unseen same? key seen fs))
  unfolding unseen
  unseen_apart seen [] = tt
  unseen_apart seen (f ∷ fs) =
      let r = unseen_apart seen fs in
      let t = unseen_apart (key f ∷ seen) fs in
      choose-by {A = List Formula} (λ l. Apart (map key l)) (dec_in same? (key f) seen) (λ q. r)
      (λ n. (λ h. let m = in_map_back (key) _ h in unseen_new (key f ∷ seen) fs m.0 m.1 (here (sym m.2)), t))

  unseen_all : (seen : List K) (fs : List Formula) (g : Formula) → In g fs → In (key g) seen ⊎ In (key g) (map key (unseen same? key seen fs))
  unfolding unseen
  unseen_all seen [] g h = in_none h
  unseen_all seen (f ∷ fs) g h =
      let r = unseen_all seen fs g in
      let t = unseen_all (key f ∷ seen) fs g in
      let P : List Formula → Type 0 = λ l. In (key g) seen ⊎ In (key g) (map key l) in
      choose-by {A = List Formula} P (dec_in same? (key f) seen)
      (λ q. in_split {C = P (unseen same? key seen fs)} (λ e. inl (subst (λ u. In (key u) seen) (sym e) q)) r h)
      (λ n. in_split {C = P (f ∷ unseen same? key (key f ∷ seen) fs)} (λ e. inr (here (ap (key) e)))
      (λ k. elim (t k) [ inl s ↦ in_split {C = P (f ∷ unseen same? key (key f ∷ seen) fs)} (λ e. inr (here e)) (λ s'. inl s') s | inr u ↦ inr (there u) ]) h)

pub record NewPlaces {K : Type 0} (E : Setting) (key : Formula → K) (bank cands : List Formula) (w : ℕ) (new : List Formula) : Type 0 where
  pub candidate : (g : Formula) → In g new → In g cands
  pub weighs : (g : Formula) → In g new → weight E g ≡ w
  pub fresh : (g : Formula) → In g new → Fresh key bank g
  pub apart : Apart (map key new)
  pub all : (c : Formula) → In c cands → weight E c ≡ w → In (key c) (map key bank) ⊎ In (key c) (map key new)

pub new-places-new : (E : Setting) {K : Type 0} (same? : Discrete K) (key : Formula → K) (bank cands : List Formula) (w : ℕ) → NewPlaces E key bank cands w (new-places E same? key bank cands w)
unfolding new-places
new-places-new E {K} same? key bank cands w =
    let kept : List Formula = keep (dec_weighs E w) cands in
    let seen : List K = map key bank in
    record {
      candidate = λ g h. (in_keep_back (dec_weighs E w) cands (unseen_in same? key seen kept g h)).0;
      weighs = λ g h. (in_keep_back (dec_weighs E w) cands (unseen_in same? key seen kept g h)).1;
      fresh = λ g h. unseen_new same? key seen kept g h;
      apart = unseen_apart same? key seen kept;
      all = λ c h e. unseen_all same? key seen kept c (in_keep (dec_weighs E w) h e);
    }

-- ── what a bank keeps true, whatever the goal ──

-- each weighs no more than those behind it
abbrev pub Rising : Setting → List Formula → Type 0
Rising E [] = Unit {0}
Rising E (x ∷ xs) = ((y : Formula) → In y xs → weight E x ≤ weight E y) × Rising E xs

rising_append : (E : Setting) (w : ℕ) (xs ys : List Formula) → Rising E xs → ((x : Formula) → In x xs → weight E x ≤ w) → ((y : Formula) → In y ys → weight E y ≡ w) → Rising E (xs ++ ys)
rising_append E w [] [] r a b = tt
rising_append E w [] (y ∷ ys) r a b = (λ z h. let p = b y (here refl) in let q = b z (there h) in omega arith, rising_append E w [] ys tt a (λ z h. b z (there h)))
rising_append E w (x ∷ xs) ys r a b = (
  λ z h. elim (in_cases xs h) [ inl i ↦ r.0 z i | inr i ↦ (let p = a x (here refl) in let q = b z i in omega arith) ],
  rising_append E w xs ys r.1 (λ z h. a z (there h)) b,
)

-- The bank holds exactly the keys that have formulas of weight at most v, each with a lightest one.
pub record Sound {K : Type 0} (E : Setting) (Ok : Formula → Type 0) (key : Formula → K) (v : ℕ) (bank : List Formula) : Type 0 where
  pub formed : (f : Formula) → In f bank → Ok f
  pub light : (f : Formula) → In f bank → weight E f ≤ v
  pub best : (f g : Formula) → In f bank → Ok g → key g ≡ key f → weight E f ≤ weight E g
  pub apart : Apart (map key bank)
  pub covers : (g : Formula) → Ok g → weight E g ≤ v → In (key g) (map key bank)
  pub grounded : Grounded [] bank
  pub rising : Rising E bank

pub sound_none : (E : Setting) {K : Type 0} (Ok : Formula → Type 0) (key : Formula → K) → Forming E Ok key → Sound E Ok key 0 []
sound_none E Ok key forming = record {
  formed = λ f h. in_none h;
  light = λ f h. in_none h;
  best = λ f g h wf e. in_none h;
  apart = tt;
  covers = λ g wf l. let m = forming.least g wf in absurd (omega arith);
  grounded = tt;
  rising = tt;
}

-- and for a goal that is open: what fits weighs more than v
abbrev pub Unfit : {K : Type 0} → Setting → (Formula → Type 0) → (Formula → K) → (K → Type 0) → ℕ → Type 0
Unfit E Ok key Goal v = (g : Formula) → Ok g → Goal (key g) → v < weight E g

pub unfit_none : (E : Setting) {K : Type 0} (Ok : Formula → Type 0) (key : Formula → K) → Forming E Ok key → (Goal : K → Type 0) → Unfit E Ok key Goal 0
unfit_none E Ok key forming Goal g wf fits = forming.least g wf

pub grounded_append : (earlier xs ys : List Formula) → Grounded earlier xs → ((y : Formula) → In y ys → (a : Formula) → In a (args y) → In a (earlier ++ xs)) → Grounded earlier (xs ++ ys)
grounded_append earlier [] [] g k = tt
grounded_append earlier [] (y ∷ ys) g k = (
  λ a i. rw append-nil at (k y (here refl) a i),
  grounded_append (earlier ++ (y ∷ [])) [] ys tt (λ z h a i. in_left [] (in_left (y ∷ []) (rw append-nil at (k z (there h) a i)))),
)
grounded_append earlier (x ∷ xs) ys g k =
    (g.0, grounded_append (earlier ++ (x ∷ [])) xs ys g.1 (λ y h a i. rw append_assoc (k y h a i)))

module _ (E : Setting) {K : Type 0} (Ok : Formula → Type 0) (key : Formula → K) (v : ℕ) (bank : List Formula) (s : Sound E Ok key v bank) where
  -- the keys of a sound bank are those of the formulas that weigh at most v
  pub sound_keys : KeysNumber E Ok key v (length bank)
  sound_keys = record {
    keys = map key bank;
    number = length-map bank key;
    apart = s.apart;
    light = λ x h. let r = in_map_back key bank h in record { by = r.0; formed = s.formed r.0 r.1; is = sym r.2; light = s.light r.0 r.1 };
    all = s.covers;
  }

  -- a key is new where no formula that has it weighs at most v
  pub fresh-new : (g : Formula) → Ok g → Fresh key bank g → New E Ok key v g
  fresh-new g wf fresh = record { formed = wf; heavier = λ f ff e. go f ff e (dec_lt v (weight E f)) }
    where
      go : (f : Formula) → Ok f → key f ≡ key g → Dec (v < weight E f) → v < weight E f
      go f ff e (yes l) = l
      go f ff e (no n) = absurd (fresh (subst (λ x. In x (map key bank)) e (s.covers f ff (omega arith))))

  new-fresh : (g : Formula) → New E Ok key v g → Fresh key bank g
  new-fresh g n h =
      let r = in_map_back key bank h in
      let a = s.light r.0 r.1 in
      let b = n.heavier r.0 (s.formed r.0 r.1) (sym r.2) in
      omega arith

  -- where the goal is open, no key of the bank meets it
  pub bank_unfit : (Goal : K → Type 0) → Unfit E Ok key Goal v → (x : K) → Goal x → In x (map key bank) → ⊥
  bank_unfit Goal unfit x fits h =
      let r = in_map_back key bank h in
      let a = s.light r.0 r.1 in
      let b = unfit r.0 (s.formed r.0 r.1) (subst Goal r.2 fits) in
      omega arith

pub over_512 : (E : Setting) {K : Type 0} (Ok : Formula → Type 0) (key : Formula → K) (Goal : K → Type 0) (bound w c : ℕ) → UnderBar E Ok key Goal bound w → KeysNumber E Ok key w c → most_places < c → Over E Ok key Goal bound
over_512 E Ok key Goal bound w c under k many = record {
  keys = k.keys;
  many = let e = k.number in omega arith;
  apart = k.apart;
  light = λ x h.
      let r = k.light x h in
      let l = r.light in
      let m = under.limited in
      record { by = r.by; formed = r.formed; is = r.is; under = record { limited = omega arith; lighter = λ g wf fits. let a = under.lighter g wf fits in omega arith } };
}

module _ (E : Setting) {K : Type 0} (same? : Discrete K) (Ok : Formula → Type 0) (key : Formula → K) (forming : Forming E Ok key) (v : ℕ) (bank : List Formula) (s : Sound E Ok key v bank)
    (cands : List Formula) (complete : Complete Ok key bank cands) (w : ℕ) (low : Lowest E key bank cands w) where
  -- what is lighter than the level is in the bank
  banked : (g : Formula) → Ok g → weight E g < w → In (key g) (map key bank)
  banked g wf l = go (dec_in same? (key g) (map key bank))
    where
      go : Dec (In (key g) (map key bank)) → In (key g) (map key bank)
      go (yes h) = h
      go (no n) = let r = level_below E same? Ok key forming bank cands complete s.formed s.best w low g wf n in absurd (omega arith)

  -- a candidate that weighs no more than the last level has its key in the bank
  pub candidate_banked : (c : Formula) → In c cands → weight E c ≤ v → In (key c) (map key bank)
  candidate_banked c h l = s.covers c (complete.formed c h s.formed) l

  -- what has a new key is no lighter than the level
  pub new_above : (g : Formula) → New E Ok key v g → w ≤ weight E g
  new_above g new = level_below E same? Ok key forming bank cands complete s.formed s.best w low g new.formed (new-fresh E Ok key v bank s g new)

  -- ── for a goal that is open ──

  pub fit_above : (Goal : K → Type 0) → Unfit E Ok key Goal v → (g : Formula) → Ok g → Goal (key g) → w ≤ weight E g
  fit_above Goal unfit g wf fits = go (dec_lt (weight E g) w)
    where
      go : Dec (weight E g < w) → w ≤ weight E g
      go (yes l) = absurd (bank_unfit E Ok key v bank s Goal unfit (key g) fits (banked g wf l))
      go (no n) = omega arith

  -- where no candidate of the level's weight fits, what fits is heavier
  pub fit_past : (Goal : K → Type 0) → Unfit E Ok key Goal v → w < beyond → ((c : Formula) → In c cands → FitsAt E key Goal w c → ⊥) → Unfit E Ok key Goal w
  fit_past Goal unfit small unmet g wf fits = go (dec_lt w (weight E g))
    where
      go : Dec (w < weight E g) → w < weight E g
      go (yes l) = l
      go (no n) =
          let o = level_own E same? Ok key forming bank cands complete s.formed s.best w low small g wf (bank_unfit E Ok key v bank s Goal unfit (key g) fits) (omega arith) in
          absurd (unmet o.by o.candidate (o.weighs, subst Goal (sym o.same) fits))

  pub not_over : {Goal : K → Type 0} (bound : ℕ) → length bank ≤ most_places → ((u : ℕ) → UnderBar E Ok key Goal bound u → u < w) → Over E Ok key Goal bound → ⊥
  not_over bound room under o =
      let n : length o.keys ≤ length (map key bank) =
      no_more same? o.keys (map key bank) o.apart
      (λ x h. let l = o.light x h in subst (λ y. In y (map key bank)) l.is (banked l.by l.formed (under (weight E l.by) l.under))) in
      let m = o.many in
      let e = length-map bank key in
      omega arith

  -- ── one more level ──

  module _ (small : w < beyond) (new : List Formula) (n : NewPlaces E key bank cands w new) where
    joined : map key (bank ++ new) ≡ map key bank ++ map key new
    joined = map-append key bank new

    joined_apart : Apart (map key (bank ++ new))
    joined_apart = rw joined (apart-append (map key bank) (map key new) s.apart n.apart
        (λ x h k. let r = in_map_back key new k in n.fresh r.0 r.1 (subst (λ y. In y (map key bank)) r.2 h)))

    joined_formed : (f : Formula) → In f (bank ++ new) → Ok f
    joined_formed f h = elim (in_cases bank h) [ inl i ↦ s.formed f i | inr i ↦ complete.formed f (n.candidate f i) s.formed ]

    joined_light : (f : Formula) → In f (bank ++ new) → v ≤ w → weight E f ≤ w
    joined_light f h up = elim (in_cases bank h) [ inl i ↦ (let a = s.light f i in omega arith) | inr i ↦ (let a = n.weighs f i in omega arith) ]

    joined_best : (f g : Formula) → In f (bank ++ new) → Ok g → key g ≡ key f → weight E f ≤ weight E g
    joined_best f g h wf e = elim (in_cases bank h) [ inl i ↦ s.best f g i wf e | inr i ↦ newest i ]
      where
        newest : In f new → weight E f ≤ weight E g
        newest i =
            let a = n.weighs f i in
            let b = level_below E same? Ok key forming bank cands complete s.formed s.best w low g wf (λ k. n.fresh f i (subst (λ x. In x (map key bank)) e k)) in
            omega arith

    joined_covers : (g : Formula) → Ok g → weight E g ≤ w → In (key g) (map key (bank ++ new))
    joined_covers g wf l = rw joined (go (dec_in same? (key g) (map key bank)))
      where
        go : Dec (In (key g) (map key bank)) → In (key g) (map key bank ++ map key new)
        go (yes h) = in_left (map key new) h
        go (no k) =
            let o = level_own E same? Ok key forming bank cands complete s.formed s.best w low small g wf k l in
            elim (n.all o.by o.candidate o.weighs) [
              | inl h ↦ absurd (k (subst (λ x. In x (map key bank)) o.same h))
              | inr h ↦ in_right (map key bank) (subst (λ x. In x (map key new)) o.same h)
            ]

    pub more : v ≤ w → Sound E Ok key w (bank ++ new)
    more up = record {
      formed = joined_formed;
      light = λ f h. joined_light f h up;
      best = joined_best;
      apart = joined_apart;
      covers = joined_covers;
      grounded = grounded_append [] bank new s.grounded (λ y h. complete.from y (n.candidate y h));
      rising = rising_append E w bank new s.rising (λ x h. let a = s.light x h in omega arith) n.weighs;
    }
