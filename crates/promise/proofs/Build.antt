-- The building of a level from the places finds what the bank of formulas finds, and takes what it takes.
use Rattle.std.proofs.Common.{◌≡◌, ℕ, ◌<◌, ◌≤◌, Bool, true, false, ◌⊎◌, List, [], ◌∷◌, ◌++◌, map, length, Some, None, Option, sym, refl, ap, ◌∙◌, subst, subst₂, inl, inr, append_assoc, append-nil, arith, length-append}
use native.Mathlib.Decide.{dec_lt, ℕ_discrete}
use Rattle.rows.specs.Rows.{StandingRow, wanted_of}
use Rattle.formulas.specs.Setting.{Setting}
use Rattle.formulas.specs.Formula.{Formula, weight, column}
use Rattle.formulas.specs.Steps.{most_places}
use Rattle.search.specs.Lists.{In, here, there, choose, dec_in, dec_both, bands_discrete}
use Rattle.search.specs.Places.{Candidate, Place, candidates as numbered}
use Rattle.search.specs.Stored.{column_of, weight_of, place_of, columns_in, dec_known, Held, dec_fit, kept, build, built}
use Rattle.search.proofs.Lists.{choose-by, in_split, in_none, map-append}
use Rattle.promise.proofs.Lists.{keep, in_cases, in_left, in_right}
use Rattle.promise.proofs.Search.{candidates, dec_fits_at, dec_weighs, unseen, fitting, new-places}
use Rattle.promise.proofs.Rules.{columns, is-wanted}
use Rattle.promise.proofs.Places.{made, Holds, InRange, numbered-candidates, holds_push, column-right, weight-right, columns_right, candidates_range, range_more, made_more}

-- which columns have been seen matters, and not in which order
pub unseen_like : (E : Setting) (rows : List StandingRow) (fs : List Formula) (s t : List (List ℕ)) → ((x : List ℕ) → In x s → In x t) → ((x : List ℕ) → In x t → In x s) → unseen bands_discrete (column E rows) s fs ≡ unseen bands_discrete (column E rows) t fs
unfolding unseen
unseen_like E rows [] s t a b = refl
unseen_like E rows (f ∷ fs) s t a b =
    go (dec_in bands_discrete (column E rows f) s) (dec_in bands_discrete (column E rows f) t)
    (unseen_like E rows fs s t a b)
    (unseen_like E rows fs (column E rows f ∷ s) (column E rows f ∷ t) (λ x i. in_split (λ e. here e) (λ j. there (a x j)) i) (λ x i. in_split (λ e. here e) (λ j. there (b x j)) i))
  where
    go : (p : Dec (In (column E rows f) s)) (q : Dec (In (column E rows f) t)) → unseen bands_discrete (column E rows) s fs ≡ unseen bands_discrete (column E rows) t fs → unseen bands_discrete (column E rows) (column E rows f ∷ s) fs ≡ unseen bands_discrete (column E rows) (column E rows f ∷ t) fs →
        choose p (unseen bands_discrete (column E rows) s fs) (f ∷ unseen bands_discrete (column E rows) (column E rows f ∷ s) fs) ≡ choose q (unseen bands_discrete (column E rows) t fs) (f ∷ unseen bands_discrete (column E rows) (column E rows f ∷ t) fs)
    go (yes p) (yes q) r u = r
    go (yes p) (no q) r u = absurd (q (a _ p))
    go (no p) (yes q) r u = absurd (p (b _ q))
    go (no p) (no q) r u = ap (λ l. f ∷ l) u

-- one formula more at the end of the bank
one_more : (E : Setting) (rows : List StandingRow) (bank : List Formula) (f : Formula) (fs : List Formula) →
    (bank ++ (f ∷ [])) ++ unseen bands_discrete (column E rows) (columns E rows (bank ++ (f ∷ []))) fs ≡ bank ++ (f ∷ unseen bands_discrete (column E rows) (column E rows f ∷ columns E rows bank) fs)
one_more E rows bank f fs =
    append_assoc bank (f ∷ []) _
    ∙ ap (λ u. bank ++ (f ∷ u)) (ap (λ c. unseen bands_discrete (column E rows) c fs) (map-append (column E rows) bank (f ∷ []))
    ∙ unseen_like E rows fs (columns E rows bank ++ (column E rows f ∷ [])) (column E rows f ∷ columns E rows bank)
    (λ x i. elim (in_cases (columns E rows bank) i) [ inl j ↦ there j | inr j ↦ in_split (λ e. here e) (λ n. in_none n) j ])
    (λ x i. in_split (λ e. in_right (columns E rows bank) (here e)) (λ j. in_left (column E rows f ∷ []) j) i))

-- what the building answers: the first formula that fits, or, where none does, the places of all, or over
pub data BuildsTo (E : Setting) (rows : List StandingRow) (bank : List Formula) (o : Bool) (all : List Formula) : List Formula → Option Candidate × Held → Type 0 where
  hit : {f : Formula} {fit : List Formula} {h : Held} (t : Candidate) → InRange (length bank) t → f ≡ made bank t → column E rows (made bank t) ≡ wanted_of rows → BuildsTo E rows bank o all (f ∷ fit) (Some t, h)
  whole : {h : Held} → o ≡ false → h.over ≡ false → length all ≤ most_places → Holds E rows h.places all → BuildsTo E rows bank o all [] (None, h)
  spilt : {h : Held} → (o ≡ true) ⊎ (most_places < length all) → h.over ≡ true → BuildsTo E rows bank o all [] (None, h)

-- over already
spills : (E : Setting) (rows : List StandingRow) (bank : List Formula) (o : Bool) (all all' : List Formula) → most_places < length all' → {fit : List Formula} {r : Option Candidate × Held} → BuildsTo E rows bank true all fit r → BuildsTo E rows bank o all' fit r
spills E rows bank o all all' many (hit t i e x) = hit t i e x
spills E rows bank o all all' many (whole t f l k) = absurd (let z : ◌≡◌ {A = ℕ} 0 1 = cc in omega arith)
spills E rows bank o all all' many (spilt c e) = spilt (inr many) e

module _ (E : Setting) (rows : List StandingRow) (w : ℕ) (bank : List Formula) where
  abbrev Goes : List Candidate → Type 0
  Goes ts = (more : List Formula) (h : Held) → Holds E rows h.places (bank ++ more) → length (bank ++ more) ≤ most_places →
      BuildsTo E rows bank h.over ((bank ++ more) ++ unseen bands_discrete (column E rows) (columns E rows (bank ++ more)) (keep (dec_weighs E w) (map (made bank) ts))) (keep (dec_fits_at E (column E rows) (is-wanted rows) w) (map (made bank) ts)) (build E rows w h ts)

  ends : (more : List Formula) (h : Held) → Holds E rows h.places (bank ++ more) → length (bank ++ more) ≤ most_places → (b : Bool) → h.over ≡ b → BuildsTo E rows bank h.over ((bank ++ more) ++ []) [] (None, h)
  ends more h holds room true e = spilt (inl e) e
  ends more h holds room false e = whole e e (rw append-nil room) (rw append-nil holds)

  -- the formulas at hand after some candidates: the bank and those taken
  goes : (ts : List Candidate) → ((t : Candidate) → In t ts → InRange (length bank) t) → Goes ts
  unfolding unseen dec_fit dec_fits_at dec_weighs kept dec_known is-wanted
  goes [] r more h holds room = ends more h holds room h.over refl
  goes (t ∷ ts) r more h holds room =
      go (goes ts (λ u i. r u (there i)))
      (column-right E rows h.places (bank ++ more) holds t range ∙ ap (column E rows) (made_more bank more t near))
      (weight-right E rows h.places (bank ++ more) holds t range ∙ ap (weight E) (made_more bank more t near))
      (columns_right E rows h.places (bank ++ more) holds)
      (ℕ_discrete (weight_of E h.places t) w) (ℕ_discrete (weight E (made bank t)) w)
      (bands_discrete (column_of E rows h.places t) (wanted_of rows)) (bands_discrete (column E rows (made bank t)) (wanted_of rows))
      (dec_in bands_discrete (column_of E rows h.places t) (columns_in h.places))
      (dec_lt (length h.places) most_places)
    where
      f : Formula
      f = made bank t

      near : InRange (length bank) t
      near = r t (here refl)

      range : InRange (length (bank ++ more)) t
      range = range_more (length bank) (length (bank ++ more)) (let e = length-append bank more in omega arith) t near

      p : Place
      p = place_of E rows h.places t

      Now : Held → List Formula → Type 0
      Now h' u = BuildsTo E rows bank h.over ((bank ++ more) ++ u) (keep (dec_fits_at E (column E rows) (is-wanted rows) w) (map (made bank) ts)) (build E rows w h' ts)

      go : Goes ts → column_of E rows h.places t ≡ column E rows (made bank t) → weight_of E h.places t ≡ weight E (made bank t) → columns_in h.places ≡ columns E rows (bank ++ more) →
          (a : Dec (weight_of E h.places t ≡ w)) (a' : Dec (weight E (made bank t) ≡ w))
          (b : Dec (column_of E rows h.places t ≡ wanted_of rows)) (b' : Dec (column E rows (made bank t) ≡ wanted_of rows))
          (k : Dec (In (column_of E rows h.places t) (columns_in h.places)))
          (l : Dec (length h.places < most_places)) →
          BuildsTo E rows bank h.over
          ((bank ++ more) ++ unseen bands_discrete (column E rows) (columns E rows (bank ++ more)) (choose a' (made bank t ∷ keep (dec_weighs E w) (map (made bank) ts)) (keep (dec_weighs E w) (map (made bank) ts))))
          (choose (dec_both a' b') (made bank t ∷ keep (dec_fits_at E (column E rows) (is-wanted rows) w) (map (made bank) ts)) (keep (dec_fits_at E (column E rows) (is-wanted rows) w) (map (made bank) ts)))
          (choose (dec_both a b) (Some t, h) (build E rows w (choose a (choose k h (choose l (record { places = h.places ++ (place_of E rows h.places t ∷ []); over = h.over }) (record { places = h.places; over = true }))) h) ts))
      go again ce we se (yes a) (no a') b b' k l = absurd (a' (sym we ∙ a))
      go again ce we se (no a) (yes a') b b' k l = absurd (a (we ∙ a'))
      go again ce we se (no a) (no a') b b' k l = again more h holds room
      go again ce we se (yes a) (yes a') (yes b) (no b') k l = absurd (b' (sym ce ∙ b))
      go again ce we se (yes a) (yes a') (no b) (yes b') k l = absurd (b (ce ∙ b'))
      go again ce we se (yes a) (yes a') (yes b) (yes b') k l = hit t near refl b'
      go again ce we se (yes a) (yes a') (no b) (no b') (yes k) l =
          choose-by (Now h) (dec_in bands_discrete (column E rows f) (columns E rows (bank ++ more)))
          (λ i. again more h holds room)
          (λ n. absurd (n (subst₂ (λ (x : List ℕ) (xs : List (List ℕ)). In x xs) ce se k)))
      go again ce we se (yes a) (yes a') (no b) (no b') (no k) (yes l) =
          choose-by (Now (record { places = h.places ++ (p ∷ []); over = h.over })) (dec_in bands_discrete (column E rows f) (columns E rows (bank ++ more)))
          (λ i. absurd (k (subst₂ (λ (x : List ℕ) (xs : List (List ℕ)). In x xs) (sym ce) (sym se) i)))
          (λ n.
          let e : bank ++ (more ++ (f ∷ [])) ≡ (bank ++ more) ++ (f ∷ []) = sym (append_assoc bank more (f ∷ [])) in
          let long = holds.long in
          let len = length-append (bank ++ more) (f ∷ []) in
          subst (λ u. BuildsTo E rows bank h.over u (keep (dec_fits_at E (column E rows) (is-wanted rows) w) (map (made bank) ts)) (build E rows w (record { places = h.places ++ (p ∷ []); over = h.over }) ts))
          (ap (λ c. c ++ unseen bands_discrete (column E rows) (columns E rows c) (keep (dec_weighs E w) (map (made bank) ts))) e ∙ one_more E rows (bank ++ more) f (keep (dec_weighs E w) (map (made bank) ts)))
          (again (more ++ (f ∷ [])) (record { places = h.places ++ (p ∷ []); over = h.over })
          (subst (λ u. Holds E rows (h.places ++ (p ∷ [])) u) (sym e) (holds_push E rows h.places (bank ++ more) holds p f range (sym (made_more bank more t near)) ce we))
          (subst (λ u. length u ≤ most_places) (sym e) (omega arith))))
      go again ce we se (yes a) (yes a') (no b) (no b') (no k) (no l) =
          choose-by (Now (record { places = h.places; over = true })) (dec_in bands_discrete (column E rows f) (columns E rows (bank ++ more)))
          (λ i. absurd (k (subst₂ (λ (x : List ℕ) (xs : List (List ℕ)). In x xs) (sym ce) (sym se) i)))
          (λ n.
          let long = holds.long in
          let len = length-append (bank ++ more) (f ∷ unseen bands_discrete (column E rows) (column E rows f ∷ columns E rows (bank ++ more)) (keep (dec_weighs E w) (map (made bank) ts))) in
          spills E rows bank h.over _ _ (omega arith) (again more (record { places = h.places; over = true }) holds room))

pub built-right : (E : Setting) (rows : List StandingRow) (w : ℕ) (places : List Place) (bank : List Formula) → Holds E rows places bank → length bank ≤ most_places →
    BuildsTo E rows bank false (bank ++ new-places E bands_discrete (column E rows) bank (candidates E bank) w) (fitting E (column E rows) (is-wanted rows) (candidates E bank) w) (built E rows w places)
unfolding new-places fitting
built-right E rows w places bank h room =
    subst (λ n. BuildsTo E rows bank false (bank ++ new-places E bands_discrete (column E rows) bank (candidates E bank) w) (fitting E (column E rows) (is-wanted rows) (candidates E bank) w) (build E rows w (record { places = places; over = false }) (numbered E n))) (sym h.long)
    (subst₂ (λ (u cs : List Formula). BuildsTo E rows bank false (u ++ unseen bands_discrete (column E rows) (columns E rows u) (keep (dec_weighs E w) cs)) (keep (dec_fits_at E (column E rows) (is-wanted rows) w) cs) (build E rows w (record { places = places; over = false }) (numbered E (length bank))))
    (append-nil bank) (numbered-candidates E bank)
    (goes E rows w bank (numbered E (length bank)) (candidates_range E (length bank)) [] (record { places = places; over = false }) (rw append-nil h) (rw append-nil room)))
