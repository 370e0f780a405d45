-- The candidates by places are those by formulas, in the same order; their columns and weights, worked out from the places, are those
-- of the formulas.
use Rattle.std.proofs.Common.{◌≡◌, ℕ, zero, suc, ◌<◌, ◌≤◌, ◌⊎◌, List, [], ◌∷◌, ◌++◌, map, length, get_or, sym, refl, ap, ◌∙◌, subst, ap₂, subst₂, inl, inr, arith, length-append}
use native.Mathlib.Decide.{dec_lt}
use mathlib.Core.Path.{fun_ext}
use Rattle.std.proofs.lemmas.List.{ext_get_or, get_or-map, length-map, get_or_append_left}
use Rattle.rows.specs.Rows.{StandingRow}
use Rattle.formulas.specs.Setting.{Setting}
use Rattle.formulas.specs.Formula.{Formula, Formulas, channel, operator, nil, cons, value, bands, weight, all_weighed, column}
use Rattle.search.specs.Lists.{In, each, counted, numbers}
use Rattle.search.specs.Places.{Candidate, of_channel, of_operator, Place, tuples, candidates as numbered, bands_at, weights_at}
use Rattle.search.specs.Stored.{no_row, no_place, band_of, column_of, weight_of, columns_in}
use Rattle.search.proofs.Lists.{in_none, in_split, map-append, length-numbers, get_or_tabled}
use Rattle.promise.proofs.Lists.{in_cases, in_map_back, in_each_back, in_numbers_back}
use Rattle.promise.proofs.Search.{choices, candidates}
use Rattle.promise.proofs.Rules.{columns}

-- the formulas at the places
abbrev pub picked : List Formula → List ℕ → Formulas
picked built [] = nil
picked built (i ∷ is) = cons (get_or built i (channel 0)) (picked built is)

-- the formula of a candidate over the formulas of the places
abbrev pub made : List Formula → Candidate → Formula
made built (of_channel i) = channel i
made built (of_operator k is) = operator k (picked built is)

-- the formulas of the places, one after the other
abbrev pub formulas : List Formula → List Place → List Formula
formulas built [] = built
formulas built (p ∷ places) = formulas (built ++ (made built p.top ∷ [])) places

abbrev pub AllBelow : ℕ → List ℕ → Type 0
AllBelow n [] = Unit {0}
AllBelow n (i ∷ is) = (i < n) × AllBelow n is

-- the arguments' places are below n
abbrev pub InRange : ℕ → Candidate → Type 0
InRange n (of_channel i) = Unit {0}
InRange n (of_operator k is) = AllBelow n is

-- the places hold the bank: its formulas, their columns and their weights; arguments lie below their place
pub record Holds (E : Setting) (rows : List StandingRow) (places : List Place) (bank : List Formula) : Type 0 where
  pub says : formulas [] places ≡ bank
  pub long : length places ≡ length bank
  pub columns : (i : ℕ) (p : Place) (f : Formula) → i < length bank → (get_or places i p).column ≡ column E rows (get_or bank i f)
  pub weights : (i : ℕ) (p : Place) (f : Formula) → i < length bank → (get_or places i p).weight ≡ weight E (get_or bank i f)
  pub ordered : (i : ℕ) (p : Place) → i < length bank → InRange i (get_or places i p).top

-- ── the candidates ──

map-map : {A B C : Type 0} (g : B → C) (f : A → B) (xs : List A) → map g (map f xs) ≡ map (λ x. g (f x)) xs
map-map g f [] = refl
map-map g f (x ∷ xs) = ap (λ l. g (f x) ∷ l) (map-map g f xs)

map_each : {A B C : Type 0} (g : B → C) (f : A → List B) (xs : List A) → map g (each f xs) ≡ each (λ x. map g (f x)) xs
map_each g f [] = refl
map_each g f (x ∷ xs) = map-append g (f x) (each f xs) ∙ ap (λ l. map g (f x) ++ l) (map_each g f xs)

each_map : {A B C : Type 0} (f : B → List C) (g : A → B) (xs : List A) → each f (map g xs) ≡ each (λ x. f (g x)) xs
each_map f g [] = refl
each_map f g (x ∷ xs) = ap (λ l. f (g x) ++ l) (each_map f g xs)

-- a list is what stands at its numbers
counted_up : (n from : ℕ) → counted (suc from) n ≡ map suc (counted from n)
counted_up zero from = refl
counted_up (suc n) from = ap (λ l. suc from ∷ l) (counted_up n (suc from))

by-numbers : {A : Type 0} (d : A) (xs : List A) → map (λ i. get_or xs i d) (numbers (length xs)) ≡ xs
by-numbers d [] = refl
by-numbers d (x ∷ xs) = ap (λ l. x ∷ l) (ap (map (λ i. get_or (x ∷ xs) i d)) (counted_up (length xs) 0) ∙ map-map (λ i. get_or (x ∷ xs) i d) suc (numbers (length xs)) ∙ by-numbers d xs)

inner : (bank : List Formula) (a i : ℕ) → map (picked bank) (tuples a (length bank)) ≡ choices a bank → map (picked bank) (map (λ is. i ∷ is) (tuples a (length bank))) ≡ map (cons (get_or bank i (channel 0))) (choices a bank)
inner bank a i r = map-map (picked bank) (λ is. i ∷ is) (tuples a (length bank)) ∙ sym (map-map (cons (get_or bank i (channel 0))) (picked bank) (tuples a (length bank))) ∙ ap (map (cons (get_or bank i (channel 0)))) r

tuples_choices : (bank : List Formula) (a : ℕ) → map (picked bank) (tuples a (length bank)) ≡ choices a bank
unfolding tuples choices
tuples_choices bank zero = refl
tuples_choices bank (suc a) =
    map_each (picked bank) (λ i. map (λ is. i ∷ is) (tuples a (length bank))) (numbers (length bank))
    ∙ ap (λ (f : ℕ → List Formulas). each f (numbers (length bank))) (fun_ext (λ i. inner bank a i (tuples_choices bank a)))
    ∙ sym (each_map (λ f. map (cons f) (choices a bank)) (λ i. get_or bank i (channel 0)) (numbers (length bank)))
    ∙ ap (each (λ f. map (cons f) (choices a bank))) (by-numbers (channel 0) bank)

-- the candidates by numbers, in build order, are those by formulas
pub numbered-candidates : (E : Setting) (bank : List Formula) → map (made bank) (numbered E (length bank)) ≡ candidates E bank
unfolding numbered candidates
numbered-candidates E bank =
    map-append (made bank) (map of_channel (numbers E.channels)) _
    ∙ ap₂ (λ (u v : List Formula). u ++ v)
    (map-map (made bank) of_channel (numbers E.channels))
    (map_each (made bank) (λ k. map (of_operator k) (tuples (E.set.arity k) (length bank))) (numbers E.set.count)
    ∙ ap (λ (f : ℕ → List Formula). each f (numbers E.set.count)) (fun_ext (λ k. operators k)))
  where
    operators : (k : ℕ) → map (made bank) (map (of_operator k) (tuples (E.set.arity k) (length bank))) ≡ map (operator k) (choices (E.set.arity k) bank)
    operators k =
        map-map (made bank) (of_operator k) (tuples (E.set.arity k) (length bank))
        ∙ sym (map-map (operator k) (picked bank) (tuples (E.set.arity k) (length bank)))
        ∙ ap (map (operator k)) (tuples_choices bank (E.set.arity k))

-- ── bands and weights from the places ──

column-at : (E : Setting) (rows : List StandingRow) (f : Formula) (j : ℕ) (d : ℕ) (r : StandingRow) → j < length rows → get_or (column E rows f) j d ≡ value E (get_or rows j r).bands f
column-at E [] f j d r l = absurd (omega arith)
column-at E (x ∷ rows) f zero d r l = refl
column-at E (x ∷ rows) f (suc j) d r l = column-at E rows f j d r (omega arith)

module _ (E : Setting) (rows : List StandingRow) (places : List Place) (p : Place) (bank : List Formula) (h : Holds E rows places bank) where
  picked_values : (j : ℕ) (r : StandingRow) → j < length rows → (is : List ℕ) → AllBelow (length bank) is → bands E.set (get_or rows j r).bands (picked bank is) ≡ bands_at places p j is
  picked_values j r l [] b = refl
  picked_values j r l (i ∷ is) b =
      ap₂ (λ (a : ℕ) (us : List ℕ). a ∷ us)
      (sym (column-at E rows (get_or bank i (channel 0)) j 15 r l) ∙ ap (λ c. get_or c j 15) (sym (h.columns i p (channel 0) b.0)))
      (picked_values j r l is b.1)

  -- the band at row j of an operator over places, from the places' columns
  pub operator-at : (j k d : ℕ) (is : List ℕ) → j < length rows → AllBelow (length bank) is → get_or (column E rows (made bank (of_operator k is))) j d ≡ E.set.band k (bands_at places p j is)
  operator-at j k d is l b = column-at E rows (operator k (picked bank is)) j d no_row l ∙ ap (E.set.band k) (picked_values j no_row l is b)

  -- and of a channel, from the row
  pub channel-at : (j i d : ℕ) (r : StandingRow) → j < length rows → get_or (column E rows (made bank (of_channel i))) j d ≡ get_or (get_or rows j r).bands i 15
  channel-at j i d r l = column-at E rows (channel i) j d r l

  picked_weights : (is : List ℕ) → AllBelow (length bank) is → all_weighed E.measure (picked bank is) ≡ weights_at places p is
  picked_weights [] b = refl
  picked_weights (i ∷ is) b = ap₂ (λ (a : ℕ) (us : List ℕ). a ∷ us) (sym (h.weights i p (channel 0) b.0)) (picked_weights is b.1)

  -- the weight of an operator over places, from the places' weights
  pub operator-weighs : (k : ℕ) (is : List ℕ) → AllBelow (length bank) is → weight E (made bank (of_operator k is)) ≡ E.measure.operator k (weights_at places p is)
  operator-weighs k is b = ap (E.measure.operator k) (picked_weights is b)

-- ── one place more ──

formulas_push : (built : List Formula) (places : List Place) (p : Place) → formulas built (places ++ (p ∷ [])) ≡ formulas built places ++ (made (formulas built places) p.top ∷ [])
formulas_push built [] p = refl
formulas_push built (q ∷ places) p = formulas_push (built ++ (made built q.top ∷ [])) places p

get_or_before : {A : Type 0} (xs : List A) (y d : A) (i : ℕ) → i < length xs → get_or (xs ++ (y ∷ [])) i d ≡ get_or xs i d
get_or_before [] y d i l = absurd (omega arith)
get_or_before (x ∷ xs) y d zero l = refl
get_or_before (x ∷ xs) y d (suc i) l = get_or_before xs y d i (omega arith)

get_or_last : {A : Type 0} (xs : List A) (y d : A) (i : ℕ) → i ≡ length xs → get_or (xs ++ (y ∷ [])) i d ≡ y
get_or_last [] y d zero e = refl
get_or_last [] y d (suc i) e = absurd (omega arith)
get_or_last (x ∷ xs) y d zero e = absurd (omega arith)
get_or_last (x ∷ xs) y d (suc i) e = get_or_last xs y d i (omega arith)

pub holds_none : (E : Setting) (rows : List StandingRow) → Holds E rows [] []
holds_none E rows = record { says = refl; long = refl; columns = λ i p f l. absurd (omega arith); weights = λ i p f l. absurd (omega arith); ordered = λ i p l. absurd (omega arith) }

pub holds_push : (E : Setting) (rows : List StandingRow) (places : List Place) (bank : List Formula) → Holds E rows places bank → (p : Place) (f : Formula) → InRange (length bank) p.top → f ≡ made bank p.top → p.column ≡ column E rows f → p.weight ≡ weight E f → Holds E rows (places ++ (p ∷ [])) (bank ++ (f ∷ []))
holds_push E rows places bank h p f range e ce we = record {
  says = formulas_push [] places p ∙ ap (λ b. b ++ (made b p.top ∷ [])) h.says ∙ ap (λ u. bank ++ (u ∷ [])) (sym e);
  long = let a = length-append places (p ∷ []) in let b = length-append bank (f ∷ []) in let c = h.long in omega arith;
  columns = λ i q g l. go (λ x y. x.column ≡ column E rows y) i q g l (dec_lt i (length bank)) (h.columns i q g) ce;
  weights = λ i q g l. go (λ x y. x.weight ≡ weight E y) i q g l (dec_lt i (length bank)) (h.weights i q g) we;
  ordered = λ i q l. at i q l (dec_lt i (length bank));
}
  where
    at : (i : ℕ) (q : Place) → i < length (bank ++ (f ∷ [])) → Dec (i < length bank) → InRange i (get_or (places ++ (p ∷ [])) i q).top
    at i q l (yes k) =
        let c = h.long in
        subst (λ (x : Place). InRange i x.top) (sym (get_or_before places p q i (omega arith))) (h.ordered i q k)
    at i q l (no k) =
        let c = h.long in
        let a = length-append bank (f ∷ []) in
        let e : length bank ≡ i = omega arith in
        subst (λ (x : Place). InRange i x.top) (sym (get_or_last places p q i (omega arith))) (subst (λ n. InRange n p.top) e range)

    go : (P : Place → Formula → Type 0) (i : ℕ) (q : Place) (g : Formula) → i < length (bank ++ (f ∷ [])) → Dec (i < length bank) → (i < length bank → P (get_or places i q) (get_or bank i g)) → P p f → P (get_or (places ++ (p ∷ [])) i q) (get_or (bank ++ (f ∷ [])) i g)
    go P i q g l (yes k) old new =
        let c = h.long in
        subst₂ P (sym (get_or_before places p q i (omega arith))) (sym (get_or_before bank f g i k)) (old k)
    go P i q g l (no k) old new =
        let c = h.long in
        let a = length-append bank (f ∷ []) in
        subst₂ P (sym (get_or_last places p q i (omega arith))) (sym (get_or_last bank f g i (omega arith))) new

-- ── a candidate's column and weight ──

length-column : (E : Setting) (rows : List StandingRow) (f : Formula) → length (column E rows f) ≡ length rows
length-column E [] f = refl
length-column E (r ∷ rows) f = ap suc (length-column E rows f)

module _ (E : Setting) (rows : List StandingRow) (places : List Place) (bank : List Formula) (h : Holds E rows places bank) where
  band-right : (t : Candidate) (j : ℕ) → InRange (length bank) t → j < length rows → band_of E rows places t j ≡ get_or (column E rows (made bank t)) j 0
  band-right (of_channel i) j b l = sym (channel-at E rows places no_place bank h j i 0 no_row l)
  band-right (of_operator k is) j b l = sym (operator-at E rows places no_place bank h j k 0 is l b)

  pub column-right : (t : Candidate) → InRange (length bank) t → column_of E rows places t ≡ column E rows (made bank t)
  unfolding column_of
  column-right t b =
      let n = length-map (numbers (length rows)) (band_of E rows places t) ∙ length-numbers (length rows) in
      ext_get_or 0 _ _ (n ∙ sym (length-column E rows (made bank t))) (λ j l. get_or_tabled (band_of E rows places t) (length rows) j 0 (subst (λ m. j < m) n l) ∙ band-right t j b (subst (λ m. j < m) n l))

  pub weight-right : (t : Candidate) → InRange (length bank) t → weight_of E places t ≡ weight E (made bank t)
  weight-right (of_channel i) b = refl
  weight-right (of_operator k is) b = sym (operator-weighs E rows places no_place bank h k is b)

  pub columns_right : columns_in places ≡ columns E rows bank
  columns_right =
      let a = length-map places (λ (p : Place). p.column) in
      let b = length-map bank (column E rows) in
      let n = h.long in
      ext_get_or [] _ _ (omega arith) (λ i l. get_or-map (λ (p : Place). p.column) places i no_place [] (omega arith) ∙ h.columns i no_place (channel 0) (omega arith) ∙ sym (get_or-map (column E rows) bank i (channel 0) [] (omega arith)))

-- ── candidates have their arguments in the bank ──

tuples_below : (a n : ℕ) (is : List ℕ) → In is (tuples a n) → AllBelow n is
unfolding tuples
tuples_below zero n is h = in_split (λ e. subst (AllBelow n) (sym e) tt) (λ k. in_none k) h
tuples_below (suc a) n is h =
    let r = in_each_back (λ i. map (λ js. i ∷ js) (tuples a n)) (numbers n) h in
    let t = in_map_back (λ js. r.0 ∷ js) (tuples a n) r.2 in
    subst (AllBelow n) (sym t.2) (in_numbers_back n r.0 r.1, tuples_below a n t.0 t.1)

pub candidates_range : (E : Setting) (n : ℕ) (t : Candidate) → In t (numbered E n) → InRange n t
unfolding numbered
candidates_range E n t h = go (in_cases (map of_channel (numbers E.channels)) h)
  where
    operators : List Candidate
    operators = each (λ k. map (of_operator k) (tuples (E.set.arity k) n)) (numbers E.set.count)

    go : In t (map of_channel (numbers E.channels)) ⊎ In t (each (λ k. map (of_operator k) (tuples (E.set.arity k) n)) (numbers E.set.count)) → InRange n t
    go (inl c) = let r = in_map_back of_channel (numbers E.channels) c in subst (InRange n) (sym r.2) tt
    go (inr o) =
        let r = in_each_back (λ k. map (of_operator k) (tuples (E.set.arity k) n)) (numbers E.set.count) o in
        let s = in_map_back (of_operator r.0) (tuples (E.set.arity r.0) n) r.2 in
        subst (InRange n) (sym s.2) (tuples_below (E.set.arity r.0) n s.0 s.1)

-- ── more places behind ──

below_more : (m n : ℕ) → m ≤ n → (is : List ℕ) → AllBelow m is → AllBelow n is
below_more m n l [] b = tt
below_more m n l (i ∷ is) b = (let a = b.0 in omega arith, below_more m n l is b.1)

pub range_more : (m n : ℕ) → m ≤ n → (t : Candidate) → InRange m t → InRange n t
range_more m n l (of_channel i) b = tt
range_more m n l (of_operator k is) b = below_more m n l is b

picked_more : (bank more : List Formula) (is : List ℕ) → AllBelow (length bank) is → picked (bank ++ more) is ≡ picked bank is
picked_more bank more [] b = refl
picked_more bank more (i ∷ is) b = ap₂ cons (get_or_append_left bank more (channel 0) i b.0) (picked_more bank more is b.1)

pub made_more : (bank more : List Formula) (t : Candidate) → InRange (length bank) t → made (bank ++ more) t ≡ made bank t
made_more bank more (of_channel i) b = refl
made_more bank more (of_operator k is) b = ap (operator k) (picked_more bank more is b)
