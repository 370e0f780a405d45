-- The steps that write names are the found formula's different parts, and their record is lawful and says that formula.
use Rattle.std.proofs.Common.{◌≡◌, ℕ, zero, suc, ◌+◌, ◌-◌, ◌<◌, ◌≤◌, ◌⊎◌, List, [], ◌∷◌, ◌++◌, map, length, get_or, replicate, sym, refl, ap, ◌∙◌, subst, inl, inr, append_assoc, append-nil, arith, length-append}
use Rattle.std.proofs.lemmas.List.{length-map, length-take, get_or-map, get_or-take, get_or_push}
use Rattle.operators.specs.Bands.{most_arguments}
use Rattle.measures.specs.Measures.{most_channels}
use Rattle.rows.specs.Rows.{StandingRow}
use Rattle.formulas.specs.Setting.{Setting}
use Rattle.formulas.specs.Formula.{Formula, Formulas, channel, operator, nil, cons, count, formulas_in, Formula-discrete, Formed, weight, column, Wanted, Fits, parts, parts_of, Apart, StepsNumber}
use Rattle.formulas.specs.Steps.{most_steps}
use Rattle.formulas.specs.Says.{no_step, step_of, argument_of, LawfulStep, LawfulSteps, StepSays, ArgumentsSay}
use Rattle.formulas.specs.declared.steps.Step.{Step}
use Rattle.records.specs.Bytes.{record_of}
use Rattle.records.proofs.Roundtrip.{reads_back_few}
use Rattle.histories.specs.Answers.{Lightest, WrittenFormula}
use Rattle.search.specs.Lists.{In, here, there, choose, dec_in}
use Rattle.search.specs.Places.{Candidate, of_channel, of_operator}
use Rattle.promise.specs.Steps.{filled_up, as_step}
use Rattle.search.proofs.Lists.{choose-by, in_none, in_split, at_in}
use Rattle.promise.specs.Laws.{SetBounds}
use Rattle.promise.proofs.Lists.{keep, in_rest, in_left, in_right, in_cases, in_map, in_keep, in_keep_back, apart-append}
use Rattle.promise.proofs.Best.{args}
use Rattle.promise.proofs.Bank.{Grounded, grounded_append}
use Rattle.promise.proofs.Rules.{used}
use Rattle.promise.proofs.Advance.{Found}

plus_none : (j : ℕ) → j ≡ j + 0
plus_none j = omega arith

none_plus : (j : ℕ) → 0 + j ≡ j
none_plus j = omega arith

plus_one : (j n : ℕ) → suc j + n ≡ j + suc n
plus_one j n = omega arith

-- ── parts ──

pub part_self : (f : Formula) → In f (parts f)
part_self (channel i) = here refl
part_self (operator k fs) = here refl

argument-part : (fs : Formulas) (a : Formula) → In a (formulas_in fs) → In a (parts_of fs)
argument-part nil a h = in_none h
argument-part (cons f fs) a (here e) = in_left (parts_of fs) (subst (λ u. In u (parts f)) (sym e) (part_self f))
argument-part (cons f fs) a (there h) = in_right (parts f) (argument-part fs a h)

own_argument : (f a : Formula) → In a (args f) → In a (parts f)
own_argument (channel i) a h = in_none h
own_argument (operator k fs) a h = there (argument-part fs a h)

mutual
  part-argument : (f : Formula) (x a : Formula) → In a (args x) → In x (parts f) → In a (parts f)
  part-argument (channel i) x a h = in_split (λ e. in_none (subst (λ u. In a (args u)) e h)) (λ k. in_none k)
  part-argument (operator k fs) x a h = in_split (λ e. there (argument-part fs a (subst (λ u. In a (args u)) e h))) (λ j. there (parts-argument fs x a h j))

  parts-argument : (fs : Formulas) (x a : Formula) → In a (args x) → In x (parts_of fs) → In a (parts_of fs)
  parts-argument nil x a h = λ j. in_none j
  parts-argument (cons f fs) x a h = λ j. elim (in_cases (parts f) j) [ inl u ↦ in_left (parts_of fs) (part-argument f x a h u) | inr u ↦ in_right (parts f) (parts-argument fs x a h u) ]

-- ── a grounded bank is closed under parts ──

grounded_args : (earlier xs : List Formula) → Grounded earlier xs → (x a : Formula) → In x xs → In a (args x) → In a (earlier ++ xs)
grounded_args earlier [] g x a h k = in_none h
grounded_args earlier (y ∷ xs) g x a (here e) k = in_left (y ∷ xs) (g.0 a (subst (λ u. In a (args u)) e k))
grounded_args earlier (y ∷ xs) g x a (there h) k = rw append_assoc at (grounded_args (earlier ++ (y ∷ [])) xs g.1 x a h k)

module _ (bank : List Formula) (closed : (x a : Formula) → In x bank → In a (args x) → In a bank) where
  mutual
    banked_parts : (f : Formula) → In f bank → (x : Formula) → In x (parts f) → In x bank
    banked_parts (channel i) h x j = in_split (λ e. subst (λ u. In u bank) (sym e) h) (λ k. in_none k) j
    banked_parts (operator k fs) h x j = in_split (λ e. subst (λ u. In u bank) (sym e) h) (λ u. banked_parts_of fs (λ a i. closed (operator k fs) a h i) x u) j

    banked_parts_of : (fs : Formulas) → ((a : Formula) → In a (formulas_in fs) → In a bank) → (x : Formula) → In x (parts_of fs) → In x bank
    banked_parts_of nil h x j = in_none j
    banked_parts_of (cons f fs) h x j = elim (in_cases (parts f) j) [ inl u ↦ banked_parts f (h f (here refl)) x u | inr u ↦ banked_parts_of fs (λ a i. h a (there i)) x u ]

-- ── keeping some ──

module _ {A : Type 0} {P : A → Type 0} (d : (a : A) → Dec (P a)) where
  pub keep_append : (s t : List A) → keep d (s ++ t) ≡ keep d s ++ keep d t
  keep_append [] t = refl
  keep_append (x ∷ s) t = go (d x) (keep_append s t)
    where
      go : (q : Dec (P x)) → keep d (s ++ t) ≡ keep d s ++ keep d t → choose q (x ∷ keep d (s ++ t)) (keep d (s ++ t)) ≡ choose q (x ∷ keep d s) (keep d s) ++ keep d t
      go (yes p) e = ap (λ l. x ∷ l) e
      go (no p) e = e

  keep_apart : (s : List A) → Apart s → Apart (keep d s)
  keep_apart [] a = tt
  keep_apart (x ∷ s) a =
      let r = keep_apart s a.1 in
      choose-by {A = List A} (λ l. Apart l) (d x) (λ q. (λ h. a.0 (in_keep_back d s h).0, r)) (λ n. r)

  keep_length : (s : List A) → length (keep d s) ≤ length s
  keep_length [] = omega arith
  keep_length (x ∷ s) = let r = keep_length s in choose-by {A = List A} (λ l. length l ≤ suc (length s)) (d x) (λ q. omega arith) (λ n. omega arith)

apart_before : {A B : Type 0} (f : A → B) (s : List A) → Apart (map f s) → Apart s
apart_before f [] a = tt
apart_before f (x ∷ s) a = (λ h. a.0 (in_map f h), apart_before f s a.1)

grounded_keep : {P : Formula → Type 0} (d : (g : Formula) → Dec (P g)) → ((x a : Formula) → P x → In a (args x) → P a) → (earlier xs : List Formula) → Grounded earlier xs → Grounded (keep d earlier) (keep d xs)
grounded_keep d closed earlier [] g = tt
grounded_keep {P = P} d closed earlier (x ∷ xs) g = go (d x) (rw keep_append at (grounded_keep d closed (earlier ++ (x ∷ [])) xs g.1))
  where
    go : (q : Dec (P x)) → Grounded (keep d earlier ++ choose q (x ∷ []) []) (keep d xs) → Grounded (keep d earlier) (choose q (x ∷ keep d xs) (keep d xs))
    go (yes p) r = (λ a i. in_keep d (g.0 a i) (closed x a p i), r)
    go (no p) r = rw append-nil at r

-- ── the steps that a found formula uses ──

module _ (E : Setting) (rows : List StandingRow) (bound : ℕ) (bank : List Formula) (f : Formula) (k : Found E (Formed E) (column E rows) (Wanted rows) bound bank f) where
  bank_closed : (x a : Formula) → In x bank → In a (args x) → In a bank
  bank_closed x a h i = grounded_args [] bank k.grounded x a h i

  pub proper_banked : (g : Formula) → In g (parts f) → (g ≡ f) ⊎ In g bank
  proper_banked = go f k.from
    where
      go : (u : Formula) → ((x : Formula) → In x (args u) → In x bank) → (g : Formula) → In g (parts u) → (g ≡ u) ⊎ In g bank
      go (channel i) from g h = in_split (λ e. inl e) (λ j. in_none j) h
      go (operator n fs) from g h = in_split (λ e. inl e) (λ j. inr (banked_parts_of bank bank_closed fs from g j)) h

  used_in : (g : Formula) → In g (used bank f) → In g (parts f)
  unfolding used
  used_in g h = elim (in_cases (keep (λ g. dec_in Formula-discrete g (parts f)) bank) h) [
    | inl i ↦ (in_keep_back (λ g. dec_in Formula-discrete g (parts f)) bank i).1
    | inr i ↦ in_split (λ e. subst (λ u. In u (parts f)) (sym e) (part_self f)) (λ j. in_none j) i
  ]

  used_all : (g : Formula) → In g (parts f) → In g (used bank f)
  unfolding used
  used_all g h = elim (proper_banked g h) [
    | inl e ↦ in_right (keep (λ g. dec_in Formula-discrete g (parts f)) bank) (here e)
    | inr i ↦ in_left (f ∷ []) (in_keep (λ g. dec_in Formula-discrete g (parts f)) i h)
  ]

  used-apart : Apart (used bank f)
  unfolding used
  used-apart = apart-append (keep (λ g. dec_in Formula-discrete g (parts f)) bank) (f ∷ [])
      (keep_apart (λ g. dec_in Formula-discrete g (parts f)) bank (apart_before (column E rows) bank k.apart))
      ((λ h. in_none h), tt)
      (λ x h i. in_split (λ e. k.unfit x (in_keep_back (λ g. dec_in Formula-discrete g (parts f)) bank h).0 (subst (λ u. Fits E rows u) (sym e) k.fits)) (λ j. in_none j) i)

  used-steps : StepsNumber f (length (used bank f))
  used-steps = record { named = used bank f; apart = used-apart; exactly = λ g. (used_in g, used_all g); number = refl }

  used-formed : (g : Formula) → In g (used bank f) → Formed E g
  unfolding used
  used-formed g h = elim (in_cases (keep (λ g. dec_in Formula-discrete g (parts f)) bank) h) [
    | inl i ↦ k.banked g (in_keep_back (λ g. dec_in Formula-discrete g (parts f)) bank i).0
    | inr i ↦ in_split (λ e. subst (λ u. Formed E u) (sym e) k.formed) (λ j. in_none j) i
  ]

  used_grounded : Grounded [] (used bank f)
  unfolding used
  used_grounded = grounded_append [] (keep (λ g. dec_in Formula-discrete g (parts f)) bank) (f ∷ [])
      (grounded_keep (λ g. dec_in Formula-discrete g (parts f)) (λ x a p i. part-argument f x a i p) [] bank k.grounded)
      (λ y h a i. in_split {C = In a (keep (λ g. dec_in Formula-discrete g (parts f)) bank)}
      (λ e. let j : In a (args f) = subst (λ u. In a (args u)) e i in in_keep (λ g. dec_in Formula-discrete g (parts f)) (k.from a j) (own_argument f a j)) (λ j. in_none j) h)

  pub used-few : length (used bank f) ≤ most_steps
  unfolding used
  used-few =
      let a = length-append (keep (λ g. dec_in Formula-discrete g (parts f)) bank) (f ∷ []) in
      let b = keep_length (λ g. dec_in Formula-discrete g (parts f)) bank in
      let c = k.room in
      omega arith

  used_last : get_or (used bank f) (length (used bank f) - 1) (channel 0) ≡ f
  unfolding used
  used_last =
      let kept : List Formula = keep (λ g. dec_in Formula-discrete g (parts f)) bank in
      let a = length-append kept (f ∷ []) in
      get_or_push kept f (channel 0) (length (kept ++ (f ∷ [])) - 1) (omega arith)

  used-some : 1 ≤ length (used bank f)
  unfolding used
  used-some = let a = length-append (keep (λ g. dec_in Formula-discrete g (parts f)) bank) (f ∷ []) in omega arith

-- ── the steps as they are kept ──

-- the place of a formula in a list
unfoldable pub place : Formula → List Formula → ℕ
place g [] = 0
place g (x ∷ xs) = choose (Formula-discrete g x) 0 (suc (place g xs))

-- the places of the arguments among the steps
abbrev pub places_in : List Formula → Formulas → List ℕ
places_in L nil = []
places_in L (cons f fs) = place f L ∷ places_in L fs

-- a part with the step numbers of its arguments
abbrev pub part_in : List Formula → Formula → Candidate
part_in L (channel i) = of_channel i
part_in L (operator k fs) = of_operator k (places_in L fs)

abbrev pub steps-by : List Formula → List Step
steps-by L = map as_step (map (part_in L) L)

place_inside : (a : Formula) (s : List Formula) → In a s → place a s < length s
unfolding place
place_inside a [] h = in_none h
place_inside a (x ∷ s) h = choose-by (λ p. p < suc (length s)) (Formula-discrete a x) (λ e. omega arith) (λ n. let r = place_inside a s (in_rest n h) in omega arith)

place_at : (a : Formula) (s : List Formula) → In a s → get_or s (place a s) (channel 0) ≡ a
unfolding place
place_at a [] h = in_none h
place_at a (x ∷ s) h = choose-by (λ p. get_or (x ∷ s) p (channel 0) ≡ a) (Formula-discrete a x) (λ e. sym e) (λ n. place_at a s (in_rest n h))

place_before : (a : Formula) (s t : List Formula) → In a s → place a (s ++ t) < length s
unfolding place
place_before a [] t h = in_none h
place_before a (x ∷ s) t h = choose-by (λ p. p < suc (length s)) (Formula-discrete a x) (λ e. omega arith) (λ n. let r = place_before a s t (in_rest n h) in omega arith)

-- the arguments of the i-th stand before it
grounded_at : (earlier xs : List Formula) → Grounded earlier xs → (i : ℕ) → i < length xs → (a : Formula) → In a (args (get_or xs i (channel 0))) → (place a (earlier ++ xs) < length earlier + i) × In a (earlier ++ xs)
grounded_at earlier [] g i l a h = absurd (omega arith)
grounded_at earlier (x ∷ xs) g zero l a h =
    let b = g.0 a h in
    let p = place_before a earlier (x ∷ xs) b in
    (omega arith, in_left (x ∷ xs) b)
grounded_at earlier (x ∷ xs) g (suc i) l a h =
    let r = grounded_at (earlier ++ (x ∷ [])) xs g.1 i (omega arith) a h in
    let e : (earlier ++ (x ∷ [])) ++ xs ≡ earlier ++ (x ∷ xs) = append_assoc earlier (x ∷ []) xs in
    let n = length-append earlier (x ∷ []) in
    let p : place a (earlier ++ (x ∷ xs)) < length (earlier ++ (x ∷ [])) + i = subst (λ u. place a u < length (earlier ++ (x ∷ [])) + i) e r.0 in
    (omega arith, subst (λ u. In a u) e r.1)

-- ── arguments that are not used are 0 ──

zeros-past : (n : ℕ) (is : List ℕ) (j : ℕ) → get_or (is ++ replicate n 0) j 0 ≡ get_or is j 0
zeros-past zero [] j = refl
zeros-past (suc n) [] zero = refl
zeros-past (suc n) [] (suc j) = zeros-past n [] j
zeros-past n (i ∷ is) zero = refl
zeros-past n (i ∷ is) (suc j) = zeros-past n is j

filled_at : (is : List ℕ) (j : ℕ) → j < most_arguments → get_or (filled_up is) j 0 ≡ get_or is j 0
filled_at is j l = get_or-take most_arguments (is ++ replicate most_arguments 0) j 0 l ∙ zeros-past most_arguments is j

filled_length : (is : List ℕ) → length (filled_up is) ≡ most_arguments
filled_length is =
    let a = length-take most_arguments (is ++ replicate most_arguments 0) in
    let b = length-append is (replicate most_arguments 0) in
    omega arith

places-used : (L : List Formula) (i : ℕ) (fs : Formulas) (j : ℕ) → ((a : Formula) → In a (formulas_in fs) → place a L < i) → j < count fs → get_or (places_in L fs) j 0 < i
places-used L i nil j h l = absurd (omega arith)
places-used L i (cons f fs) zero h l = h f (here refl)
places-used L i (cons f fs) (suc j) h l = places-used L i fs j (λ a k. h a (there k)) (omega arith)

places_unused : (L : List Formula) (fs : Formulas) (j : ℕ) → count fs ≤ j → get_or (places_in L fs) j 0 ≡ 0
places_unused L nil j l = refl
places_unused L (cons f fs) zero l = absurd (omega arith)
places_unused L (cons f fs) (suc j) l = places_unused L fs j (omega arith)

-- ── they are lawful and say the formula ──

module _ (E : Setting) (sb : SetBounds E.set) (L : List Formula) (formed : (x : Formula) → In x L → Formed E x) (grounded : Grounded [] L) (few : length L ≤ most_steps) where
  steps-length : length (steps-by L) ≡ length L
  steps-length = length-map (map (part_in L) L) as_step ∙ length-map L (part_in L)

  step_is : (i : ℕ) → i < length L → step_of (steps-by L) i ≡ as_step (part_in L (get_or L i (channel 0)))
  step_is i l =
      let n = length-map L (part_in L) in
      get_or-map as_step (map (part_in L) L) i (of_channel 0) no_step (omega arith) ∙ ap as_step (get_or-map (part_in L) L i (channel 0) (of_channel 0) l)

  wide : (x : Formula) → length (as_step (part_in L x)).args ≡ most_arguments
  wide (channel c) = filled_length []
  wide (operator k fs) = filled_length (places_in L fs)

  earlier : (i : ℕ) → i < length L → (a : Formula) → In a (args (get_or L i (channel 0))) → place a L < i
  earlier i l a h = let g = (grounded_at [] L grounded i l a h).0 in omega arith

  lawful-part : (i : ℕ) (x : Formula) → Formed E x → ((a : Formula) → In a (args x) → place a L < i) → LawfulStep E.set E.channels i (as_step (part_in L x))
  lawful-part i (channel c) wf before = record {
    known = wf;
    used_is_earlier = λ j l. absurd (omega arith);
    unused_is_0 = λ j l m. filled_at [] j m;
  }
  lawful-part i (operator k fs) wf before =
      let n = wf.1 in
      let small = sb.narrow k wf.0 in
      record {
        known = wf.0;
        used_is_earlier = λ j l.
            subst (λ p. p < i) (sym (filled_at (places_in L fs) j (omega arith))) (places-used L i fs j before (omega arith));
        unused_is_0 = λ j l m. filled_at (places_in L fs) j m ∙ places_unused L fs j (omega arith);
      }

  in_list : (i : ℕ) → i < length L → In (get_or L i (channel 0)) L
  in_list i l = at_in (get_or L i (channel 0)) L i (channel 0) l refl

  steps-lawful : 1 ≤ length L → LawfulSteps E.set E.channels (steps-by L)
  steps-lawful one =
      let n = steps-length in
      record {
        least = omega arith;
        most = omega arith;
        wide = λ i h. let l : i < length L = omega arith in ap (λ (s : Step). length s.args) (step_is i l) ∙ wide (get_or L i (channel 0));
        each = λ i h.
            let l : i < length L = omega arith in
            subst (λ s. LawfulStep E.set E.channels i s) (sym (step_is i l)) (lawful-part i (get_or L i (channel 0)) (formed _ (in_list i l)) (earlier i l));
      }

  mutual
    says_at : (f : Formula) (i : ℕ) → i < length L → get_or L i (channel 0) ≡ f → StepSays E.set (steps-by L) i f
    says_at (channel c) i l e =
        let n = steps-length in
        (omega arith, ap (λ (s : Step). s.top) (step_is i l ∙ ap (λ x. as_step (part_in L x)) e))
    says_at (operator k fs) i l e =
        let n = steps-length in
        let wf : Formed E (operator k fs) = subst (Formed E) e (formed _ (in_list i l)) in
        let c = sb.narrow k wf.0 in
        let d = wf.1 in
        let is : step_of (steps-by L) i ≡ as_step (part_in L (operator k fs)) = step_is i l ∙ ap (λ x. as_step (part_in L x)) e in (
          omega arith,
          ap (λ (s : Step). s.top) is,
          wf.1,
          says_from fs i 0 l
              (λ j m. ap (λ (s : Step). argument_of s (0 + j)) is ∙ ap (λ n. get_or (filled_up (places_in L fs)) n 0) (none_plus j) ∙ filled_at (places_in L fs) j (omega arith))
              (λ g h. earlier i l g (subst (λ u. In g (args u)) (sym e) h))
              (λ g h. (grounded_at [] L grounded i l g (subst (λ u. In g (args u)) (sym e) h)).1),
        )

    says_from : (fs : Formulas) (i j : ℕ) → i < length L → ((n : ℕ) → n < count fs → argument_of (step_of (steps-by L) i) (j + n) ≡ get_or (places_in L fs) n 0) →
        ((g : Formula) → In g (formulas_in fs) → place g L < i) → ((g : Formula) → In g (formulas_in fs) → In g L) → ArgumentsSay E.set (steps-by L) i j fs
    says_from nil i j l at before within = tt
    says_from (cons f fs) i j l at before within =
        let p : get_or L (place f L) (channel 0) ≡ f = place_at f L (within f (here refl)) in
        let q : place f L < length L = place_inside f L (within f (here refl)) in
        let b : place f L < i = before f (here refl) in
        let r : argument_of (step_of (steps-by L) i) j ≡ place f L = ap (argument_of (step_of (steps-by L) i)) (plus_none j) ∙ at 0 (omega arith) in (
          omega arith,
          subst (λ u. StepSays E.set (steps-by L) u f) (sym r) (says_at f (place f L) q p),
          says_from fs i (suc j) l (λ n m. ap (argument_of (step_of (steps-by L) i)) (plus_one j n) ∙ at (suc n) (omega arith)) (λ g h. before g (there h)) (λ g h. within g (there h)),
        )

pub found-lightest : (E : Setting) (rows : List StandingRow) (bound : ℕ) (bank : List Formula) (f : Formula) → Found E (Formed E) (column E rows) (Wanted rows) bound bank f → Lightest E rows (weight E f) (length (used bank f)) f
found-lightest E rows bound bank f k = record { formed = k.formed; fits = k.fits; weighs = refl; steps = used-steps E rows bound bank f k; least = k.least }

pub found-written : (E : Setting) → SetBounds E.set → E.channels ≤ most_channels → (rows : List StandingRow) (bound : ℕ) (bank : List Formula) (f : Formula) → Found E (Formed E) (column E rows) (Wanted rows) bound bank f →
    WrittenFormula E rows (weight E f) (length (used bank f)) (record_of (steps-by (used bank f)))
found-written E sb chans rows bound bank f k =
    let L : List Formula = used bank f in
    let one = used-some E rows bound bank f k in
    let formed = used-formed E rows bound bank f k in
    let grounded = used_grounded E rows bound bank f k in
    let few = used-few E rows bound bank f k in
    let n = steps-length E sb L formed grounded few in
    let back = reads_back_few (steps-by L) E.set E.channels sb.few chans (steps-lawful E sb L formed grounded few one) in
    let last : length L - 1 ≡ length (steps-by L) - 1 = ap (λ m. m - 1) (sym n) in
    record {
      lawful = back.0;
      number = omega arith;
      formula = f;
      says = subst (λ s. StepSays E.set s (length s - 1) f) (sym back.1)
          (subst (λ i. StepSays E.set (steps-by L) i f) last (says_at E sb L formed grounded few f (length L - 1) (omega arith) (used_last E rows bound bank f k)));
      lightest = found-lightest E rows bound bank f k;
    }
