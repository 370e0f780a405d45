-- The marks are on the parts: the steps that are counted and written from places are the different parts of the formula.
use Rattle.std.proofs.Common.{◌≡◌, ℕ, zero, suc, ◌+◌, ◌<◌, ◌≤◌, Bool, true, false, cond, ◌⊎◌, List, [], ◌∷◌, ◌++◌, map, length, get_or, take, set, replicate, sym, refl, ap, ◌∙◌, subst, ap₂, inl, inr, arith, length-append, length-set}
use native.Mathlib.Decide.{ℕ_discrete}
use lib.ListN.{length-replicate}
use Rattle.std.proofs.lemmas.List.{get_or_append_left, get_or_push, get_or-map, length-map, get_or-set_same, get_or-set_other, append_assoc, append-nil}
use Rattle.rows.specs.Rows.{StandingRow}
use Rattle.formulas.specs.Setting.{Setting}
use Rattle.formulas.specs.Formula.{Formula, Formulas, channel, operator, nil, cons, Formula-discrete, parts, parts_of, column, Apart}
use Rattle.formulas.specs.Steps.{most_places}
use Rattle.search.specs.Lists.{In, here, there, dec_in}
use Rattle.search.specs.Places.{Candidate, of_channel, of_operator, Place}
use Rattle.search.specs.Stored.{no_place}
use Rattle.search.specs.Marks.{arguments_of, mark, marks, tally, used_marks, steps_at, rank, renumbered, marked_steps, steps_of as numbered_steps}
use Rattle.promise.specs.Steps.{as_step, steps_of}
use Rattle.search.proofs.Lists.{choose-by, in_none, in_split, map-append, at_in}
use Rattle.promise.proofs.Lists.{keep, in_cases, in_left, in_right}
use Rattle.promise.proofs.Rules.{columns, used}
use Rattle.promise.proofs.Places.{picked, made, formulas, AllBelow, InRange, Holds, made_more}
use Rattle.promise.proofs.Written.{part_self, place, places_in, part_in, steps-by}

-- ── parts of parts ──

mutual
  parts_trans : (f : Formula) (a b : Formula) → In a (parts b) → In b (parts f) → In a (parts f)
  parts_trans (channel i) a b ia (here e) = subst (λ u. In a (parts u)) e ia
  parts_trans (channel i) a b ia (there j) = in_none j
  parts_trans (operator k fs) a b ia (here e) = subst (λ u. In a (parts u)) e ia
  parts_trans (operator k fs) a b ia (there j) = there (parts_of_trans fs a b ia j)

  parts_of_trans : (fs : Formulas) (a b : Formula) → In a (parts b) → In b (parts_of fs) → In a (parts_of fs)
  parts_of_trans nil a b ia j = in_none j
  parts_of_trans (cons f fs) a b ia j = both (in_cases (parts f) j) (parts_trans f a b ia) (parts_of_trans fs a b ia)
    where
      both : In b (parts f) ⊎ In b (parts_of fs) → (In b (parts f) → In a (parts f)) → (In b (parts_of fs) → In a (parts_of fs)) → In a (parts f ++ parts_of fs)
      both (inl u) p q = in_left (parts_of fs) (p u)
      both (inr u) p q = in_right (parts f) (q u)

-- ── marks ──

abbrev On : List Bool → ℕ → Type 0
On u j = get_or u j false ≡ true

mark_on : (is : List ℕ) (u : List Bool) (j : ℕ) → j < length u → In j is ⊎ On u j → On (mark is u) j
mark_on [] u j l (inl i) = in_none i
mark_on [] u j l (inr o) = o
mark_on (i ∷ is) u j l h = mark_on is (set u i true) j (let e = length-set u i true in omega arith) (go (ℕ_discrete j i) h)
  where
    go : Dec (j ≡ i) → In j (i ∷ is) ⊎ On u j → In j is ⊎ On (set u i true) j
    go (yes e) k = inr (subst (λ v. On (set u v true) j) e (get_or-set_same u j true false l))
    go (no n) (inl (here e)) = absurd (n e)
    go (no n) (inl (there k)) = inl k
    go (no n) (inr o) = inr (get_or-set_other u i j true false n ∙ o)

mark_off : (is : List ℕ) (u : List Bool) (j : ℕ) → On (mark is u) j → In j is ⊎ On u j
mark_off [] u j o = inr o
mark_off (i ∷ is) u j o = go (ℕ_discrete j i) (mark_off is (set u i true) j o)
  where
    go : Dec (j ≡ i) → In j is ⊎ On (set u i true) j → In j (i ∷ is) ⊎ On u j
    go (yes e) k = inl (here e)
    go (no n) (inl k) = inl (there k)
    go (no n) (inr k) = inr (sym (get_or-set_other u i j true false n) ∙ k)

length-mark : (is : List ℕ) (u : List Bool) → length (mark is u) ≡ length u
length-mark [] u = refl
length-mark (i ∷ is) u = length-mark is (set u i true) ∙ length-set u i true

-- as many marks as elements kept, where the marks are on those that pass
tally_keep : {Q : Formula → Type 0} (d : (g : Formula) → Dec (Q g)) (xs : List Formula) (u : List Bool) → length xs ≤ length u →
    ((j : ℕ) → j < length xs → On u j → Q (get_or xs j (channel 0))) → ((j : ℕ) → j < length xs → Q (get_or xs j (channel 0)) → On u j) → ((j : ℕ) → length xs ≤ j → On u j → ⊥) → tally u ≡ length (keep d xs)
tally_keep d [] [] l on off past = refl
tally_keep d [] (true ∷ u) l on off past = absurd (past 0 (omega arith) refl)
tally_keep d [] (false ∷ u) l on off past = tally_keep d [] u (omega arith) (λ j m o. absurd (omega arith)) (λ j m q. absurd (omega arith)) (λ j m o. past (suc j) (omega arith) o)
tally_keep d (x ∷ xs) [] l on off past = absurd (omega arith)
tally_keep {Q = Q} d (x ∷ xs) (true ∷ u) l on off past =
    let r = tally_keep d xs u (omega arith) (λ j m o. on (suc j) (omega arith) o) (λ j m q. off (suc j) (omega arith) q) (λ j m o. past (suc j) (omega arith) o) in
    choose-by {A = List Formula} (λ k. suc (tally u) ≡ length k) (d x) (λ q. ap suc r) (λ n. absurd (n (on 0 (omega arith) refl)))
tally_keep {Q = Q} d (x ∷ xs) (false ∷ u) l on off past =
    let r = tally_keep d xs u (omega arith) (λ j m o. on (suc j) (omega arith) o) (λ j m q. off (suc j) (omega arith) q) (λ j m o. past (suc j) (omega arith) o) in
    choose-by {A = List Formula} (λ k. tally u ≡ length k) (d x) (λ q. absurd (let z : false ≡ true = off 0 (omega arith) q in let y : ◌≡◌ {A = ℕ} 0 1 = cc in omega arith)) (λ n. r)

-- what the marked places are made of
used_tops : List Bool → List Place → List Candidate
used_tops [] ps = []
used_tops (b ∷ u) [] = []
used_tops (b ∷ u) (p ∷ ps) = cond b (p.top ∷ used_tops u ps) (used_tops u ps)

keep_tops : {Q : Formula → Type 0} (d : (g : Formula) → Dec (Q g)) (mk : Candidate → Formula) (xs : List Formula) (ps : List Place) (u : List Bool) → length ps ≡ length xs → length xs ≤ length u →
    ((j : ℕ) → j < length xs → get_or xs j (channel 0) ≡ mk (get_or ps j no_place).top) →
    ((j : ℕ) → j < length xs → On u j → Q (get_or xs j (channel 0))) → ((j : ℕ) → j < length xs → Q (get_or xs j (channel 0)) → On u j) → keep d xs ≡ map mk (used_tops u ps)
unfolding used_tops
keep_tops d mk [] [] [] n l e on off = refl
keep_tops d mk [] [] (b ∷ u) n l e on off = refl
keep_tops d mk [] (p ∷ ps) u n l e on off = absurd (omega arith)
keep_tops d mk (x ∷ xs) [] u n l e on off = absurd (omega arith)
keep_tops d mk (x ∷ xs) (p ∷ ps) [] n l e on off = absurd (omega arith)
keep_tops d mk (x ∷ xs) (p ∷ ps) (true ∷ u) n l e on off =
    let r = keep_tops d mk xs ps u (omega arith) (omega arith) (λ j m. e (suc j) (omega arith)) (λ j m o. on (suc j) (omega arith) o) (λ j m q. off (suc j) (omega arith) q) in
    choose-by {A = List Formula} (λ k. k ≡ mk p.top ∷ map mk (used_tops u ps)) (d x) (λ q. ap₂ (λ (a : Formula) (l : List Formula). a ∷ l) (e 0 (omega arith)) r) (λ n. absurd (n (on 0 (omega arith) refl)))
keep_tops d mk (x ∷ xs) (p ∷ ps) (false ∷ u) n l e on off =
    let r = keep_tops d mk xs ps u (omega arith) (omega arith) (λ j m. e (suc j) (omega arith)) (λ j m o. on (suc j) (omega arith) o) (λ j m q. off (suc j) (omega arith) q) in
    choose-by {A = List Formula} (λ k. k ≡ map mk (used_tops u ps)) (d x) (λ q. absurd (let z : false ≡ true = off 0 (omega arith) q in let y : ◌≡◌ {A = ℕ} 0 1 = cc in omega arith)) (λ n. r)

-- the number of a step is the number of marks before its place
place_tally : {Q : Formula → Type 0} (d : (g : Formula) → Dec (Q g)) (xs : List Formula) (u : List Bool) (rest : List Formula) (i : ℕ) → i < length xs → length xs ≤ length u →
    ((j : ℕ) → j < length xs → get_or xs j (channel 0) ≡ get_or xs i (channel 0) → j ≡ i) →
    ((j : ℕ) → j < length xs → On u j → Q (get_or xs j (channel 0))) → ((j : ℕ) → j < length xs → Q (get_or xs j (channel 0)) → On u j) → Q (get_or xs i (channel 0)) →
    place (get_or xs i (channel 0)) (keep d xs ++ rest) ≡ tally (take i u)
unfolding place
place_tally d [] u rest i l m same on off q = absurd (omega arith)
place_tally d (x ∷ xs) [] rest i l m same on off q = absurd (omega arith)
place_tally d (x ∷ xs) (b ∷ u) rest zero l m same on off q =
    choose-by {A = List Formula} (λ k. place x (k ++ rest) ≡ 0) (d x) (λ _. choose-by {A = ℕ} (λ n. n ≡ 0) (Formula-discrete x x) (λ _. refl) (λ n. absurd (n refl))) (λ n. absurd (n q))
place_tally d (x ∷ xs) (true ∷ u) rest (suc i) l m same on off q =
    let r = place_tally d xs u rest i (omega arith) (omega arith) (λ j k e. let z = same (suc j) (omega arith) e in omega arith) (λ j k o. on (suc j) (omega arith) o) (λ j k z. off (suc j) (omega arith) z) q in
    choose-by {A = List Formula} (λ k. place (get_or xs i (channel 0)) (k ++ rest) ≡ suc (tally (take i u))) (d x)
    (λ _. choose-by {A = ℕ} (λ n. n ≡ suc (tally (take i u))) (Formula-discrete (get_or xs i (channel 0)) x) (λ e. absurd (let z = same 0 (omega arith) (sym e) in omega arith)) (λ _. ap suc r))
    (λ n. absurd (n (on 0 (omega arith) refl)))
place_tally d (x ∷ xs) (false ∷ u) rest (suc i) l m same on off q =
    let r = place_tally d xs u rest i (omega arith) (omega arith) (λ j k e. let z = same (suc j) (omega arith) e in omega arith) (λ j k o. on (suc j) (omega arith) o) (λ j k z. off (suc j) (omega arith) z) q in
    choose-by {A = List Formula} (λ k. place (get_or xs i (channel 0)) (k ++ rest) ≡ tally (take i u)) (d x)
    (λ p. absurd (let z : false ≡ true = off 0 (omega arith) p in let y : ◌≡◌ {A = ℕ} 0 1 = cc in omega arith)) (λ _. r)

used-top-at : (u : List Bool) (ps : List Place) (x : Candidate) → In x (used_tops u ps) → (k : ℕ) × (k < length ps) × On u k × (x ≡ (get_or ps k no_place).top)
unfolding used_tops
used-top-at [] ps x i = in_none i
used-top-at (b ∷ u) [] x i = in_none i
used-top-at (true ∷ u) (p ∷ ps) x (here e) = (0, omega arith, refl, e)
used-top-at (true ∷ u) (p ∷ ps) x (there i) = let r = used-top-at u ps x i in (suc r.0, (let l = r.1 in omega arith), r.2, r.3)
used-top-at (false ∷ u) (p ∷ ps) x i = let r = used-top-at u ps x i in (suc r.0, (let l = r.1 in omega arith), r.2, r.3)

-- the marked places as candidates, and with step numbers for places
marked-is : (u v : List Bool) (ps : List Place) → marked_steps u v ps ≡ map (renumbered u) (used_tops v ps)
unfolding used_tops
marked-is u [] ps = refl
marked-is u (b ∷ v) [] = refl
marked-is u (true ∷ v) (p ∷ ps) = ap (λ l. renumbered u p.top ∷ l) (marked-is u v ps)
marked-is u (false ∷ v) (p ∷ ps) = marked-is u v ps

ranks_right : (bank L : List Formula) (u : List Bool) (is : List ℕ) → ((i : ℕ) → In i is → place (get_or bank i (channel 0)) L ≡ rank u i) → map (rank u) is ≡ places_in L (picked bank is)
ranks_right bank L u [] at = refl
ranks_right bank L u (i ∷ is) at = ap₂ (λ (a : ℕ) (rest : List ℕ). a ∷ rest) (sym (at i (here refl))) (ranks_right bank L u is (λ j h. at j (there h)))

renumbered-right : (bank L : List Formula) (u : List Bool) (x : Candidate) → ((i : ℕ) → In i (arguments_of x) → place (get_or bank i (channel 0)) L ≡ rank u i) → renumbered u x ≡ part_in L (made bank x)
renumbered-right bank L u (of_channel i) at = refl
renumbered-right bank L u (of_operator k is) at = ap (of_operator k) (ranks_right bank L u is at)

map_like : {A B C : Type 0} (f : A → C) (g : B → C) (h : A → B) (xs : List A) → ((x : A) → In x xs → f x ≡ g (h x)) → map f xs ≡ map g (map h xs)
map_like f g h [] e = refl
map_like {C = C} f g h (x ∷ xs) e = ap₂ (λ (a : C) (rest : List C). a ∷ rest) (e x (here refl)) (map_like f g h xs (λ y i. e y (there i)))

-- ── numbers of places ──

args_below : (n : ℕ) (t : Candidate) (j : ℕ) → InRange n t → In j (arguments_of t) → j < n
args_below n (of_channel i) j r h = in_none h
args_below n (of_operator k is) j r h = go is r h
  where
    go : (is : List ℕ) → AllBelow n is → In j is → j < n
    go [] b i = in_none i
    go (i ∷ is) b (here e) = let a = b.0 in omega arith
    go (i ∷ is) b (there k) = go is b.1 k

apart_index : {A : Type 0} (xs : List A) (d : A) (i j : ℕ) → Apart xs → i < length xs → j < length xs → get_or xs i d ≡ get_or xs j d → i ≡ j
apart_index [] d i j a li lj e = absurd (omega arith)
apart_index (x ∷ xs) d zero zero a li lj e = refl
apart_index (x ∷ xs) d zero (suc j) a li lj e = absurd (a.0 (at_in x xs j d (omega arith) (sym e)))
apart_index (x ∷ xs) d (suc i) zero a li lj e = absurd (a.0 (at_in x xs i d (omega arith) e))
apart_index (x ∷ xs) d (suc i) (suc j) a li lj e = ap suc (apart_index xs d i j a.1 (omega arith) (omega arith) e)

-- ── the formula at a place ──

formulas_extends : (built : List Formula) (ps : List Place) → (more : List Formula) × (formulas built ps ≡ built ++ more)
formulas_extends built [] = ([], sym (append-nil built))
formulas_extends built (p ∷ ps) = let r = formulas_extends (built ++ (made built p.top ∷ [])) ps in (made built p.top ∷ r.0, r.1 ∙ append_assoc built (made built p.top ∷ []) r.0)

formulas_at : (built : List Formula) (ps : List Place) (i n : ℕ) (p : Place) → i < length ps → n ≡ length built + i → InRange n (get_or ps i p).top → get_or (formulas built ps) n (channel 0) ≡ made (formulas built ps) (get_or ps i p).top
formulas_at built [] i n p l e r = absurd (omega arith)
formulas_at built (q ∷ ps) zero n p l e r =
    let x = formulas_extends built (q ∷ ps) in
    let y = formulas_extends (built ++ (made built q.top ∷ [])) ps in
    let m : n ≡ length built = omega arith in
    let len = length-append built (made built q.top ∷ []) in
    ap (λ l. get_or l n (channel 0)) y.1
    ∙ get_or_append_left (built ++ (made built q.top ∷ [])) y.0 (channel 0) n (omega arith)
    ∙ get_or_push built (made built q.top) (channel 0) n (sym m)
    ∙ sym (ap (λ l. made l q.top) x.1 ∙ made_more built x.0 q.top (subst (λ k. InRange k q.top) m r))
formulas_at built (q ∷ ps) (suc i) n p l e r =
    let len = length-append built (made built q.top ∷ []) in
    formulas_at (built ++ (made built q.top ∷ [])) ps i n p (omega arith) (omega arith) r

module _ (E : Setting) (rows : List StandingRow) (places : List Place) (bank : List Formula) (h : Holds E rows places bank) (apart : Apart (columns E rows bank)) where
  abbrev B : ℕ → Formula
  B i = get_or bank i (channel 0)

  abbrev T : ℕ → Candidate
  T i = (get_or places i no_place).top

  made_at : (i : ℕ) → i < length bank → B i ≡ made bank (T i)
  made_at i l =
      let n = h.long in
      subst (λ b. get_or b i (channel 0) ≡ made b (T i)) h.says (formulas_at [] places i i no_place (omega arith) (omega arith) (h.ordered i no_place l))

  same_place : (i j : ℕ) → i < length bank → j < length bank → B i ≡ B j → i ≡ j
  same_place i j li lj e =
      let n = length-map bank (column E rows) in
      apart_index (columns E rows bank) [] i j apart (omega arith) (omega arith)
      (get_or-map (column E rows) bank i (channel 0) [] li ∙ ap (column E rows) e ∙ sym (get_or-map (column E rows) bank j (channel 0) [] lj))

  picked_part : (is : List ℕ) (g : Formula) → In g (parts_of (picked bank is)) → (k : ℕ) × In k is × In g (parts (B k))
  picked_part [] g i = in_none i
  picked_part (k ∷ is) g i = go (in_cases (parts (B k)) i) (picked_part is g)
    where
      go : In g (parts (get_or bank k (channel 0))) ⊎ In g (parts_of (picked bank is)) → (In g (parts_of (picked bank is)) → (k : ℕ) × In k is × In g (parts (get_or bank k (channel 0)))) → (j : ℕ) × In j (k ∷ is) × In g (parts (get_or bank j (channel 0)))
      go (inl p) r = (k, here refl, p)
      go (inr p) r = let t = r p in (t.0, there t.1, t.2)

  part_picked : (is : List ℕ) (g : Formula) (k : ℕ) → In k is → In g (parts (B k)) → In g (parts_of (picked bank is))
  part_picked [] g k i p = in_none i
  part_picked (j ∷ is) g k (here e) p = in_left (parts_of (picked bank is)) (subst (λ v. In g (parts (get_or bank v (channel 0)))) e p)
  part_picked (j ∷ is) g k (there i) p = in_right (parts (B j)) (part_picked is g k i p)

  -- a part of what a top says: itself, or one of an argument's
  part_of_top : (t : Candidate) (g : Formula) → In g (parts (made bank t)) → (g ≡ made bank t) ⊎ ((k : ℕ) × In k (arguments_of t) × In g (parts (B k)))
  part_of_top (of_channel i) g (here e) = inl e
  part_of_top (of_channel i) g (there j) = in_none j
  part_of_top (of_operator k is) g (here e) = inl e
  part_of_top (of_operator k is) g (there j) = inr (picked_part is g j)

  arg_part : (t : Candidate) (k : ℕ) → In k (arguments_of t) → In (B k) (parts (made bank t))
  arg_part (of_channel i) k j = in_none j
  arg_part (of_operator o is) k j = there (part_picked is (B k) k j (part_self (B k)))

  module _ (t : Candidate) (range : InRange (length bank) t) (fresh : In (made bank t) bank → ⊥) where
    abbrev P : ℕ → Type 0
    P j = In (B j) (parts (made bank t))

    -- j is an argument of the formula itself, or of a part at a place from i on
    abbrev Need : ℕ → ℕ → Type 0
    Need i j = In j (arguments_of t) ⊎ ((k : ℕ) × (i ≤ k) × (k < length bank) × P k × In j (arguments_of (T k)))

    need_part : (i j : ℕ) → Need i j → P j
    need_part i j (inl a) = arg_part t j a
    need_part i j (inr n) = parts_trans (made bank t) (B j) (B n.0) (subst (λ u. In (B j) (parts u)) (sym (made_at n.0 n.2)) (arg_part (T n.0) j n.4)) n.3

    need_below : (i j : ℕ) → Need i j → j < length bank
    need_below i j (inl a) = args_below (length bank) t j range a
    need_below i j (inr n) = let a = args_below n.0 (T n.0) j (h.ordered n.0 no_place n.2) n.4 in let b = n.2 in omega arith

    chain : (fuel i k : ℕ) → k < fuel → i < length bank → k < length bank → P k → In (B i) (parts (B k)) → (i ≡ k) ⊎ ((q : ℕ) × (suc i ≤ q) × (q < length bank) × P q × In i (arguments_of (T q)))
    chain zero i k f li lk p c = absurd (omega arith)
    chain (suc fuel) i k f li lk p c =
        go (part_of_top (T k) (B i) (subst (λ u. In (B i) (parts u)) (made_at k lk) c)) (chain fuel i)
      where
        go : (get_or bank i (channel 0) ≡ made bank (get_or places k no_place).top) ⊎ ((q : ℕ) × In q (arguments_of (get_or places k no_place).top) × In (get_or bank i (channel 0)) (parts (get_or bank q (channel 0)))) →
            ((q : ℕ) → q < fuel → i < length bank → q < length bank → In (get_or bank q (channel 0)) (parts (made bank t)) → In (get_or bank i (channel 0)) (parts (get_or bank q (channel 0))) → (i ≡ q) ⊎ ((z : ℕ) × (suc i ≤ z) × (z < length bank) × In (get_or bank z (channel 0)) (parts (made bank t)) × In i (arguments_of (get_or places z no_place).top))) →
            (i ≡ k) ⊎ ((z : ℕ) × (suc i ≤ z) × (z < length bank) × In (get_or bank z (channel 0)) (parts (made bank t)) × In i (arguments_of (get_or places z no_place).top))
        go (inl e) r = inl (same_place i k li lk (e ∙ sym (made_at k lk)))
        go (inr q) r =
            let less = args_below k (T k) q.0 (h.ordered k no_place lk) q.1 in
            let up = parts_trans (made bank t) (B q.0) (B k) (subst (λ u. In (B q.0) (parts u)) (sym (made_at k lk)) (arg_part (T k) q.0 q.1)) p in
            elim (r q.0 (omega arith) li (omega arith) up q.2) [
              | inl e ↦ inr (k, omega arith, lk, p, subst (λ v. In v (arguments_of (T k))) (sym e) q.1)
              | inr z ↦ inr z
            ]

    part_need : (i : ℕ) → i < length bank → P i → Need (suc i) i
    part_need i l p = go (part_of_top t (B i) p)
      where
        go : (get_or bank i (channel 0) ≡ made bank t) ⊎ ((k : ℕ) × In k (arguments_of t) × In (get_or bank i (channel 0)) (parts (get_or bank k (channel 0)))) → In i (arguments_of t) ⊎ ((k : ℕ) × (suc i ≤ k) × (k < length bank) × In (get_or bank k (channel 0)) (parts (made bank t)) × In i (arguments_of (get_or places k no_place).top))
        go (inl e) = absurd (fresh (at_in (made bank t) bank i (channel 0) l e))
        go (inr q) =
            let lq = args_below (length bank) t q.0 range q.1 in
            elim (chain (suc q.0) i q.0 (omega arith) l lq (arg_part t q.0 q.1) q.2) [
              | inl e ↦ inl (subst (λ v. In v (arguments_of t)) (sym e) q.1)
              | inr z ↦ inr z
            ]

    need_more : (i i' j : ℕ) → i ≤ i' → Need i' j → Need i j
    need_more i i' j l (inl a) = inl a
    need_more i i' j l (inr n) = inr (n.0, (let b = n.1 in omega arith), n.2, n.3, n.4)

    -- from i on the marks are worked off: what is marked is what is needed
    record Marked (i : ℕ) (u : List Bool) : Type 0 where
      long : length u ≡ most_places
      on : (j : ℕ) → Need i j → On u j
      off : (j : ℕ) → On u j → Need i j

    module _ (room : length bank ≤ most_places) where
      one_down : (i : ℕ) (u : List Bool) → i < length bank → Marked (suc i) u → (b : Bool) → get_or u i false ≡ b → Marked i (cond b (mark (arguments_of (T i)) u) u)
      one_down i u l k true e = record {
        long = length-mark (arguments_of (T i)) u ∙ k.long;
        on = λ j n. mark_on (arguments_of (T i)) u j (let a = need_below i j n in let b = k.long in omega arith) (on j n);
        off = λ j o. elim (mark_off (arguments_of (T i)) u j o) [
          | inl a ↦ inr (i, omega arith, l, need_part (suc i) i (k.off i e), a)
          | inr a ↦ need_more i (suc i) j (omega arith) (k.off j a)
        ];
      }
        where
          on : (j : ℕ) → Need i j → In j (arguments_of (get_or places i no_place).top) ⊎ On u j
          on j (inl a) = inr (k.on j (inl a))
          on j (inr n) = at (ℕ_discrete n.0 i)
            where
              at : Dec (n.0 ≡ i) → In j (arguments_of (get_or places i no_place).top) ⊎ On u j
              at (yes q) = inl (subst (λ v. In j (arguments_of (get_or places v no_place).top)) q n.4)
              at (no q) = inr (k.on j (inr (n.0, (let b = n.1 in omega arith), n.2, n.3, n.4)))
      one_down i u l k false e = record {
        long = k.long;
        on = on;
        off = λ j o. need_more i (suc i) j (omega arith) (k.off j o);
      }
        where
          on : (j : ℕ) → Need i j → On u j
          on j (inl a) = k.on j (inl a)
          on j (inr n) = at (ℕ_discrete n.0 i)
            where
              at : Dec (n.0 ≡ i) → On u j
              at (yes q) =
                  let o = k.on i (part_need i l (subst (λ v. In (get_or bank v (channel 0)) (parts (made bank t))) q n.3)) in
                  absurd (let z : false ≡ true = sym e ∙ o in let y : ◌≡◌ {A = ℕ} 0 1 = cc in omega arith)
              at (no q) = k.on j (inr (n.0, (let b = n.1 in omega arith), n.2, n.3, n.4))

      all_down : (i : ℕ) (u : List Bool) → i ≤ length bank → Marked i u → Marked 0 (marks places i u)
      all_down zero u l k = k
      all_down (suc i) u l k = all_down i (cond (get_or u i false) (mark (arguments_of (T i)) u) u) (omega arith) (one_down i u (omega arith) k (get_or u i false) refl)

      first_marks : Marked (length bank) (mark (arguments_of t) (replicate most_places false))
      first_marks = record {
        long = length-mark (arguments_of t) (replicate most_places false) ∙ length-replicate most_places false;
        on = λ j n. elim n [
          | inl a ↦ mark_on (arguments_of t) (replicate most_places false) j (let b = args_below (length bank) t j range a in let c = length-replicate {A = Bool} most_places false in omega arith) (inl a)
          | inr q ↦ absurd (let a = q.1 in let b = q.2 in omega arith)
        ];
        off = λ j o. elim (mark_off (arguments_of t) (replicate most_places false) j o) [
          | inl a ↦ inl a
          | inr a ↦ absurd (let z : false ≡ true = sym (none_on most_places j) ∙ a in let y : ◌≡◌ {A = ℕ} 0 1 = cc in omega arith)
        ];
      }
        where
          none_on : (n j : ℕ) → get_or (replicate n false) j false ≡ false
          none_on zero j = refl
          none_on (suc n) zero = refl
          none_on (suc n) (suc j) = none_on n j

      marked : Marked 0 (used_marks places t)
      unfolding used_marks
      marked = let e = h.long in subst (λ n. Marked 0 (marks places n (mark (arguments_of t) (replicate most_places false)))) (sym e) (all_down (length bank) (mark (arguments_of t) (replicate most_places false)) (omega arith) first_marks)

      steps-right : steps_at places t ≡ length (used bank (made bank t))
      unfolding used
      steps-right =
          let k = marked in
          let e = length-append (keep (λ g. dec_in Formula-discrete g (parts (made bank t))) bank) (made bank t ∷ []) in
          let q = tally_keep (λ g. dec_in Formula-discrete g (parts (made bank t))) bank (used_marks places t) (let a = k.long in omega arith) (λ j l o. need_part 0 j (k.off j o)) (λ j l p. k.on j (need_more 0 (suc j) j (omega arith) (part_need j l p))) (λ j l o. let a = need_below 0 j (k.off j o) in omega arith) in
          omega arith

      -- ── the record ──

      abbrev part? : (g : Formula) → Dec (In g (parts (made bank t)))
      part? g = dec_in Formula-discrete g (parts (made bank t))

      arg_place : (i : ℕ) → Need 0 i → place (B i) (used bank (made bank t)) ≡ tally (take i (used_marks places t))
      unfolding used
      arg_place i n =
          let k = marked in
          let l = need_below 0 i n in
          place_tally part? bank (used_marks places t) (made bank t ∷ []) i l (let a = k.long in omega arith) (λ j m e. same_place j i m l e) (λ j m o. need_part 0 j (k.off j o)) (λ j m p. k.on j (need_more 0 (suc j) j (omega arith) (part_need j m p))) (need_part 0 i n)

      args_need : (x : Candidate) → In x (used_tops (used_marks places t) places ++ (t ∷ [])) → (i : ℕ) → In i (arguments_of x) → Need 0 i
      args_need x j i a = go (in_cases (used_tops (used_marks places t) places) j)
        where
          go : In x (used_tops (used_marks places t) places) ⊎ In x (t ∷ []) → Need 0 i
          go (inl u) =
              let r = used-top-at (used_marks places t) places x u in
              let n = h.long in
              let m = r.1 in
              inr (r.0, omega arith, omega arith, need_part 0 r.0 (marked.off r.0 r.2), subst (λ v. In i (arguments_of v)) r.3 a)
          go (inr u) = inl (in_split (λ e. subst (λ v. In i (arguments_of v)) e a) (λ z. in_none z) u)

      steps_are : used bank (made bank t) ≡ map (made bank) (used_tops (used_marks places t) places ++ (t ∷ []))
      unfolding used
      steps_are =
          let k = marked in
          ap (λ l. l ++ (made bank t ∷ [])) (keep_tops part? (made bank) bank places (used_marks places t) h.long (let a = k.long in omega arith) (λ j m. made_at j m) (λ j m o. need_part 0 j (k.off j o)) (λ j m p. k.on j (need_more 0 (suc j) j (omega arith) (part_need j m p))))
          ∙ sym (map-append (made bank) (used_tops (used_marks places t) places) (t ∷ []))

      numbered-right : numbered_steps places t ≡ map (part_in (used bank (made bank t))) (used bank (made bank t))
      unfolding numbered_steps
      numbered-right =
          let u = used_marks places t in
          let us = used_tops u places ++ (t ∷ []) in
          let L = used bank (made bank t) in
          ap (λ l. l ++ (renumbered u t ∷ [])) (marked-is u u places)
          ∙ sym (map-append (renumbered u) (used_tops u places) (t ∷ []))
          ∙ map_like (renumbered u) (part_in L) (made bank) us (λ x j. renumbered-right bank L u x (λ i a. arg_place i (args_need x j i a)))
          ∙ ap (map (part_in L)) (sym steps_are)

-- the steps that are counted and written from places are those of the formula
module _ (E : Setting) (rows : List StandingRow) (places : List Place) (bank : List Formula) (h : Holds E rows places bank) (apart : Apart (columns E rows bank)) (t : Candidate) (range : InRange (length bank) t)
    (fresh : In (made bank t) bank → ⊥) (room : length bank ≤ most_places) where
  pub counted-right : steps_at places t ≡ length (used bank (made bank t))
  counted-right = steps-right E rows places bank h apart t range fresh room

  pub steps_are_by : steps_of places t ≡ steps-by (used bank (made bank t))
  steps_are_by = ap (map as_step) (numbered-right E rows places bank h apart t range fresh room)
