-- Today's formulas, keys and candidates keep what the search asks: the well-formed ones, their columns, and an offered operator
-- over places of the bank.
use Rattle.std.proofs.Common.{◌≡◌, ℕ, zero, suc, ◌<◌, ◌≤◌, List, [], ◌∷◌, map, length, sym, refl, ap, ◌∙◌, subst, ap₂, inl, inr, arith}
use native.Mathlib.Decide.{dec_lt}
use Rattle.operators.specs.Bands.{most_arguments}
use Rattle.measures.specs.Measures.{IsWeight, Arguments, beyond}
use Rattle.rows.specs.Rows.{StandingRow}
use Rattle.formulas.specs.Setting.{Setting}
use Rattle.formulas.specs.Formula.{Formula, Formulas, channel, operator, nil, cons, count, formulas_in, Formed, AllFormed, bands, weight, all_weighed, column}
use Rattle.search.specs.Lists.{In, here, there, each, numbers}
use Rattle.search.proofs.Lists.{in_none, in_split}
use Rattle.promise.specs.Laws.{Laws}
use Rattle.promise.proofs.Lists.{in_left, in_right, in_cases, in_map, in_map_back, in_each, in_each_back, in_numbers, in_numbers_back}
use Rattle.promise.proofs.Search.{choices, candidates}
use Rattle.promise.proofs.Best.{Same, All, args, Forming, Complete}

-- ── columns ──

head_same : {a b : ℕ} {us vs : List ℕ} → ◌≡◌ {A = List ℕ} (a ∷ us) (b ∷ vs) → a ≡ b
head_same e = cc

tail_same : {a b : ℕ} {us vs : List ℕ} → ◌≡◌ {A = List ℕ} (a ∷ us) (b ∷ vs) → us ≡ vs
tail_same e = cc

same_heads : (E : Setting) (r : StandingRow) (rows : List StandingRow) (fs gs : Formulas) → Same (column E (r ∷ rows)) fs gs → bands E.set r.bands fs ≡ bands E.set r.bands gs
same_heads E r rows nil nil h = refl
same_heads E r rows nil (cons g gs) h = absurd h
same_heads E r rows (cons f fs) nil h = absurd h
same_heads E r rows (cons f fs) (cons g gs) h = ap₂ (λ (a : ℕ) (us : List ℕ). a ∷ us) (head_same h.0) (same_heads E r rows fs gs h.1)

same_tails : (E : Setting) (r : StandingRow) (rows : List StandingRow) (fs gs : Formulas) → Same (column E (r ∷ rows)) fs gs → Same (column E rows) fs gs
same_tails E r rows nil nil h = tt
same_tails E r rows nil (cons g gs) h = absurd h
same_tails E r rows (cons f fs) nil h = absurd h
same_tails E r rows (cons f fs) (cons g gs) h = (tail_same h.0, same_tails E r rows fs gs h.1)

-- the columns of the arguments fix the result's column
pub columns_fixed : (E : Setting) (rows : List StandingRow) (k : ℕ) (fs gs : Formulas) → Same (column E rows) fs gs → column E rows (operator k fs) ≡ column E rows (operator k gs)
columns_fixed E [] k fs gs h = refl
columns_fixed E (r ∷ rows) k fs gs h = ap₂ (λ (a : ℕ) (us : List ℕ). a ∷ us) (ap (E.set.band k) (same_heads E r rows fs gs h)) (columns_fixed E rows k fs gs (same_tails E r rows fs gs h))

-- ── weights ──

weights_length : (E : Setting) (fs : Formulas) → length (all_weighed E.measure fs) ≡ count fs
weights_length E nil = refl
weights_length E (cons f fs) = ap suc (weights_length E fs)

module _ (E : Setting) (laws : Laws E) where
  number_small : (k : ℕ) → k < E.set.count → k < 64
  number_small k l = let a = laws.set.few in omega arith

  short : (k : ℕ) (fs : Formulas) → k < E.set.count → count fs ≡ E.set.arity k → length (all_weighed E.measure fs) ≤ most_arguments
  short k fs l e = let a = laws.set.narrow k l in let b = weights_length E fs in omega arith

  mutual
    weight_is : (f : Formula) → Formed E f → IsWeight (weight E f)
    weight_is (channel i) wf = laws.measure.channel i (let a = laws.few in omega arith)
    weight_is (operator k fs) wf = laws.measure.operator k (all_weighed E.measure fs) (number_small k wf.0) (short k fs wf.0 wf.1, weights_are fs wf.2)

    weights_are : (fs : Formulas) → AllFormed E.set E.channels fs → (u : ℕ) → In u (all_weighed E.measure fs) → IsWeight u
    weights_are nil wf u = λ h. in_none h
    weights_are (cons f fs) wf u = in_split (λ e. subst IsWeight (sym e) (weight_is f wf.0)) (weights_are fs wf.1 u)

  pub weight-least : (f : Formula) → Formed E f → 1 ≤ weight E f
  weight-least f wf = (weight_is f wf).0

  arguments_are : (k : ℕ) (fs : Formulas) → Formed E (operator k fs) → Arguments (all_weighed E.measure fs)
  arguments_are k fs wf = (short k fs wf.0 wf.1, weights_are fs wf.2)

  argument-most : (k : ℕ) (fs : Formulas) → Formed E (operator k fs) → (w : ℕ) → In w (all_weighed E.measure fs) → w ≤ weight E (operator k fs)
  argument-most k fs wf w h = go (dec_lt w beyond)
    where
      go : Dec (w < beyond) → w ≤ weight E (operator k fs)
      go (yes l) = let r = laws.measure.strict k (all_weighed E.measure fs) w (number_small k wf.0) (arguments_are k fs wf) h l in omega arith
      go (no l) =
          let m = (weights_are fs wf.2 w h).1 in
          let e : w ≡ beyond = omega arith in
          let r = laws.measure.carried k (all_weighed E.measure fs) (number_small k wf.0) (arguments_are k fs wf) (subst (λ u. In u (all_weighed E.measure fs)) e h) in
          omega arith

formed-all : (E : Setting) (fs : Formulas) → AllFormed E.set E.channels fs → All (Formed E) fs
formed-all E nil wf x h = in_none h
formed-all E (cons f fs) wf x h = in_split (λ e. subst (Formed E) (sym e) wf.0) (formed-all E fs wf.1 x) h

all-formed : (E : Setting) (fs : Formulas) → All (Formed E) fs → AllFormed E.set E.channels fs
all-formed E nil h = tt
all-formed E (cons f fs) h = (h f (here refl), all-formed E fs (λ x i. h x (there i)))

in_weights : (E : Setting) (fs : Formulas) (g : Formula) → In g (formulas_in fs) → In (weight E g) (all_weighed E.measure fs)
in_weights E nil g h = in_none h
in_weights E (cons f fs) g (here e) = here (ap (weight E) e)
in_weights E (cons f fs) g (there h) = there (in_weights E fs g h)

same_count : {K : Type 0} (key : Formula → K) (fs gs : Formulas) → Same key fs gs → count fs ≡ count gs
same_count key nil nil h = refl
same_count key nil (cons g gs) h = absurd h
same_count key (cons f fs) nil h = absurd h
same_count key (cons f fs) (cons g gs) h = ap suc (same_count key fs gs h.1)

pub columns_forming : (E : Setting) → Laws E → (rows : List StandingRow) → Forming E (Formed E) (column E rows)
columns_forming E laws rows = record {
  least = weight-least E laws;
  argument = λ k fs wf. formed-all E fs wf.2;
  fixed = columns_fixed E rows;
  lighter = λ k fs gs wf ok same below.
      laws.measure.monotone k (all_weighed E.measure fs) (all_weighed E.measure gs) (number_small E laws k wf.0)
      (arguments_are E laws k fs (wf.0, same_count (column E rows) fs gs same ∙ wf.1, all-formed E fs ok)) (arguments_are E laws k gs wf) below;
  above = λ k fs wf g h. argument-most E laws k fs wf (weight E g) (in_weights E fs g h);
  strictly = λ k fs wf g h small. laws.measure.strict k (all_weighed E.measure fs) (weight E g) (number_small E laws k wf.0) (arguments_are E laws k fs wf) (in_weights E fs g h) small;
}

-- ── candidates ──

choices_count : (bank : List Formula) (a : ℕ) (fs : Formulas) → In fs (choices a bank) → count fs ≡ a
unfolding choices
choices_count bank zero fs h = in_split (λ e. ap count e) (λ k. in_none k) h
choices_count bank (suc a) fs h =
    let r = in_each_back (λ f. map (cons f) (choices a bank)) bank h in
    let t = in_map_back (cons r.0) (choices a bank) r.2 in
    ap count t.2 ∙ ap suc (choices_count bank a t.0 t.1)

choices_from : (bank : List Formula) (a : ℕ) (fs : Formulas) → In fs (choices a bank) → (x : Formula) → In x (formulas_in fs) → In x bank
unfolding choices
choices_from bank zero fs h x i = in_split (λ e. in_none (subst (λ u. In x (formulas_in u)) e i)) (λ k. in_none k) h
choices_from bank (suc a) fs h x i =
    let r = in_each_back (λ f. map (cons f) (choices a bank)) bank h in
    let t = in_map_back (cons r.0) (choices a bank) r.2 in
    in_split (λ e. subst (λ u. In u bank) (sym e) r.1) (λ k. choices_from bank a t.0 t.1 x k) (subst (λ u. In x (formulas_in u)) t.2 i)

record Made (E : Setting) (bank : List Formula) (c : Formula) : Type 0 where
  formed : ((x : Formula) → In x bank → Formed E x) → Formed E c
  from : (x : Formula) → In x (args c) → In x bank

candidate_made : (E : Setting) (bank : List Formula) (c : Formula) → In c (candidates E bank) → Made E bank c
unfolding candidates
candidate_made E bank c h = elim (in_cases (map channel (numbers E.channels)) h) [ inl i ↦ of_channel i | inr i ↦ of_operator i ]
  where
    of_channel : In c (map channel (numbers E.channels)) → Made E bank c
    of_channel i =
        let r = in_map_back channel (numbers E.channels) i in
        subst (λ u. Made E bank u) (sym r.2) (record { formed = λ k. in_numbers_back E.channels r.0 r.1; from = λ x j. in_none j })

    of_operator : In c (each (λ k. map (operator k) (choices (E.set.arity k) bank)) (numbers E.set.count)) → Made E bank c
    of_operator i =
        let r = in_each_back (λ k. map (operator k) (choices (E.set.arity k) bank)) (numbers E.set.count) i in
        let t = in_map_back (operator r.0) (choices (E.set.arity r.0) bank) r.2 in
        let from = choices_from bank (E.set.arity r.0) t.0 t.1 in
        subst (λ u. Made E bank u) (sym t.2) (record {
          formed = λ k. (in_numbers_back E.set.count r.0 r.1, choices_count bank (E.set.arity r.0) t.0 t.1, all-formed E t.0 (λ x j. k x (from x j)));
          from = from;
        })

pub candidates_complete : (E : Setting) (rows : List StandingRow) (bank : List Formula) → Complete (Formed E) (column E rows) bank (candidates E bank)
unfolding candidates
candidates_complete E rows bank = record {
  channels = λ i wf. in_left _ (in_map channel (in_numbers E.channels i wf));
  operators = λ k fs gs wf chosen same. in_right (map channel (numbers E.channels)) (in_each (λ k. map (operator k) (choices (E.set.arity k) bank)) (in_numbers E.set.count k wf.0)
      (in_map (operator k) (subst (λ a. In fs (choices a bank)) wf.1 chosen)));
  formed = λ c h. (candidate_made E bank c h).formed;
  from = λ c h. (candidate_made E bank c h).from;
}
