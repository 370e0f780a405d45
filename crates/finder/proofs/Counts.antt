-- Marks and their number.
use Rattle.std.proofs.Common.{◌≡◌, ℕ, suc, ◌≤◌, min, Bool, true, false, List, [], ◌∷◌, ◌++◌, filter, length, take, set, replicate, sym, refl, ap, ◌∙◌, ap₂, inl, inr, arith}
use Rattle.std.proofs.lemmas.List.{length-set, take_all}
use Rattle.std.proofs.lemmas.Bool.{cases_lt}
use Rattle.operators.specs.Bands.{SetMeaning}
use Rattle.search.specs.Marks.{arguments_of, mark, marks, tally, used_marks}
use Rattle.finder.specs.View.{bank_seen, candidate_seen}
use Rattle.finder.specs.declared.bank.Candidate.{Candidate}
use Rattle.finder.specs.declared.bank.Bank.{Bank}
use Rattle.finder.proofs.Seen.{seen_length}

pub tally_filter : (us : List Bool) → tally us ≡ length (filter (λ mark. mark) us)
tally_filter [] = refl
tally_filter (true ∷ us) = ap suc (tally_filter us)
tally_filter (false ∷ us) = tally_filter us

pub length-filter-le : (us : List Bool) → length (filter (λ mark. mark) us) ≤ length us
length-filter-le [] = omega arith
length-filter-le (true ∷ us) = let h = length-filter-le us in omega arith
length-filter-le (false ∷ us) = let h = length-filter-le us in omega arith

pub take_min : (us : List Bool) (i n : ℕ) → length us ≡ n → take (min i n) us ≡ take i us
take_min us i n e = elim (cases_lt i n) [
  | inl l ↦ (let q : min i n ≡ i = omega arith in ap (λ k. take k us) q)
  | inr l ↦ (let q : min i n ≡ n = omega arith in ap (λ k. take k us) q ∙ take_all n us (omega arith) ∙ sym (take_all i us (omega arith)))
]

-- one mark more
pub mark_push : (is : List ℕ) (i : ℕ) (u : List Bool) → mark (is ++ i ∷ []) u ≡ set (mark is u) i true
mark_push [] i u = refl
mark_push (j ∷ is) i u = mark_push is i (set u j true)

pub marks-done : (m : SetMeaning) (n : ℕ) (b : Bank) (t : Candidate) (i : ℕ) (u v : List Bool) → i ≤ 0 → v ≡ mark (arguments_of (candidate_seen m t)) (replicate 512 false) → marks (bank_seen m n b) i u ≡ marks (bank_seen m n b) b.places.count v → u ≡ used_marks (bank_seen m n b) (candidate_seen m t)
unfolding used_marks
marks-done m n b t i u v l e inv =
    let z : 0 ≡ i = omega arith in
    ap (λ j. marks (bank_seen m n b) j u) z ∙ inv ∙ ap₂ (λ k v. marks (bank_seen m n b) k v) (sym (seen_length m n b)) e

pub length-mark : (is : List ℕ) (u : List Bool) → length (mark is u) ≡ length u
length-mark [] u = refl
length-mark (i ∷ is) u = length-mark is (set u i true) ∙ length-set u i true
