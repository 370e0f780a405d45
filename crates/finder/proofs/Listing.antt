-- The steps of a formula, one used place after the other.
use Rattle.std.proofs.Common.{rules, ◌≡◌, ℕ, ◌+◌, ◌<◌, Bool, true, false, cond, ltb, List, [], ◌∷◌, ◌++◌, map, length, sym, refl, ap, ◌∙◌, ap₂, append_assoc, append-nil, ◌⊎◌, inl, inr, arith}
use Rattle.std.proofs.lemmas.List.{length-append, map_push}
use Rattle.operators.specs.Bands.{SetMeaning}
use Rattle.fixed.proofs.Lengths.{listed-length, pushed}
use Rattle.formulas.specs.Steps.{Steps, listed}
use Rattle.formulas.specs.declared.steps.Step.{Step}
use Rattle.search.specs.Places as places
use Rattle.search.specs.Marks.{renumbered, marked_steps}
use Rattle.finder.specs.View.{place_seen}
use Rattle.finder.specs.Whole.{step_seen, steps_seen}
use Rattle.finder.specs.declared.bank.Place.{Place}

-- one step more
module _ (m : SetMeaning) (s t : Steps) (x : Step) (r : Bool) (room : s.count < 513) (is : r ≡ ltb (length (listed s)) 513) (e : listed t ≡ cond r (listed s ++ x ∷ []) (listed s)) where
  pub pushed_count : t.count ≡ s.count + 1
  pushed_count = let a = listed-length s in let b = listed-length t in let l = ap length (pushed s t x r is e room) ∙ length-append (listed s) (x ∷ []) in omega arith

  pub pushed_seen : (y : places.Candidate) → step_seen m x ≡ y → steps_seen m t ≡ steps_seen m s ++ (y ∷ [])
  pushed_seen y se = ap (map (step_seen m)) (pushed s t x r is e room) ∙ map_push (step_seen m) (listed s) x ∙ ap (λ c. steps_seen m s ++ (c ∷ [])) se

-- the marked places to come, by the first of them
module _ (m : SetMeaning) (n : ℕ) (u v v' : List Bool) (p : Place) (ps ps' : List Place) (xs : List places.Candidate) (at : ps ≡ p ∷ ps') where
  pub put_one : v ≡ true ∷ v' → (xs ++ (renumbered u (place_seen m n p).top ∷ [])) ++ marked_steps u v' (map (place_seen m n) ps') ≡ xs ++ marked_steps u v (map (place_seen m n) ps)
  put_one is =
      append_assoc xs (renumbered u (place_seen m n p).top ∷ []) _
      ∙ ap (λ ys. xs ++ ys) (sym (ap₂ (λ (a : List Bool) (b : List Place). marked_steps u a (map (place_seen m n) b)) is at))

  pub passed_one : v ≡ false ∷ v' → xs ++ marked_steps u v' (map (place_seen m n) ps') ≡ xs ++ marked_steps u v (map (place_seen m n) ps)
  passed_one is = ap (λ ys. xs ++ ys) (sym (ap₂ (λ (a : List Bool) (b : List Place). marked_steps u a (map (place_seen m n) b)) is at))

none_left : (u v : List Bool) → marked_steps u v [] ≡ []
none_left u [] = refl
none_left u (b ∷ v) = refl

-- no place is to come, or no mark
pub left_over : (m : SetMeaning) (n : ℕ) (u v : List Bool) (ps : List Place) (xs : List places.Candidate) → (length ps ≡ 0) ⊎ (length v ≡ 0) → xs ++ marked_steps u v (map (place_seen m n) ps) ≡ xs
left_over m n u v [] xs e = ap (λ ys. xs ++ ys) (none_left u v) ∙ append-nil xs
left_over m n u [] (p ∷ ps) xs e = append-nil xs
left_over m n u (b ∷ v) (p ∷ ps) xs (inl e) = search rules
left_over m n u (b ∷ v) (p ∷ ps) xs (inr e) = search rules
