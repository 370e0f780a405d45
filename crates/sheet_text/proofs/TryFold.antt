-- What `try_fold` over a list of numbers gives: a function of the total so far and of the numbers that are left, where each call takes one of them.
-- The same stands in the program of calls: the two share only the crates of refusals and of rows.
use Rattle.std.proofs.Common.{◌≡◌, ℕ, ◌+◌, List, [], ◌∷◌, ◌++◌, map, take, drop, length, Some, None, Option, refl, sym, ap, subst, ◌∙◌, MatchOption}
use denote.Param.Members.{Mut}
use Rattle.std.specs.declared.ops.ControlFlow.{ControlFlow}
use Rattle.std.specs.declared.ops.ControlFlow.TheVariants.{Continue, Break}
use Rattle.std.specs.ControlFlow.{continue_value}
use Rattle.std.specs.Fn.{Called}
use Rattle.std.specs.Iterator.{TryFoldTurn, TryFoldsItems, YieldsThen}
use Rattle.std.specs.List.{FoldsTo}
use Rattle.std.proofs.lemmas.Iterator.{YieldsList}
use Rattle.std.proofs.lemmas.Iterator.Consumers.{YieldsList-so_far, YieldsList-turn, YieldsList-end}
use Rattle.std.proofs.lemmas.List.{append-nil, take-append-drop, drop_more}

-- what is made of a value, if there is one
abbrev pub after : {X : Type 0} → Option ℕ → (ℕ → Option X) → Option X
after (Some d) f = f d
after None f = None

abbrev pub branches : {E : Type 0} → Option ℕ → ControlFlow E ℕ → Type 0
branches r c = r ≡ continue_value c

module _ {A F : Type 0} (E : Type 0) (v : A → ℕ) (g : Mut F (ℕ × (A × Unit {0})) (Option ℕ)) (total : ℕ → List ℕ → Option ℕ) (f : F)
    (more : (n : ℕ) (x : A) (w : Option ℕ) (q : F) → Called g f (n, (x, tt)) w q → (q ≡ f) × ((ys : List ℕ) → total n (v x ∷ ys) ≡ after w (λ m. total m ys))) where
  turns : (xs : List A) (ys : List ℕ) (p q : F × ℕ) → p.0 ≡ f → FoldsTo {P = F × ℕ} (TryFoldTurn {E = E} g branches) p xs q → (q.0 ≡ f) × (total p.1 (map v xs ++ ys) ≡ total q.1 ys)
  turns [] ys p q a c = (subst (λ w. w.0 ≡ f) c a, ap (λ w. total w.1 ys) c)
  turns (x ∷ xs) ys p q a c =
      let m = more p.1 x c.1.0 c.0.0 (subst (λ w. Called g w (p.1, (x, tt)) c.1.0 c.0.0) a c.1.1) in
      let n = turns xs ys c.0 q m.0 c.2 in
      (n.0, m.1 (map v xs ++ ys) ∙ ap (λ w. after w (λ b. total b (map v xs ++ ys))) c.1.2 ∙ n.1)

  module _ {S : Type 0} {steps : S → Option A → S → Type 0} {s : S} {all : List ℕ} (u : S) (init : ℕ) (r : Option ℕ) (none : (n : ℕ) → total n [] ≡ Some n) (e : YieldsList steps v s all) where
    at_end : (xs : List A) (o : Option A) (f' : F) (n : ℕ) → YieldsThen steps s xs o u → FoldsTo {P = F × ℕ} (TryFoldTurn {E = E} g branches) (f, init) xs (f', n)
        → MatchOption o (branches {E = E} r (Continue n)) (λ x. (w : Option ℕ) × (h : F) × (b : E) × Called g f' (n, (x, tt)) w h × branches w (Break b) × (r ≡ None)) → r ≡ total init all
    at_end xs None f' n y c m =
        let k = YieldsList-end e xs y.0 y.1 None u refl y.2 in
        m ∙ sym (none n) ∙ sym (turns xs [] (f, init) (f', n) refl c).1 ∙ ap (total init) (append-nil (map v xs) ∙ k.0)
    at_end xs (Some x) f' n y c m =
        let k = YieldsList-turn e xs y.0 y.1 (Some x) u x refl y.2 in
        let i = length xs in
        let rest = drop (i + 1) all in
        let t = turns xs (v x ∷ rest) (f, init) (f', n) refl c in
        let w = more n x m.0 m.1 (subst (λ z. Called g z (n, (x, tt)) m.0 m.1) t.0 m.3) in
        let whole : map v xs ++ (v x ∷ rest) ≡ all =
        ap (λ z. z ++ (v x ∷ rest)) (YieldsList-so_far e xs y.0 y.1) ∙ ap (λ z. take i all ++ (z ∷ rest)) k.1 ∙ ap (λ z. take i all ++ z) (sym (drop_more all i (v x) k.0)) ∙ take-append-drop i all in
        m.5 ∙ sym (ap (λ z. after z (λ b. total b rest)) m.4) ∙ sym (w.1 rest) ∙ sym t.1 ∙ ap (total init) whole

    pub try_fold_is : TryFoldsItems steps g (branches {E = E}) (λ _ z. z ≡ None) s f init r u → r ≡ total init all
    try_fold_is d = at_end d.0 d.1 d.2 d.3 d.4 d.5 d.6
