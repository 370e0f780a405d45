-- What stands next in a text is the next word of its first line, or the line has no more.
use Rattle.std.proofs.Common.{◌≡◌, ℕ, zero, suc, ◌+◌, ◌<◌, Bool, true, false, cond, not, ◌||◌, eqb, List, [], ◌∷◌, length, take, drop, sym, refl, ap, ◌∙◌, subst, one-add, arith}
use Rattle.std.specs.List.{prefix_len}
use Rattle.std.proofs.lemmas.Bool.{eqb-true}
use Rattle.sheet_text.specs.Texts.{blank, in_word}
use Rattle.sheet_text.specs.Said.{before_first, pieces, unless_empty, nonempty, words}

abbrev pub first_of : List (List ℕ) → List ℕ
first_of [] = []
first_of (p ∷ ps) = p

abbrev pub rest_of : List (List ℕ) → List (List ℕ)
rest_of [] = []
rest_of (p ∷ ps) = ps

-- the words of the first line, and the lines after it
abbrev pub here-words : List ℕ → List (List ℕ)
here-words r = words (first_of (pieces 10 r))

abbrev pub later : List ℕ → List (List ℕ)
later r = rest_of (pieces 10 r)

first_before : (b : ℕ) (ps : List (List ℕ)) → first_of (before_first b ps) ≡ b ∷ first_of ps
first_before b [] = refl
first_before b (p ∷ ps) = refl

rest_before : (b : ℕ) (ps : List (List ℕ)) → rest_of (before_first b ps) ≡ rest_of ps
rest_before b [] = refl
rest_before b (p ∷ ps) = refl

before_some : (b : ℕ) (ps : List (List ℕ)) → before_first b ps ≡ first_of (before_first b ps) ∷ rest_of (before_first b ps)
before_some b [] = refl
before_some b (p ∷ ps) = refl

-- there is always a first piece
pub pieces-some : (sep : ℕ) (r : List ℕ) → pieces sep r ≡ first_of (pieces sep r) ∷ rest_of (pieces sep r)
pieces-some sep [] = refl
pieces-some sep (b ∷ r) = go (eqb b sep)
  where
    go : (q : Bool) → cond q ([] ∷ pieces sep r) (before_first b (pieces sep r)) ≡ first_of (cond q ([] ∷ pieces sep r) (before_first b (pieces sep r))) ∷ rest_of (cond q ([] ∷ pieces sep r) (before_first b (pieces sep r)))
    go true = refl
    go false = before_some b (pieces sep r)

-- ── spaces ──

space-words : (r : List ℕ) → here-words (32 ∷ r) ≡ here-words r
space-words r = ap words (first_before 32 (pieces 10 r))

space_later : (r : List ℕ) → later (32 ∷ r) ≡ later r
space_later r = rest_before 32 (pieces 10 r)

pub skip_words : (r : List ℕ) → here-words (drop (prefix_len blank r) r) ≡ here-words r
skip_words [] = refl
skip_words (b ∷ r) = go (skip_words r) (eqb b 32) refl
  where
    go : here-words (drop (prefix_len blank r) r) ≡ here-words r → (q : Bool) → eqb b 32 ≡ q → here-words (drop (cond q (1 + prefix_len blank r) 0) (b ∷ r)) ≡ here-words (b ∷ r)
    go h true e = ap (λ n. here-words (drop n (b ∷ r))) (one-add (prefix_len blank r)) ∙ h ∙ sym (space-words r) ∙ ap (λ x. here-words (x ∷ r)) (sym (eqb-true b 32 e))
    go h false e = refl

pub skip_later : (r : List ℕ) → later (drop (prefix_len blank r) r) ≡ later r
skip_later [] = refl
skip_later (b ∷ r) = go (skip_later r) (eqb b 32) refl
  where
    go : later (drop (prefix_len blank r) r) ≡ later r → (q : Bool) → eqb b 32 ≡ q → later (drop (cond q (1 + prefix_len blank r) 0) (b ∷ r)) ≡ later (b ∷ r)
    go h true e = ap (λ n. later (drop n (b ∷ r))) (one-add (prefix_len blank r)) ∙ h ∙ sym (space_later r) ∙ ap (λ x. later (x ∷ r)) (sym (eqb-true b 32 e))
    go h false e = refl

-- ── a word ──

-- the bytes of a word that a text begins with are its first line's first piece
record Cut (r : List ℕ) (k : ℕ) : Type 0 where
  others : List (List ℕ)
  cuts : pieces 32 (first_of (pieces 10 r)) ≡ take k r ∷ others
  next : nonempty others ≡ here-words (drop k r)
  after : later r ≡ later (drop k r)

cut : (r : List ℕ) → Cut r (prefix_len in_word r)
cut [] = record { others = []; cuts = refl; next = refl; after = refl }
cut (b ∷ r) = go (cut r) (eqb b 32) (eqb b 10) refl refl
  where
    go : Cut r (prefix_len in_word r) → (p q : Bool) → eqb b 32 ≡ p → eqb b 10 ≡ q → Cut (b ∷ r) (cond (not (p || q)) (1 + prefix_len in_word r) 0)
    go c true q pe qe = subst (λ x. Cut (x ∷ r) 0) (sym (eqb-true b 32 pe)) (record {
      others = pieces 32 (first_of (pieces 10 r));
      cuts = ap (pieces 32) (first_before 32 (pieces 10 r));
      next = sym (space-words r);
      after = refl;
    })
    go c false true pe qe = subst (λ x. Cut (x ∷ r) 0) (sym (eqb-true b 10 qe)) (record { others = []; cuts = refl; next = refl; after = refl })
    go c false false pe qe =
        let line : pieces 10 (b ∷ r) ≡ before_first b (pieces 10 r) = ap (λ t. cond t ([] ∷ pieces 10 r) (before_first b (pieces 10 r))) qe in
        let l = first_of (pieces 10 r) in
        let word : pieces 32 (b ∷ l) ≡ before_first b (pieces 32 l) = ap (λ t. cond t ([] ∷ pieces 32 l) (before_first b (pieces 32 l))) pe in
        subst (λ n. Cut (b ∷ r) n) (sym (one-add (prefix_len in_word r))) (record {
          others = c.others;
          cuts = ap (λ ps. pieces 32 (first_of ps)) line ∙ ap (pieces 32) (first_before b (pieces 10 r)) ∙ word ∙ ap (before_first b) c.cuts;
          next = c.next;
          after = ap rest_of line ∙ rest_before b (pieces 10 r) ∙ c.after;
        })

some_taken : (k : ℕ) (r : List ℕ) (ps : List (List ℕ)) → 0 < k → 0 < length r → unless_empty (take k r) ps ≡ take k r ∷ ps
some_taken zero r ps a b = absurd (omega arith)
some_taken (suc k) [] ps a b = absurd (omega arith)
some_taken (suc k) (x ∷ r) ps a b = refl

leading_none : 0 < prefix_len in_word [] → ⊥
leading_none h = omega arith

-- where a word stands, it is the first line's next word
pub word-words : (r : List ℕ) → 0 < prefix_len in_word r → here-words r ≡ take (prefix_len in_word r) r ∷ here-words (drop (prefix_len in_word r) r)
word-words [] h = absurd (leading_none h)
word-words (b ∷ r) h =
    let c = cut (b ∷ r) in
    let k = prefix_len in_word (b ∷ r) in
    ap nonempty c.cuts ∙ some_taken k (b ∷ r) (nonempty c.others) h (omega arith) ∙ ap (λ ps. take k (b ∷ r) ∷ ps) c.next

pub word_later : (r : List ℕ) → later r ≡ later (drop (prefix_len in_word r) r)
word_later r = (cut r).after

-- ── the end of a line ──

-- past the spaces comes no space
pub past_spaces : (r : List ℕ) (b : ℕ) (q : List ℕ) → drop (prefix_len blank r) r ≡ b ∷ q → eqb b 32 ≡ false
past_spaces [] b q e = let z : ◌≡◌ {A = ℕ} 0 1 = cc in absurd (omega arith)
past_spaces (x ∷ r) b q e = go (past_spaces r b q) (eqb x 32) refl e
  where
    go : (drop (prefix_len blank r) r ≡ b ∷ q → eqb b 32 ≡ false) → (p : Bool) → eqb x 32 ≡ p → drop (cond p (1 + prefix_len blank r) 0) (x ∷ r) ≡ b ∷ q → eqb b 32 ≡ false
    go h true pe d = h (ap (λ n. drop n (x ∷ r)) (sym (one-add (prefix_len blank r))) ∙ d)
    go h false pe d = let s : x ≡ b = cc in ap (λ y. eqb y 32) (sym s) ∙ pe

-- what is no space and begins no word is a line feed
pub line_feed : (b : ℕ) (q : List ℕ) → eqb b 32 ≡ false → prefix_len in_word (b ∷ q) ≡ 0 → b ≡ 10
line_feed b q n z = go (eqb b 10) refl (ap (λ p. cond (not (p || eqb b 10)) (1 + prefix_len in_word q) 0) (sym n) ∙ z)
  where
    go : (p : Bool) → eqb b 10 ≡ p → cond (not (false || p)) (1 + prefix_len in_word q) 0 ≡ 0 → b ≡ 10
    go true e d = eqb-true b 10 e
    go false e d = absurd (omega arith)
