-- Where the reading stands, what is still to be read is the rest of a line and the lines after it.
use Rattle.std.proofs.Common.{◌≡◌, ℕ, suc, ◌+◌, List, [], ◌∷◌, get_or, drop, Some, None, sym, refl, ap, ◌∙◌, ap₂, inl, inr, arith, Bor}
use Rattle.std.specs.List.{prefix_len}
use Rattle.std.proofs.lemmas.List.{drop-drop, drop_more, drop_all}
use Rattle.sheet_text.specs.declared.lexer.Lexer.{Lexer}
use Rattle.sheet_text.specs.declared.lexer.Part.{Part}
use Rattle.sheet_text.specs.declared.lexer.Spot.{Spot}
use Rattle.sheet_text.specs.declared.lexer.Word.TheVariants as word
use Rattle.sheet_text.specs.Texts.{blank, in_word, start_of, size_of, Lexed, Fresh}
use Rattle.sheet_text.specs.Steps as steps
use Rattle.sheet_text.specs.Steps.{InLine, Passed, IsFirstWord}
use Rattle.sheet_text.specs.Said.{pieces, Line, with_words, numbered, lines_of}
use Rattle.sheet_text.proofs.Pieces.{here-words, later, pieces-some, skip_words, skip_later, word-words, word_later, past_spaces, line_feed}

-- what is not read yet
abbrev pub rest : Lexer → List ℕ
rest s = drop s.at s.text.now

-- the words to the end of the line
abbrev pub row-rest : Lexer → List (List ℕ)
row-rest s = here-words (rest s)

-- the lines after the one that is being read, and those from its rest on
abbrev pub after_line : Lexer → List Line
after_line s = numbered (suc (s.line + 1)) (later (rest s))

abbrev pub lines_from : Lexer → List Line
lines_from s = with_words (s.line + 1) (row-rest s) (after_line s)

lines_are : (s : Lexer) → numbered (s.line + 1) (pieces 10 (rest s)) ≡ lines_from s
lines_are s = ap (numbered (s.line + 1)) (pieces-some 10 (rest s))

at-start : (s : Lexer) → drop (start_of s) s.text.now ≡ drop (prefix_len blank (rest s)) (rest s)
at-start s = sym (drop-drop (prefix_len blank (rest s)) s.at s.text.now)

-- ── one word ──

pub record Took (s t : Lexer) (p : Part) : Type 0 where
  pub words : row-rest s ≡ p.bytes.now ∷ row-rest t
  pub lines : after_line s ≡ after_line t
  pub line : t.line ≡ s.line
  pub word : t.word ≡ s.word + 1
  pub last : t.last ≡ s.line + 1
  pub spot_line : p.spot.line ≡ s.line + 1
  pub spot_word : p.spot.word ≡ s.word + 1
  pub text : t.text ≡ s.text

pub took : (s t : Lexer) (p : Part) → Lexed s t (Some (word.Part p)) → Took s t p
took s t p h =
    let R = drop (start_of s) s.text.now in
    let behind : rest t ≡ drop (prefix_len in_word R) R = ap₂ (λ (x : Bor (List ℕ)) (n : ℕ). drop n x.now) h.4.0 h.4.1 ∙ sym (drop-drop (size_of s) (start_of s) s.text.now) in
    record {
      words = sym (skip_words (rest s)) ∙ ap here-words (sym (at-start s)) ∙ word-words R h.0
          ∙ ap₂ (λ (w : List ℕ) (ws : List (List ℕ)). w ∷ ws) (sym h.1) (ap here-words (sym behind));
      lines = ap₂ (λ n ls. numbered (suc (n + 1)) ls) (sym h.4.2) (sym (skip_later (rest s)) ∙ ap later (sym (at-start s)) ∙ word_later R ∙ ap later (sym behind));
      line = h.4.2;
      word = h.4.3;
      last = h.4.4;
      spot_line = ap (λ (x : Spot). x.line) h.3;
      spot_word = ap (λ (x : Spot). x.word) h.3;
      text = h.4.0;
    }

-- ── the end of a line ──

-- at the beginning of a line, if it has words
abbrev pub Start : Lexer → Type 0
Start s = (w : List ℕ) (ws : List (List ℕ)) → row-rest s ≡ w ∷ ws → s.word ≡ 0

pub record Closed (s t : Lexer) : Type 0 where
  pub none : row-rest s ≡ []
  pub lines : after_line s ≡ lines_from t
  pub start : Start t
  pub last : t.last ≡ s.last
  pub text : t.text ≡ s.text

ended : (s t : Lexer) → Lexed s t (Some word.LineEnd) → Closed s t
ended s t h =
    let text = s.text.now in
    let b = get_or text (start_of s) 0 in
    let q = drop (start_of s + 1) text in
    let R : drop (start_of s) text ≡ b ∷ q = drop_more text (start_of s) 0 h.1 in
    let feed : b ≡ 10 = line_feed b q (past_spaces (rest s) b q (sym (at-start s) ∙ R)) (ap (prefix_len in_word) (sym R) ∙ h.0) in
    let there : drop (prefix_len blank (rest s)) (rest s) ≡ 10 ∷ q = sym (at-start s) ∙ R ∙ ap (λ x. x ∷ q) feed in
    let behind : rest t ≡ q = ap₂ (λ (x : Bor (List ℕ)) (n : ℕ). drop n x.now) h.2.0 h.2.1 in
    let number : suc (s.line + 1) ≡ t.line + 1 = (let e = h.2.2 in omega arith) in
    record {
      none = sym (skip_words (rest s)) ∙ ap here-words there;
      lines = ap₂ numbered number (sym (skip_later (rest s)) ∙ ap later there ∙ ap (pieces 10) (sym behind)) ∙ lines_are t;
      start = λ w ws e. h.2.3;
      last = h.2.4;
      text = h.2.0;
    }

finished : (s t : Lexer) → Lexed s t None → Closed s t
finished s t h =
    let text = s.text.now in
    let none : drop (start_of s) text ≡ [] = drop_all (start_of s) text (let e = h.1 in omega arith) in
    let there : drop (prefix_len blank (rest s)) (rest s) ≡ [] = sym (at-start s) ∙ none in
    let behind : rest t ≡ [] = ap₂ (λ (x : Bor (List ℕ)) (n : ℕ). drop n x.now) h.2.0 h.2.1 ∙ none in
    let words : row-rest t ≡ [] = ap here-words behind in
    record {
      none = sym (skip_words (rest s)) ∙ ap here-words there;
      lines = ap (numbered (suc (s.line + 1))) (sym (skip_later (rest s)) ∙ ap later there)
          ∙ sym (ap₂ (λ ws ls. with_words (t.line + 1) ws (numbered (suc (t.line + 1)) ls)) words (ap later behind));
      start = λ w ws e. absurd (let z : ◌≡◌ {A = List (List ℕ)} [] (w ∷ ws) = sym words ∙ e in let y : ◌≡◌ {A = ℕ} 0 1 = cc in omega arith);
      last = h.2.4;
      text = h.2.0;
    }

pub closed : (s t : Lexer) → InLine s t None → Closed s t
closed s t (inl h) = ended s t h
closed s t (inr h) = finished s t h

-- ── the first word of the next line ──

record WentBy (s t : Lexer) : Type 0 where
  lines : lines_from s ≡ lines_from t
  start : Start t
  last : t.last ≡ s.last
  text : t.text ≡ s.text

passed : (s t : Lexer) → Start s → Passed s t → WentBy s t
passed s t st steps.Passed.start = record { lines = refl; start = st; last = refl; text = refl }
passed s t st (steps.Passed.more u v h l) =
    let p = passed s u st h in
    let c = ended u t l in
    record {
      lines = p.lines ∙ ap (λ ws. with_words (u.line + 1) ws (after_line u)) c.none ∙ c.lines;
      start = c.start;
      last = c.last ∙ p.last;
      text = c.text ∙ p.text;
    }

pub record First (s u : Lexer) (p : Part) : Type 0 where
  pub lines : lines_from s ≡ record { number = p.spot.line; first = p.bytes.now; more = row-rest u } ∷ after_line u
  pub spot_word : p.spot.word ≡ 1
  pub word : u.word ≡ 1
  pub line : p.spot.line ≡ u.line + 1
  pub last : u.last ≡ p.spot.line
  pub text : u.text ≡ s.text

pub first_some : (s u : Lexer) (p : Part) → Start s → IsFirstWord s u (Some p) → First s u p
first_some s u p st h =
    let w = passed s h.0 st h.1 in
    let k = took h.0 u p h.2 in
    let zero = w.start p.bytes.now (row-rest u) k.words in
    let a = k.spot_word in
    let b = k.word in
    let c = k.spot_line in
    let d = k.line in
    record {
      lines = w.lines ∙ ap (λ ws. with_words (h.0.line + 1) ws (after_line h.0)) k.words
          ∙ ap₂ (λ (n : ℕ) (ls : List Line). with_words n (p.bytes.now ∷ row-rest u) ls) (sym c) k.lines;
      spot_word = omega arith;
      word = omega arith;
      line = omega arith;
      last = k.last ∙ sym c;
      text = k.text ∙ w.text;
    }

pub first-none : (s u : Lexer) → Start s → IsFirstWord s u None → (lines_from s ≡ []) × (u.last ≡ s.last)
first-none s u st h =
    let w = passed s h.0 st h.1 in
    let c = finished h.0 u h.2 in
    let text = h.0.text.now in
    let none : drop (start_of h.0) text ≡ [] = drop_all (start_of h.0) text (let e = h.2.1 in omega arith) in
    let behind : rest u ≡ [] = ap₂ (λ (x : Bor (List ℕ)) (n : ℕ). drop n x.now) h.2.2.0 h.2.2.1 ∙ none in (
      w.lines ∙ ap (λ ws. with_words (h.0.line + 1) ws (after_line h.0)) c.none ∙ c.lines
          ∙ ap₂ (λ ws ls. with_words (u.line + 1) ws (numbered (suc (u.line + 1)) ls)) (ap here-words behind) (ap later behind),
      c.last ∙ w.last,
    )

-- ── the whole text ──

pub from_fresh : (text : List ℕ) (s : Lexer) → Fresh text s → lines_from s ≡ lines_of text
from_fresh text s h =
    let whole : rest s ≡ text = ap₂ (λ (x : List ℕ) (n : ℕ). drop n x) h.0 h.1 in
    sym (lines_are s) ∙ ap₂ (λ n r. numbered (n + 1) (pieces 10 r)) h.2 whole

pub fresh_start : (text : List ℕ) (s : Lexer) → Fresh text s → Start s
fresh_start text s h w ws e = h.3
