-- What the parser reads line by line is what the text says.
use Rattle.std.proofs.Common.{◌≡◌, ℕ, suc, ◌+◌, ◌<◌, ◌≤◌, Bool, true, false, cond, not, ◌&&◌, ◌||◌, ltb, ◌⊎◌, List, [], ◌∷◌, ◌++◌, map, length, Some, None, Ok, Err, codes, Option, Result, sym, refl, ap, ◌∙◌, subst, ap₂, inl, inr, arith, length-append, Bor}
use Rattle.std.specs.Str.{bytes_eq}
use Rattle.std.proofs.lemmas.List.{map-append, length-map}
use Rattle.std.proofs.lemmas.Bool.{lt-ltb, le-ltb}
use Rattle.refusals.specs.declared.sheet.SheetRefusal.TheVariants as sheet
use Rattle.rows.specs.Bounds.{channels_refusal, limit_refusal}
use Rattle.rows.specs.declared.span.Span.{Span}
use Rattle.sheet_text.specs.declared.lexer.Lexer.{Lexer}
use Rattle.sheet_text.specs.declared.lexer.Part.{Part}
use Rattle.sheet_text.specs.declared.lexer.Spot.{Spot}
use Rattle.sheet_text.specs.declared.refusal.Fault.{Fault}
use Rattle.sheet_text.specs.declared.refusal.TextRefusal.TheVariants as text
use Rattle.sheet_text.specs.declared.sheet.MeasureKind.{MeasureKind}
use Rattle.sheet_text.specs.Forms.{is_name, number_of, measure_of}
use Rattle.sheet_text.specs.Lines as lines
use Rattle.sheet_text.specs.Lines.{due_answer, Due, SoleWord, TwoWords, after, or_fault, MeasureLine, limit_answer, LimitLine, span_of, Named, Names, ChannelsLine, BytesRead, Bytes, RowFault, RowLine, RowsRead, RowLines}
use Rattle.sheet_text.specs.Refusals.{text_fault, sheet_fault}
use Rattle.sheet_text.specs.Spans.{name_at, repeats, name_ok}
use Rattle.sheet_text.specs.Steps.{InLine, IsFirstWord}
use Rattle.sheet_text.specs.Layers.{in_text, in_finder}
use Rattle.sheet_text.specs.Said.{Placed, placed, Line, then, or_placed, line_due, sole, among, names_said, few_channels, channels_said, measure_said, within_range, limit_said, fault_placed}
use Rattle.sheet_text.proofs.Readings.{span_reads}
use Rattle.sheet_text.proofs.Told.{row-rest, after_line, lines_from, took, Start, Closed, closed, first_some, first-none}

-- ── one line and what follows ──

-- the line that is due is there, and says a; the reading then stands at the next line
pub record LineRead {A : Type 0} (due : List ℕ) (s u : Lexer) (f : Line → Result A Placed) (a : A) : Type 0 where
  pub line : Line
  pub found : line_due due s.last (lines_from s) ≡ Ok (line, lines_from u)
  pub says : f line ≡ Ok a
  pub start : Start u
  pub last : u.last ≡ line.number
  pub same : u.text ≡ s.text

-- it is not there, or at fault
abbrev pub LineFails : {A : Type 0} → List ℕ → Lexer → (Line → Result A Placed) → Placed → Type 0
LineFails due s f e = (line_due due s.last (lines_from s) ≡ Err e)
    ⊎ ((l : Line) × (ls : List Line) × (line_due due s.last (lines_from s) ≡ Ok (l, ls)) × (f l ≡ Err e))

pub read_on : {A B : Type 0} (due : List ℕ) (s u : Lexer) (f : Line → Result A Placed) (a : A) (r : LineRead due s u f a) (k : Line × List Line → A → Result B Placed) →
    then (line_due due s.last (lines_from s)) (λ x. then (f x.0) (k x)) ≡ k (r.line, lines_from u) a
read_on due s u f a r k = ap (λ x. then x (λ x. then (f x.0) (k x))) r.found ∙ ap (λ y. then y (k (r.line, lines_from u))) r.says

pub fails_there : {A B : Type 0} (due : List ℕ) (s : Lexer) (f : Line → Result A Placed) (e : Placed) (k : Line × List Line → A → Result B Placed) → LineFails due s f e →
    then (line_due due s.last (lines_from s)) (λ x. then (f x.0) (k x)) ≡ Err e
fails_there due s f e k (inl h) = ap (λ x. then x (λ x. then (f x.0) (k x))) h
fails_there due s f e k (inr (l, ls, h, g)) = ap (λ x. then x (λ x. then (f x.0) (k x))) h ∙ ap (λ y. then y (k (l, ls))) g

-- ── the first word ──

record DueRead (due : List ℕ) (s t : Lexer) (head : Spot) : Type 0 where
  line : Line
  found : line_due due s.last (lines_from s) ≡ Ok (line, after_line t)
  number : line.number ≡ head.line
  more : line.more ≡ row-rest t
  head_word : head.word ≡ 1
  word : t.word ≡ 1
  at : head.line ≡ t.line + 1
  last : t.last ≡ head.line
  same : t.text ≡ s.text

due_by : (due : List ℕ) (s t : Lexer) → Start s → (o : Option Part) → IsFirstWord s t o → (head : Spot) → Ok head ≡ due_answer due t o → DueRead due s t head
due_by due s t st None h head e = let z : ◌≡◌ {A = ℕ} 0 1 = cc in absurd (omega arith)
due_by due s t st (Some p) h head e = go (bytes_eq p.bytes.now due) refl e
  where
    go : (q : Bool) → bytes_eq p.bytes.now due ≡ q → ◌≡◌ {A = Result Spot Fault} (Ok head) (cond q (Ok p.spot) (Err (text_fault text.FirstWord p.spot))) → DueRead due s t head
    go true q e =
        let f = first_some s t p st h in
        let is : head ≡ p.spot = cc in
        let L : Line = record { number = p.spot.line; first = p.bytes.now; more = row-rest t } in
        let line : head.line ≡ p.spot.line = ap (λ (x : Spot). x.line) is in
        record {
          line = L;
          found = ap (line_due due s.last) f.lines ∙ ap (λ b. cond b (Ok (L, after_line t)) (Err (placed in_text 19 p.spot.line 1))) q;
          number = sym line;
          more = refl;
          head_word = ap (λ (x : Spot). x.word) is ∙ f.spot_word;
          word = f.word;
          at = line ∙ f.line;
          last = f.last ∙ sym line;
          same = f.text;
        }
    go false q e = let z : ◌≡◌ {A = ℕ} 0 1 = cc in absurd (omega arith)

due_read : (due : List ℕ) (s t : Lexer) (head : Spot) → Start s → Due due s t (Ok head) → DueRead due s t head
due_read due s t head st h = due_by due s t st h.0 h.1 head h.2

due_not : (due : List ℕ) (s t : Lexer) → Start s → (o : Option Part) → IsFirstWord s t o → (f : Fault) → Err f ≡ due_answer due t o → line_due due s.last (lines_from s) ≡ Err (fault_placed f)
due_not due s t st None h f e =
    let n = first-none s t st h in
    let is : text_fault text.FirstWord (record { line = t.last + 1; word = 1 }) ≡ f = cc in
    ap (line_due due s.last) n.0 ∙ ap (λ l. Err (placed in_text 19 (l + 1) 1)) (sym n.1) ∙ ap (λ g. Err (fault_placed g)) is
due_not due s t st (Some p) h f e = go (bytes_eq p.bytes.now due) refl e
  where
    go : (q : Bool) → bytes_eq p.bytes.now due ≡ q → ◌≡◌ {A = Result Spot Fault} (Err f) (cond q (Ok p.spot) (Err (text_fault text.FirstWord p.spot))) → line_due due s.last (lines_from s) ≡ Err (fault_placed f)
    go true q e = let z : ◌≡◌ {A = ℕ} 0 1 = cc in absurd (omega arith)
    go false q e =
        let k = first_some s t p st h in
        let is : text_fault text.FirstWord p.spot ≡ f = cc in
        let L : Line = record { number = p.spot.line; first = p.bytes.now; more = row-rest t } in
        ap (line_due due s.last) k.lines ∙ ap (λ b. cond b (Ok (L, after_line t)) (Err (placed in_text 19 p.spot.line 1))) q
        ∙ ap (λ w. Err (placed in_text 19 p.spot.line w)) (sym k.spot_word) ∙ ap (λ g. Err (fault_placed g)) is

due_fails : {A : Type 0} (due : List ℕ) (s t : Lexer) (f : Fault) → Start s → (g : Line → Result A Placed) → Due due s t (Err f) → LineFails due s g (fault_placed f)
due_fails due s t f st g h = inl (due_not due s t st h.0 h.1 f h.2)

-- a line whose rest is read to its end
line-done : {A : Type 0} (due : List ℕ) (s t v u : Lexer) (head : Spot) (f : Line → Result A Placed) (a : A) (d : DueRead due s t head) → f d.line ≡ Ok a → after_line t ≡ after_line v → v.last ≡ t.last → v.text ≡ t.text → Closed v u → LineRead due s u f a
line-done due s t v u head f a d says al vl vt c = record {
  line = d.line;
  found = d.found ∙ ap (λ ls. Ok (d.line, ls)) (al ∙ c.lines);
  says = says;
  start = c.start;
  last = c.last ∙ vl ∙ d.last ∙ sym d.number;
  same = c.text ∙ vt ∙ d.same;
}

line_wrong : {A : Type 0} (due : List ℕ) (s t : Lexer) (head : Spot) (f : Line → Result A Placed) (e : Placed) (d : DueRead due s t head) → f d.line ≡ Err e → LineFails due s f e
line_wrong due s t head f e d h = inr (d.line, after_line t, d.found, h)

-- ── lines of two words ──

record Second (due : List ℕ) (s u : Lexer) (p : Part) : Type 0 where
  line : Line
  found : line_due due s.last (lines_from s) ≡ Ok (line, lines_from u)
  only : sole line.number line.more ≡ Ok p.bytes.now
  spot_line : p.spot.line ≡ line.number
  spot_word : p.spot.word ≡ 2
  start : Start u
  last : u.last ≡ line.number
  same : u.text ≡ s.text

second : (due : List ℕ) (s u : Lexer) (p : Part) → Start s → TwoWords due s u (Ok p) → Second due s u p
second due s u p st (t, head, dh, (v, a, b)) =
    let d = due_read due s t head st dh in
    let k = took t v p a in
    let c = closed v u b in
    let x = d.word in
    let y = d.at in
    let z = k.spot_line in
    let q = k.spot_word in
    let n = d.number in
    record {
      line = d.line;
      found = d.found ∙ ap (λ ls. Ok (d.line, ls)) (k.lines ∙ c.lines);
      only = ap (sole d.line.number) (d.more ∙ k.words ∙ ap (λ ws. p.bytes.now ∷ ws) c.none);
      spot_line = omega arith;
      spot_word = omega arith;
      start = c.start;
      last = (let l = c.last in let m = k.last in omega arith);
      same = c.text ∙ k.text ∙ d.same;
    }

-- no word, or two and more
sole_not : (due : List ℕ) (s t u : Lexer) (head : Spot) (f : Fault) → Start s → Due due s t (Ok head) → SoleWord head t u (Err f) → (d : DueRead due s t head) → sole d.line.number d.line.more ≡ Err (fault_placed f)
sole_not due s t u head f st dh (e, h) d = ap (sole d.line.number) d.more ∙ go h ∙ spot ∙ ap (λ g. Err (fault_placed g)) (sym e)
  where
    spot : ◌≡◌ {A = Result (List ℕ) Placed} (Err (placed in_text 20 d.line.number 1)) (Err (fault_placed (text_fault text.Word head)))
    spot = ap₂ (λ l w. Err (placed in_text 20 l w)) d.number (sym d.head_word)

    go : InLine t u None ⊎ ((v : Lexer) × (p : Part) × (q : Part) × InLine t v (Some p) × InLine v u (Some q)) → sole d.line.number (row-rest t) ≡ Err (placed in_text 20 d.line.number 1)
    go (inl n) = ap (sole d.line.number) (closed t u n).none
    go (inr (v, p, q, a, b)) = ap (sole d.line.number) ((took t v p a).words ∙ ap (λ ws. p.bytes.now ∷ ws) (took v u q b).words)

two_fail : {A : Type 0} (due : List ℕ) (s u : Lexer) (f : Fault) → Start s → (k : Line → List ℕ → Result A Placed) → TwoWords due s u (Err f) → LineFails due s (λ l. then (sole l.number l.more) (k l)) (fault_placed f)
two_fail due s u f st k (inl h) = due_fails due s u f st (λ l. then (sole l.number l.more) (k l)) h
two_fail due s u f st k (inr (t, head, dh, sh)) =
    let d = due_read due s t head st dh in
    line_wrong due s t head (λ l. then (sole l.number l.more) (k l)) (fault_placed f) d (ap (λ x. then x (k d.line)) (sole_not due s t u head f st dh sh d))

second_line : {A : Type 0} (due : List ℕ) (s u : Lexer) (p : Part) (d : Second due s u p) (k : Line → List ℕ → Result A Placed) (a : A) → k d.line p.bytes.now ≡ Ok a → LineRead due s u (λ l. then (sole l.number l.more) (k l)) a
second_line due s u p d k a h = record { line = d.line; found = d.found; says = ap (λ x. then x (k d.line)) d.only ∙ h; start = d.start; last = d.last; same = d.same }

second_wrong : {A : Type 0} (due : List ℕ) (s u : Lexer) (p : Part) (d : Second due s u p) (k : Line → List ℕ → Result A Placed) (e : Placed) → k d.line p.bytes.now ≡ Err e → LineFails due s (λ l. then (sole l.number l.more) (k l)) e
second_wrong due s u p d k e h = inr (d.line, lines_from u, d.found, ap (λ x. then x (k d.line)) d.only ∙ h)

-- the place of the second word
word_two : (due : List ℕ) (s u : Lexer) (p : Part) (d : Second due s u p) → placed in_text 20 d.line.number 2 ≡ fault_placed (text_fault text.Word p.spot)
word_two due s u p d = ap₂ (λ l w. placed in_text 20 l w) (sym d.spot_line) (sym d.spot_word)

limit_two : (due : List ℕ) (s u : Lexer) (p : Part) (d : Second due s u p) → placed in_finder 5 d.line.number 2 ≡ fault_placed (sheet_fault sheet.Limit p.spot)
limit_two due s u p d = ap₂ (λ l w. placed in_finder 5 l w) (sym d.spot_line) (sym d.spot_word)

-- ── the measure ──

pub measure_read : (s u : Lexer) (kind : MeasureKind) → Start s → MeasureLine s u (Ok kind) → LineRead (codes "measure") s u measure_said kind
measure_read s u kind st (Ok p, h, e) =
    let d = second (codes "measure") s u p st h in
    second_line (codes "measure") s u p d (λ l w. or_placed (measure_of w) (placed in_text 20 l.number 2)) kind (go (placed in_text 20 d.line.number 2) (measure_of p.bytes.now) e)
  where
    go : (x : Placed) (o : Option MeasureKind) → Ok kind ≡ or_fault o (text_fault text.Word p.spot) → or_placed o x ≡ Ok kind
    go x None e = let z : ◌≡◌ {A = ℕ} 0 1 = cc in absurd (omega arith)
    go x (Some k) e = cc
measure_read s u kind st (Err f, h, e) = let z : ◌≡◌ {A = ℕ} 0 1 = cc in absurd (omega arith)

pub measure_fails : (s u : Lexer) (f : Fault) → Start s → MeasureLine s u (Err f) → LineFails (codes "measure") s measure_said (fault_placed f)
measure_fails s u f st (Ok p, h, e) =
    let d = second (codes "measure") s u p st h in
    second_wrong (codes "measure") s u p d (λ l w. or_placed (measure_of w) (placed in_text 20 l.number 2)) (fault_placed f) (go (word_two (codes "measure") s u p d) (measure_of p.bytes.now) e)
  where
    go : {x : Placed} → x ≡ fault_placed (text_fault text.Word p.spot) → (o : Option MeasureKind) → Err f ≡ or_fault o (text_fault text.Word p.spot) → or_placed o x ≡ Err (fault_placed f)
    go w None e = let is : text_fault text.Word p.spot ≡ f = cc in ap Err (w ∙ ap fault_placed is)
    go w (Some k) e = let z : ◌≡◌ {A = ℕ} 0 1 = cc in absurd (omega arith)
measure_fails s u f st (Err g, h, e) =
    let is : g ≡ f = cc in
    subst (λ x. LineFails (codes "measure") s measure_said (fault_placed x)) is (two_fail (codes "measure") s u g st (λ l w. or_placed (measure_of w) (placed in_text 20 l.number 2)) h)

-- ── the limit ──

abbrev limit-word : Line → List ℕ → Result ℕ Placed
limit-word l w = then (or_placed (number_of 7 w) (placed in_text 20 l.number 2)) (λ m. within_range l.number m (limit_refusal m))

pub limit_read : (s u : Lexer) (n : ℕ) → Start s → LimitLine s u (Ok n) → LineRead (codes "limit") s u limit_said n
limit_read s u n st (Ok p, h, e) =
    let d = second (codes "limit") s u p st h in
    second_line (codes "limit") s u p d limit-word n (go (placed in_text 20 d.line.number 2) d.line.number (number_of 7 p.bytes.now) e)
  where
    inner : (line m : ℕ) (b : Bool) → Ok n ≡ cond b (Err (sheet_fault sheet.Limit p.spot)) (Ok m) → within_range line m (cond b (Some (5, 0)) None) ≡ Ok n
    inner line m true e = let z : ◌≡◌ {A = ℕ} 0 1 = cc in absurd (omega arith)
    inner line m false e = cc

    go : (x : Placed) (line : ℕ) (o : Option ℕ) → Ok n ≡ after (or_fault o (text_fault text.Word p.spot)) (limit_answer p.spot) → then (or_placed o x) (λ m. within_range line m (limit_refusal m)) ≡ Ok n
    go x line None e = let z : ◌≡◌ {A = ℕ} 0 1 = cc in absurd (omega arith)
    go x line (Some m) e = inner line m (ltb m 1 || ltb 1000000 m) e
limit_read s u n st (Err f, h, e) = let z : ◌≡◌ {A = ℕ} 0 1 = cc in absurd (omega arith)

pub limit_fails : (s u : Lexer) (f : Fault) → Start s → LimitLine s u (Err f) → LineFails (codes "limit") s limit_said (fault_placed f)
limit_fails s u f st (Ok p, h, e) =
    let d = second (codes "limit") s u p st h in
    second_wrong (codes "limit") s u p d limit-word (fault_placed f) (go d.line.number (word_two (codes "limit") s u p d) (limit_two (codes "limit") s u p d) (number_of 7 p.bytes.now) e)
  where
    inner : (line m : ℕ) → placed in_finder 5 line 2 ≡ fault_placed (sheet_fault sheet.Limit p.spot) → (b : Bool) → Err f ≡ cond b (Err (sheet_fault sheet.Limit p.spot)) (Ok m) → within_range line m (cond b (Some (5, 0)) None) ≡ Err (fault_placed f)
    inner line m w true e = let is : sheet_fault sheet.Limit p.spot ≡ f = cc in ap Err (w ∙ ap fault_placed is)
    inner line m w false e = let z : ◌≡◌ {A = ℕ} 0 1 = cc in absurd (omega arith)

    go : {x : Placed} (line : ℕ) → x ≡ fault_placed (text_fault text.Word p.spot) → placed in_finder 5 line 2 ≡ fault_placed (sheet_fault sheet.Limit p.spot) → (o : Option ℕ) →
        Err f ≡ after (or_fault o (text_fault text.Word p.spot)) (limit_answer p.spot) → then (or_placed o x) (λ m. within_range line m (limit_refusal m)) ≡ Err (fault_placed f)
    go line w v None e = let is : text_fault text.Word p.spot ≡ f = cc in ap Err (w ∙ ap fault_placed is)
    go line w v (Some m) e = inner line m v (ltb m 1 || ltb 1000000 m) e
limit_fails s u f st (Err g, h, e) =
    let is : g ≡ f = cc in
    subst (λ x. LineFails (codes "limit") s limit_said (fault_placed x)) is (two_fail (codes "limit") s u g st limit-word h)

-- ── names ──

among_same : (text : List ℕ) (names : List Span) (w : List ℕ) → repeats text names w ≡ among (map (name_at text) names) w
among_same text [] w = refl
among_same text (n ∷ names) w = ap (λ b. bytes_eq (name_at text n) w || b) (among_same text names w)

ok_same : (text : List ℕ) (names : List Span) (w : List ℕ) → name_ok text names w ≡ (is_name w && not (among (map (name_at text) names) w))
ok_same text names w = ap (λ b. is_name w && not b) (among_same text names w)

-- so many names are read, and the reading stands behind them
record NamesRead (n k : ℕ) (s t : Lexer) (names : List Span) : Type 0 where
  says : names_said n k [] (row-rest s) ≡ names_said n (k + length names) (map (name_at s.text.now) names) (row-rest t)
  lines : after_line s ≡ after_line t
  line : t.line ≡ s.line
  word : t.word ≡ s.word + length names
  last : s.last ≡ s.line + 1 → t.last ≡ s.last
  same : t.text ≡ s.text

names_so_far : (n k : ℕ) (s : Lexer) (names : List Span) (t : Lexer) → Named s names t → NamesRead n k s t names
names_so_far n k s names t lines.Named.none = record {
  says = ap (λ m. names_said n m [] (row-rest s)) (none_more k);
  lines = refl;
  line = refl;
  word = omega arith;
  last = λ e. refl;
  same = refl;
}
  where
    none_more : (k : ℕ) → k ≡ k + 0
    none_more k = omega arith
names_so_far n k s names t (lines.Named.more before v u p h l ok) =
    let r = names_so_far n k s before v h in
    let q = took v t p l in
    let text = s.text.now in
    let w = p.bytes.now in
    let here : name_at text (span_of p) ≡ w = ap (λ (x : Bor (List ℕ)). name_at x.now (span_of p)) (sym r.same) ∙ span_reads v t p l in
    let good : (is_name w && not (among (map (name_at text) before) w)) ≡ true = sym (ok_same text before w) ∙ ok in
    let more : map (name_at text) (before ++ (span_of p ∷ [])) ≡ map (name_at text) before ++ (w ∷ []) = map-append (name_at text) before (span_of p ∷ []) ∙ ap (λ x. map (name_at text) before ++ (x ∷ [])) here in
    let len = length-append before (span_of p ∷ []) in
    let count : suc (k + length before) ≡ k + length (before ++ (span_of p ∷ [])) = omega arith in
    let a = r.line in
    let b = r.word in
    let c = q.line in
    let d = q.word in
    record {
      says = r.says ∙ ap (names_said n (k + length before) (map (name_at text) before)) q.words
          ∙ ap (λ b. cond b (names_said n (suc (k + length before)) (map (name_at text) before ++ (w ∷ [])) (row-rest t)) (Err (placed in_text 20 n (k + length before)))) good
          ∙ ap₂ (λ m ns. names_said n m ns (row-rest t)) count (sym more);
      lines = r.lines ∙ q.lines;
      line = omega arith;
      word = omega arith;
      last = λ e. (let f = q.last in omega arith);
      same = q.text ∙ r.same;
    }

few-right : (n : ℕ) (names : List (List ℕ)) → length names ≤ 8 → few_channels n names (channels_refusal (length names)) ≡ Ok names
few-right n names l = ap (λ b. few_channels n names (cond b (Some (6, 0)) None)) (le-ltb 8 (length names) l)

few_wrong : (n : ℕ) (names : List (List ℕ)) → 8 < length names → few_channels n names (channels_refusal (length names)) ≡ Err (placed in_finder 6 n 1)
few_wrong n names l = ap (λ b. few_channels n names (cond b (Some (6, 0)) None)) (lt-ltb 8 (length names) l)

abbrev few_of : ℕ → List (List ℕ) → Result (List (List ℕ)) Placed
few_of n names = few_channels n names (channels_refusal (length names))

text_of : (names : List Span) (a b : Lexer) → a.text ≡ b.text → map (name_at a.text.now) names ≡ map (name_at b.text.now) names
text_of names a b e = ap (λ (x : Bor (List ℕ)). map (name_at x.now) names) e

-- the names to the end of the line
all-names : (n k : ℕ) (s v u : Lexer) (names : List Span) → Named s names v → Closed v u → names_said n k [] (row-rest s) ≡ Ok (map (name_at s.text.now) names)
all-names n k s v u names h c =
    let r = names_so_far n k s names v h in
    r.says ∙ ap (names_said n (k + length names) (map (name_at s.text.now) names)) c.none

pub channels_read : (s u : Lexer) (names : List Span) → Start s → ChannelsLine s u (Ok names) → LineRead (codes "channels") s u channels_said (map (name_at s.text.now) names)
channels_read s u names st (t, head, dh, (v, nh, ch), l) =
    let d = due_read (codes "channels") s t head st dh in
    let c = closed v u ch in
    let n = d.line.number in
    let r = names_so_far n 2 t names v nh in
    let len = length-map names (name_at t.text.now) in
    let x = d.last in
    let y = d.at in
    line-done (codes "channels") s t v u head channels_said (map (name_at s.text.now) names) d
    (ap (λ ws. then (names_said n 2 [] ws) (few_of n)) d.more ∙ ap (λ x. then x (few_of n)) (all-names n 2 t v u names nh c)
    ∙ few-right n (map (name_at t.text.now) names) (omega arith) ∙ ap Ok (text_of names t s d.same))
    r.lines (r.last (omega arith)) r.same c

pub channels_fail : (s u : Lexer) (f : Fault) → Start s → ChannelsLine s u (Err f) → LineFails (codes "channels") s channels_said (fault_placed f)
channels_fail s u f st (inl h) = due_fails (codes "channels") s u f st channels_said h
channels_fail s u f st (inr (t, head, dh, inl (names, v, p, nh, l, bad, e))) =
    let d = due_read (codes "channels") s t head st dh in
    let n = d.line.number in
    let r = names_so_far n 2 t names v nh in
    let q = took v u p l in
    let text = t.text.now in
    let w = p.bytes.now in
    let wrong : (is_name w && not (among (map (name_at text) names) w)) ≡ false = sym (ok_same text names w) ∙ bad in
    let a = d.number in
    let b = d.at in
    let c = r.line in
    let g = q.spot_line in
    let at-line : n ≡ p.spot.line = omega arith in
    let i = d.word in
    let j = r.word in
    let k = q.spot_word in
    let at-word : 2 + length names ≡ p.spot.word = omega arith in
    line_wrong (codes "channels") s t head channels_said (fault_placed f) d
    (ap (λ ws. then (names_said n 2 [] ws) (few_of n)) d.more
    ∙ ap (λ x. then x (few_of n)) (r.says ∙ ap (names_said n (2 + length names) (map (name_at text) names)) q.words
    ∙ ap (λ b. cond b (names_said n (suc (2 + length names)) (map (name_at text) names ++ (w ∷ [])) (row-rest u)) (Err (placed in_text 20 n (2 + length names)))) wrong)
    ∙ ap₂ (λ x y. Err (placed in_text 20 x y)) at-line at-word ∙ ap (λ g. Err (fault_placed g)) (sym e))
channels_fail s u f st (inr (t, head, dh, inr (names, (v, nh, ch), l, e))) =
    let d = due_read (codes "channels") s t head st dh in
    let c = closed v u ch in
    let n = d.line.number in
    let len = length-map names (name_at t.text.now) in
    line_wrong (codes "channels") s t head channels_said (fault_placed f) d
    (ap (λ ws. then (names_said n 2 [] ws) (few_of n)) d.more ∙ ap (λ x. then x (few_of n)) (all-names n 2 t v u names nh c)
    ∙ few_wrong n (map (name_at t.text.now) names) (omega arith)
    ∙ ap₂ (λ x y. Err (placed in_finder 6 x y)) d.number (sym d.head_word) ∙ ap (λ g. Err (fault_placed g)) (sym e))
