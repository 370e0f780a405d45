-- The rows of a text and the whole sheet: what the parser reads is what the text says.
use Rattle.std.proofs.Common.{◌≡◌, ℕ, suc, ◌+◌, ◌<◌, ◌≤◌, Bool, true, false, cond, eqb, ltb, leb, ◌⊎◌, List, [], ◌∷◌, ◌++◌, map, length, Ok, Err, vec_items, codes, Result, sym, refl, ap, ◌∙◌, ap₂, inl, inr, append_assoc, append-nil, arith, length-append}
use Rattle.std.specs.Str.{bytes_eq}
use Rattle.std.proofs.lemmas.List.{length-map}
use Rattle.std.proofs.lemmas.Bool.{le-leb, lt-leb, lt-ltb, le-ltb}
use Rattle.refusals.specs.Numbers.{sheet_refusal}
use Rattle.refusals.specs.declared.sheet.SheetRefusal.{SheetRefusal}
use Rattle.refusals.specs.declared.sheet.SheetRefusal.TheVariants as sheet
use Rattle.rows.specs.Bounds.{most_rows}
use Rattle.rows.specs.Rows.{said, refused, judged, sound_bands}
use Rattle.rows.specs.declared.span.Span.{Span}
use Rattle.sheet_text.specs.declared.lexer.Lexer.{Lexer}
use Rattle.sheet_text.specs.declared.lexer.Part.{Part}
use Rattle.sheet_text.specs.declared.lexer.Spot.{Spot}
use Rattle.sheet_text.specs.declared.refusal.Fault.{Fault}
use Rattle.sheet_text.specs.declared.refusal.ParseError.{ParseError}
use Rattle.sheet_text.specs.declared.refusal.ParseError.TheVariants as error
use Rattle.sheet_text.specs.declared.sheet.MeasureKind.{MeasureKind}
use Rattle.sheet_text.specs.declared.sheet.SheetText.{SheetText}
use Rattle.sheet_text.specs.Lines as lines
use Rattle.sheet_text.specs.Lines.{BytesRead, Bytes, SaysRow, RowFault, RowLine, RowsRead, RowLines}
use Rattle.sheet_text.specs.Refusals.{row_fault}
use Rattle.sheet_text.specs.Sheets.{row_bytes, SheetRead, Parsed}
use Rattle.sheet_text.specs.Spans.{name_at}
use Rattle.sheet_text.specs.Layers.{in_text, in_row, in_finder}
use Rattle.sheet_text.specs.Said.{Placed, placed, Line, then, or_placed, line_due, channels_said, measure_said, limit_said, bytes_said, row_word, row_judged, row_said, rows_said, SheetSaid, sheet_of, sheet_said, lines_of, fault_placed, Reads}
use Rattle.sheet_text.proofs.Told.{row-rest, after_line, lines_from, took, Start, closed, First, first_some, first-none, from_fresh, fresh_start}
use Rattle.sheet_text.proofs.SaidRight.{read_on, fails_there, channels_read, channels_fail, measure_read, measure_fails, limit_read, limit_fails}

-- what is put before an answer
abbrev put_before : {A : Type 0} → List A → Result (List A) Placed → Result (List A) Placed
put_before before r = then r (λ more. Ok (before ++ more))

put_one : {A : Type 0} (before : List A) (x : A) (r : Result (List A) Placed) → put_before before (then r (λ more. Ok (x ∷ more))) ≡ put_before (before ++ (x ∷ [])) r
put_one before x (Ok more) = ap Ok (sym (append_assoc before (x ∷ []) more))
put_one before x (Err e) = refl

put_none : {A : Type 0} (r : Result (List A) Placed) → put_before [] r ≡ r
put_none (Ok more) = refl
put_none (Err e) = refl

-- ── the bytes of a row ──

record BytesSoFar (n k : ℕ) (s t : Lexer) (bytes : List ℕ) : Type 0 where
  says : bytes_said n k (row-rest s) ≡ put_before bytes (bytes_said n (k + length bytes) (row-rest t))
  lines : after_line s ≡ after_line t
  line : t.line ≡ s.line
  word : t.word ≡ s.word + length bytes
  same : t.text ≡ s.text

bytes_so_far : (n k : ℕ) (s : Lexer) (bytes : List ℕ) (t : Lexer) → BytesRead s bytes t → BytesSoFar n k s t bytes
bytes_so_far n k s bytes t lines.BytesRead.none = record {
  says = ap (λ m. bytes_said n m (row-rest s)) (none_more k) ∙ sym (put_none (bytes_said n (k + 0) (row-rest s)));
  lines = refl;
  line = refl;
  word = omega arith;
  same = refl;
}
  where
    none_more : (k : ℕ) → k ≡ k + 0
    none_more k = omega arith
bytes_so_far n k s bytes t (lines.BytesRead.more before v u p b h l ok) =
    let r = bytes_so_far n k s before v h in
    let q = took v t p l in
    let len = length-append before (b ∷ []) in
    let count : suc (k + length before) ≡ k + length (before ++ (b ∷ [])) = omega arith in
    let a = r.line in
    let c = r.word in
    let d = q.line in
    let e = q.word in
    record {
      says = r.says
          ∙ ap (λ ws. put_before before (bytes_said n (k + length before) ws)) q.words
          ∙ ap (λ o. put_before before (then (or_placed o (placed in_text 20 n (k + length before))) (λ b. then (bytes_said n (suc (k + length before)) (row-rest t)) (λ bs. Ok (b ∷ bs))))) ok
          ∙ put_one before b (bytes_said n (suc (k + length before)) (row-rest t))
          ∙ ap (λ m. put_before (before ++ (b ∷ [])) (bytes_said n m (row-rest t))) count;
      lines = r.lines ∙ q.lines;
      line = omega arith;
      word = omega arith;
      same = q.text ∙ r.same;
    }

-- the state behind the first word of a line
record Head (n : ℕ) (head : Spot) (s : Lexer) : Type 0 where
  number : n ≡ head.line
  head_word : head.word ≡ 1
  at : head.line ≡ s.line + 1
  word : s.word ≡ 1

bytes_read : (n : ℕ) (s u : Lexer) (bytes : List ℕ) → Bytes s u (Ok bytes) → bytes_said n 2 (row-rest s) ≡ Ok bytes
bytes_read n s u bytes (t, h, c) =
    let r = bytes_so_far n 2 s bytes t h in
    r.says ∙ ap (λ ws. put_before bytes (bytes_said n (2 + length bytes) ws)) (closed t u c).none ∙ ap Ok (append-nil bytes)

bytes_fail : (n : ℕ) (head : Spot) (s u : Lexer) (f : Fault) → Head n head s → Bytes s u (Err f) → bytes_said n 2 (row-rest s) ≡ Err (fault_placed f)
bytes_fail n head s u f hd (bytes, t, p, h, l, bad, e) =
    let r = bytes_so_far n 2 s bytes t h in
    let q = took t u p l in
    let a = hd.number in
    let b = hd.at in
    let c = r.line in
    let d = q.spot_line in
    let at-line : n ≡ p.spot.line = omega arith in
    let i = hd.word in
    let j = r.word in
    let k = q.spot_word in
    let at-word : 2 + length bytes ≡ p.spot.word = omega arith in
    r.says
    ∙ ap (λ ws. put_before bytes (bytes_said n (2 + length bytes) ws)) q.words
    ∙ ap (λ o. put_before bytes (then (or_placed o (placed in_text 20 n (2 + length bytes))) (λ b. then (bytes_said n (suc (2 + length bytes)) (row-rest u)) (λ bs. Ok (b ∷ bs))))) bad
    ∙ ap₂ (λ x y. Err (placed in_text 20 x y)) at-line at-word ∙ ap (λ g. Err (fault_placed g)) (sym e)

-- ── one row ──

-- bytes are refused with 1 or 2 only
refused_by_two : (channels : ℕ) (bytes : List ℕ) (n p : ℕ) → judged channels bytes ≡ refused n p → (n ≡ 1) ⊎ (n ≡ 2)
refused_by_two channels [] n p e = inl cc
refused_by_two channels (w ∷ bs) n p e = go (eqb (length bs) channels) (ltb 14 w) (ltb (sound_bands bs) (length bs)) e
  where
    go : (a b c : Bool) → cond a (cond b (refused 2 0) (cond c (refused 2 (sound_bands bs + 1)) (said w bs))) (refused 1 0) ≡ refused n p → (n ≡ 1) ⊎ (n ≡ 2)
    go false b c e = inl cc
    go true true c e = inr cc
    go true false true e = inr cc
    go true false false e = let z : ◌≡◌ {A = ℕ} 0 1 = cc in absurd (omega arith)

row-right : (channels standing n : ℕ) (s u : Lexer) (bytes : List ℕ) (l : Line) → l.number ≡ n → l.more ≡ row-rest s → Bytes s u (Ok bytes) → standing < 16 → SaysRow channels bytes → row_said channels standing l ≡ Ok bytes
row-right channels standing n s u bytes l e m h few (w, bs, j) =
    ap₂ (λ x ws. then (bytes_said x 2 ws) (λ bytes. cond (leb most_rows standing) (Err (placed in_finder 3 l.number 1)) (row_judged l.number bytes (judged channels bytes)))) e m
    ∙ ap (λ r. then r (λ bytes. cond (leb most_rows standing) (Err (placed in_finder 3 l.number 1)) (row_judged l.number bytes (judged channels bytes)))) (bytes_read n s u bytes h)
    ∙ ap (λ b. cond b (Err (placed in_finder 3 l.number 1)) (row_judged l.number bytes (judged channels bytes))) (lt-leb most_rows standing few)
    ∙ ap (row_judged l.number bytes) j

judged_fault : (channels n : ℕ) (head : Spot) (bytes : List ℕ) (e : SheetRefusal) → n ≡ head.line → head.word ≡ 1 → judged channels bytes ≡ refused (sheet_refusal e).0 (sheet_refusal e).1 →
    ◌≡◌ {A = Result (List ℕ) Placed} (Err (placed in_row (sheet_refusal e).0 n (row_word (sheet_refusal e).0 (sheet_refusal e).1))) (Err (fault_placed (row_fault e head)))
judged_fault channels n head bytes sheet.Length a b j = ap₂ (λ x y. Err (placed in_row 1 x y)) a (sym b)
judged_fault channels n head bytes (sheet.Band p) a b j = ap (λ x. Err (placed in_row 2 x (p + 2))) a
judged_fault channels n head bytes sheet.Rows a b j = elim (refused_by_two channels bytes 3 0 j) [ inl x ↦ absurd (omega arith) | inr x ↦ absurd (omega arith) ]
judged_fault channels n head bytes sheet.Limit a b j = elim (refused_by_two channels bytes 5 0 j) [ inl x ↦ absurd (omega arith) | inr x ↦ absurd (omega arith) ]
judged_fault channels n head bytes sheet.Channels a b j = elim (refused_by_two channels bytes 6 0 j) [ inl x ↦ absurd (omega arith) | inr x ↦ absurd (omega arith) ]

row_wrong : (channels standing n : ℕ) (head : Spot) (s u : Lexer) (f : Fault) (l : Line) → l.number ≡ n → l.more ≡ row-rest s → Head n head s → RowLine head standing channels s u (Err f) → row_said channels standing l ≡ Err (fault_placed f)
row_wrong channels standing n head s u f l e m hd (inl h) =
    ap₂ (λ x ws. then (bytes_said x 2 ws) (λ bytes. cond (leb most_rows standing) (Err (placed in_finder 3 l.number 1)) (row_judged l.number bytes (judged channels bytes)))) e m
    ∙ ap (λ r. then r (λ bytes. cond (leb most_rows standing) (Err (placed in_finder 3 l.number 1)) (row_judged l.number bytes (judged channels bytes)))) (bytes_fail n head s u f hd h)
row_wrong channels standing n head s u f l e m hd (inr (bytes, h, inl (many, fe))) =
    ap₂ (λ x ws. then (bytes_said x 2 ws) (λ bytes. cond (leb most_rows standing) (Err (placed in_finder 3 l.number 1)) (row_judged l.number bytes (judged channels bytes)))) e m
    ∙ ap (λ r. then r (λ bytes. cond (leb most_rows standing) (Err (placed in_finder 3 l.number 1)) (row_judged l.number bytes (judged channels bytes)))) (bytes_read n s u bytes h)
    ∙ ap (λ b. cond b (Err (placed in_finder 3 l.number 1)) (row_judged l.number bytes (judged channels bytes))) (le-leb most_rows standing many)
    ∙ ap₂ (λ x y. Err (placed in_finder 3 x y)) (e ∙ hd.number) (sym hd.head_word) ∙ ap (λ g. Err (fault_placed g)) (sym fe)
row_wrong channels standing n head s u f l e m hd (inr (bytes, h, inr (few, (r, j, fe)))) =
    ap₂ (λ x ws. then (bytes_said x 2 ws) (λ bytes. cond (leb most_rows standing) (Err (placed in_finder 3 l.number 1)) (row_judged l.number bytes (judged channels bytes)))) e m
    ∙ ap (λ r. then r (λ bytes. cond (leb most_rows standing) (Err (placed in_finder 3 l.number 1)) (row_judged l.number bytes (judged channels bytes)))) (bytes_read n s u bytes h)
    ∙ ap (λ b. cond b (Err (placed in_finder 3 l.number 1)) (row_judged l.number bytes (judged channels bytes))) (lt-leb most_rows standing few)
    ∙ ap (row_judged l.number bytes) j
    ∙ judged_fault channels l.number head bytes r (e ∙ hd.number) hd.head_word j ∙ ap (λ g. Err (fault_placed g)) (sym fe)

-- ── the rows ──

-- the line at hand, and the state behind its first word
record AtRow (s v : Lexer) (p : Part) : Type 0 where
  line : Line
  lines : lines_from s ≡ line ∷ after_line v
  number : line.number ≡ p.spot.line
  first : line.first ≡ p.bytes.now
  more : line.more ≡ row-rest v
  head : Head p.spot.line p.spot v
  same : v.text ≡ s.text

at_row : (s v : Lexer) (p : Part) → First s v p → AtRow s v p
at_row s v p f = record {
  line = record { number = p.spot.line; first = p.bytes.now; more = row-rest v };
  lines = f.lines;
  number = refl;
  first = refl;
  more = refl;
  head = record { number = refl; head_word = f.spot_word; at = f.line; word = f.word };
  same = f.text;
}

-- a row line that is right, and what follows
abbrev go_on : ℕ → ℕ → List Line → Result (List ℕ) Placed → Result (List (List ℕ)) Placed
go_on channels standing ls r = then r (λ bytes. then (rows_said channels (suc standing) ls) (λ rows. Ok (bytes ∷ rows)))

row_first : (channels standing : ℕ) (s v : Lexer) (p : Part) (a : AtRow s v p) (b : Bool) → bytes_eq p.bytes.now (codes "row") ≡ b →
    rows_said channels standing (lines_from s) ≡ cond b (go_on channels standing (after_line v) (row_said channels standing a.line)) (Err (placed in_text 19 p.spot.line 1))
row_first channels standing s v p a b e =
    ap (rows_said channels standing) a.lines
    ∙ ap₂ (λ c n. cond c (go_on channels standing (after_line v) (row_said channels standing a.line)) (Err (placed in_text 19 n 1))) (ap (λ w. bytes_eq w (codes "row")) a.first ∙ e) a.number

record RowsSoFar (channels : ℕ) (s t : Lexer) (rows : List (List ℕ)) : Type 0 where
  says : rows_said channels 0 (lines_from s) ≡ put_before rows (rows_said channels (length rows) (lines_from t))
  start : Start t

rows_so_far : (channels : ℕ) (s : Lexer) (rows : List (List ℕ)) (t : Lexer) → Start s → RowsRead channels s rows t → RowsSoFar channels s t rows
rows_so_far channels s rows t st lines.RowsRead.none = record { says = sym (put_none (rows_said channels 0 (lines_from s))); start = st }
rows_so_far channels s rows t st (lines.RowsRead.more before v w u p bytes h f same (b, few, right)) =
    let r = rows_so_far channels s before v st h in
    let a = at_row v w p (first_some v w p r.start f) in
    let z = bytes_so_far p.spot.line 2 w bytes b.0 b.1 in
    let c = closed b.0 t b.2 in
    let k = length before in
    let len = length-append before (bytes ∷ []) in
    let count : suc k ≡ length (before ++ (bytes ∷ [])) = omega arith in
    record {
      says = r.says
          ∙ ap (put_before before) (row_first channels k v w p a true same
          ∙ ap (go_on channels k (after_line w)) (row-right channels k p.spot.line w t bytes a.line a.number a.more b few right))
          ∙ put_one before bytes (rows_said channels (suc k) (after_line w))
          ∙ ap₂ (λ m ls. put_before (before ++ (bytes ∷ [])) (rows_said channels m ls)) count (z.lines ∙ c.lines);
      start = c.start;
    }

rows_read : (channels : ℕ) (s u : Lexer) (rows : List (List ℕ)) → Start s → RowLines channels s u (Ok rows) → rows_said channels 0 (lines_from s) ≡ Ok rows
rows_read channels s u rows st (t, h, f) =
    let r = rows_so_far channels s rows t st h in
    r.says ∙ ap (λ ls. put_before rows (rows_said channels (length rows) ls)) (first-none t u r.start f).0 ∙ ap Ok (append-nil rows)

rows_fail : (channels : ℕ) (s u : Lexer) (f : Fault) → Start s → RowLines channels s u (Err f) → rows_said channels 0 (lines_from s) ≡ Err (fault_placed f)
rows_fail channels s u f st (inl (rows, t, p, h, w, other, e)) =
    let r = rows_so_far channels s rows t st h in
    let a = at_row t u p (first_some t u p r.start w) in
    r.says ∙ ap (put_before rows) (row_first channels (length rows) t u p a false other)
    ∙ ap (λ y. Err (placed in_text 19 p.spot.line y)) (sym a.head.head_word) ∙ ap (λ g. Err (fault_placed g)) (sym e)
rows_fail channels s u f st (inr (rows, t, v, p, h, w, same, bad)) =
    let r = rows_so_far channels s rows t st h in
    let a = at_row t v p (first_some t v p r.start w) in
    let k = length rows in
    r.says
    ∙ ap (put_before rows) (row_first channels k t v p a true same
    ∙ ap (go_on channels k (after_line v)) (row_wrong channels k p.spot.line p.spot v u f a.line a.number a.more a.head bad))

-- ── the whole sheet ──

abbrev rows_then : List (List ℕ) → MeasureKind → ℕ → Result (List (List ℕ)) Placed → Result SheetSaid Placed
rows_then names kind n r = then r (λ rows. Ok (record { names = names; measure = kind; limit = n; rows = rows }))

abbrev limit-then : List (List ℕ) → MeasureKind → Line × List Line → ℕ → Result SheetSaid Placed
limit-then names kind c n = rows_then names kind n (rows_said (length names) 0 c.1)

abbrev measure-then : List (List ℕ) → Line × List Line → MeasureKind → Result SheetSaid Placed
measure-then names b kind = then (line_due (codes "limit") b.0.number b.1) (λ c. then (limit_said c.0) (limit-then names kind c))

abbrev channels-then : Line × List Line → List (List ℕ) → Result SheetSaid Placed
channels-then a names = then (line_due (codes "measure") a.0.number a.1) (λ b. then (measure_said b.0) (measure-then names b))

module _ (s : Lexer) (st : Start s) (zero : s.last ≡ 0) where
  from_start : sheet_of (lines_from s) ≡ then (line_due (codes "channels") s.last (lines_from s)) (λ a. then (channels_said a.0) (channels-then a))
  from_start = ap (λ n. then (line_due (codes "channels") n (lines_from s)) (λ a. then (channels_said a.0) (channels-then a))) (sym zero)

  module _ (t : Lexer) (names : List Span) (ch : lines.ChannelsLine s t (Ok names)) where
    abbrev called : List (List ℕ)
    called = map (name_at s.text.now) names

    past-channels : sheet_of (lines_from s) ≡ then (line_due (codes "measure") t.last (lines_from t)) (λ b. then (measure_said b.0) (measure-then called b))
    past-channels =
        let r = channels_read s t names st ch in
        from_start ∙ read_on (codes "channels") s t channels_said called r channels-then
        ∙ ap (λ n. then (line_due (codes "measure") n (lines_from t)) (λ b. then (measure_said b.0) (measure-then called b))) (sym r.last)

    start-measure : Start t
    start-measure = (channels_read s t names st ch).start

    module _ (v : Lexer) (kind : MeasureKind) (mh : lines.MeasureLine t v (Ok kind)) where
      past-measure : sheet_of (lines_from s) ≡ then (line_due (codes "limit") v.last (lines_from v)) (λ c. then (limit_said c.0) (limit-then called kind c))
      past-measure =
          let r = measure_read t v kind start-measure mh in
          past-channels ∙ read_on (codes "measure") t v measure_said kind r (measure-then called)
          ∙ ap (λ n. then (line_due (codes "limit") n (lines_from v)) (λ c. then (limit_said c.0) (limit-then called kind c))) (sym r.last)

      start-limit : Start v
      start-limit = (measure_read t v kind start-measure mh).start

      module _ (w : Lexer) (n : ℕ) (lh : lines.LimitLine v w (Ok n)) where
        past-limit : sheet_of (lines_from s) ≡ rows_then called kind n (rows_said (length called) 0 (lines_from w))
        past-limit = past-measure ∙ read_on (codes "limit") v w limit_said n (limit_read v w n start-limit lh) (limit-then called kind)

        start-rows : Start w
        start-rows = (limit_read v w n start-limit lh).start

        pub sheet_right : (channels : ℕ) → channels ≡ length names → (u : Lexer) (rows : List (List ℕ)) → RowLines channels w u (Ok rows) → sheet_of (lines_from s) ≡ Ok (record { names = called; measure = kind; limit = n; rows = rows })
        sheet_right channels e u rows rh =
            past-limit ∙ ap (λ k. rows_then called kind n (rows_said k 0 (lines_from w))) (length-map names (name_at s.text.now) ∙ sym e)
            ∙ ap (rows_then called kind n) (rows_read channels w u rows start-rows rh)

        rows_at_fault : (u : Lexer) (f : Fault) → RowLines (length names) w u (Err f) → sheet_of (lines_from s) ≡ Err (fault_placed f)
        rows_at_fault u f rh =
            past-limit ∙ ap (λ k. rows_then called kind n (rows_said k 0 (lines_from w))) (length-map names (name_at s.text.now))
            ∙ ap (rows_then called kind n) (rows_fail (length names) w u f start-rows rh)

  pub sheet_at_fault : (u : Lexer) (f : Fault) → SheetRead s u (Err f) → sheet_of (lines_from s) ≡ Err (fault_placed f)
  sheet_at_fault u f (inl h) = from_start ∙ fails_there (codes "channels") s channels_said (fault_placed f) channels-then (channels_fail s u f st h)
  sheet_at_fault u f (inr (t, names, ch, inl h)) =
      past-channels t names ch ∙ fails_there (codes "measure") t measure_said (fault_placed f) (measure-then (called t names ch)) (measure_fails t u f (start-measure t names ch) h)
  sheet_at_fault u f (inr (t, names, ch, inr (v, kind, mh, inl h))) =
      past-measure t names ch v kind mh ∙ fails_there (codes "limit") v limit_said (fault_placed f) (limit-then (called t names ch) kind) (limit_fails v u f (start-limit t names ch v kind mh) h)
  sheet_at_fault u f (inr (t, names, ch, inr (v, kind, mh, inr (w, n, lh, rh)))) = rows_at_fault t names ch v kind mh w n lh u f rh

-- ── what the parser answers ──

short : (text : List ℕ) → length text ≤ 4096 → sheet_said text ≡ sheet_of (lines_of text)
short text l = ap (λ b. cond b (Err (placed in_text 21 1 1)) (sheet_of (lines_of text))) (le-ltb 4096 (length text) l)

pub parsed_reads : (text : List ℕ) (r : Result SheetText ParseError) → Parsed text r → Reads text r
parsed_reads text (Ok sheet) (l, sound, (s, u, fresh, (t, v, w, ch, mh, lh, rh))) =
    let st = fresh_start text s fresh in
    let named = sound.named in
    sym (short text l ∙ ap sheet_of (sym (from_fresh text s fresh))
    ∙ sheet_right s st fresh.4 t (vec_items sheet.names) ch v sheet.measure mh w sheet.limit.value lh sheet.channels.value (sym named ∙ sheet.names.ok.0) u (row_bytes sheet.rows) rh
    ∙ ap (λ x. Ok (record { names = map (name_at x) (vec_items sheet.names); measure = sheet.measure; limit = sheet.limit.value; rows = row_bytes sheet.rows })) fresh.0)
parsed_reads text (Err (error.Refused f)) (inl (l, e)) =
    ap (λ g. Err (fault_placed g)) e ∙ sym (ap (λ b. cond b (Err (placed in_text 21 1 1)) (sheet_of (lines_of text))) (lt-ltb 4096 (length text) l))
parsed_reads text (Err (error.Refused f)) (inr (l, ordinary, (s, u, fresh, h))) =
    sym (short text l ∙ ap sheet_of (sym (from_fresh text s fresh)) ∙ sheet_at_fault s (fresh_start text s fresh) fresh.4 u f h)
parsed_reads text (Err error.Memory) l = l
