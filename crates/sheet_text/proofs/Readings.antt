use Rattle.std.proofs.Common.{◌≡◌, ℕ, ◌<◌, ◌≤◌, true, List, [], ◌∷◌, length, take, drop, Some, None, Ok, Err, Option, Result, is_ok, sym, refl, ap, ◌∙◌, subst, inl, inr, arith, length-take-le, length-append, Bor, vec_items, vec_len}
use Rattle.std.specs.List.{AllByRecursion}
use Rattle.std.proofs.ByRecursion.{All-push}
use Rattle.std.proofs.lemmas.List.Sums.{prefix_len-le-length}
use Rattle.std.proofs.lemmas.Bool.Decides.{nat_tests}
use Rattle.sheet_text.specs.declared.lexer.Lexer.{Lexer}
use Rattle.sheet_text.specs.declared.lexer.Part.{Part}
use Rattle.sheet_text.specs.declared.lexer.Spot.{Spot}
use Rattle.sheet_text.specs.declared.sheet.SheetText.{SheetText}
use Rattle.sheet_text.proofs.Repeats.{word-within}
use Rattle.sheet_text.proofs.LineSteps.{row_count}
use Rattle.sheet_text.specs.declared.lexer.Word.TheVariants as word
use Rattle.refusals.specs.declared.sheet.SheetRefusal.{SheetRefusal}
use Rattle.rows.specs.Read.{Read}
use Rattle.rows.specs.Rows.{judged}
use Rattle.rows.specs.declared.row.Row.{Row}
use Rattle.rows.specs.declared.span.Span.{Span}
use Rattle.sheet_text.specs.Forms.{is_name}
use Rattle.sheet_text.specs.Lines as lines
use Rattle.sheet_text.specs.Lines.{Named, ChannelsLine, BytesRead, RowLine, RowsRead, RowLines, SaysRow, span_of}
use Rattle.sheet_text.specs.Sheets.{row_bytes, Sound, SheetRead}
use Rattle.sheet_text.specs.Spans.{InText, name_at, name_ok, Formed}
use Rattle.sheet_text.specs.Steps as steps
use Rattle.sheet_text.specs.Steps.{InLine, Passed, IsFirstWord}
use Rattle.sheet_text.specs.Texts.{Lexed, in_word, start_of, size_of}

-- each row that was read is right
pub said-rows : (channels : ℕ) (s : Lexer) (rows : List (List ℕ)) (t : Lexer) → RowsRead channels s rows t → AllByRecursion (SaysRow channels) rows
said-rows channels s rows t lines.RowsRead.none = tt
said-rows channels s rows t (lines.RowsRead.more before a b u p bytes h f g l) = All-push (SaysRow channels) before bytes (said-rows channels s before a h) l.2

pub rows_right : (channels : ℕ) (s u : Lexer) (rows : List (List ℕ)) → RowLines channels s u (Ok rows) → AllByRecursion (SaysRow channels) rows
rows_right channels s u rows h = said-rows channels s rows h.0 h.1

-- the bytes of a word that was taken stand in the text at its span
pub span_reads : (s t : Lexer) (p : Part) → Lexed s t (Some (word.Part p)) → name_at s.text.now (span_of p) ≡ p.bytes.now
span_reads s t p h =
    let rest = drop (start_of s) s.text.now in
    let e : length p.bytes.now ≡ size_of s = ap length h.1 ∙ length-take-le (size_of s) rest (prefix_len-le-length in_word rest) in
    ap (λ n. take n (drop p.from s.text.now)) e ∙ ap (λ i. take (size_of s) (drop i s.text.now)) h.2 ∙ sym h.1

named_of : (text : List ℕ) (names : List Span) (name : List ℕ) → name_ok text names name ≡ true → is_name name ≡ true
named_of text names name e = grind (arith, nat_tests)

-- the names leave the text as it is; each of them lies in it and is well formed
pub named_text : (s : Lexer) (names : List Span) (t : Lexer) → Named s names t → t.text ≡ s.text
named_text s names t lines.Named.none = refl
named_text s names t (lines.Named.more before a u p h l k) = l.4.0 ∙ named_text s before a h

pub named_within : (s : Lexer) (names : List Span) (t : Lexer) → Named s names t → AllByRecursion (InText (length s.text.now)) names
named_within s names t lines.Named.none = tt
named_within s names t (lines.Named.more before a u p h l k) =
    let e : length t.text.now ≡ length s.text.now = ap (λ text. length text.now) (l.4.0 ∙ named_text s before a h) in
    All-push (InText (length s.text.now)) before (span_of p) (named_within s before a h) (omega (arith, word-within a t p l))

-- what the names before a word are, where it was taken
pub names_before : (s t u : Lexer) (p : Part) (names given : List Span) → given ≡ names → Named s names t → Lexed t u (Some (word.Part p)) → AllByRecursion (InText (length u.text.now)) given
names_before s t u p names given e h l =
    let k : length s.text.now ≡ length u.text.now = ap (λ text. length text.now) (sym (l.4.0 ∙ named_text s names t h)) in
    subst (AllByRecursion (InText (length u.text.now))) (sym e) (subst (λ n. AllByRecursion (InText n) names) k (named_within s names t h))

-- each name that was read is well formed, and the text is the same
pub formed-names : (s : Lexer) (names : List Span) (t : Lexer) → Named s names t → AllByRecursion (Formed s.text.now) names × (t.text ≡ s.text)
formed-names s names t lines.Named.none = (tt, refl)
formed-names s names t (lines.Named.more before a u p h l k) =
    let e : name_at s.text.now (span_of p) ≡ p.bytes.now = ap (λ text. name_at text.now (span_of p)) (sym (named_text s before a h)) ∙ span_reads a t p l in
    (All-push (Formed s.text.now) before (span_of p) (formed-names s before a h).0 (ap is_name e ∙ named_of s.text.now before p.bytes.now k), l.4.0 ∙ (formed-names s before a h).1)

passed_text : (s t : Lexer) → Passed s t → t.text ≡ s.text
passed_text s t steps.Passed.start = refl
passed_text s t (steps.Passed.more a u h l) = l.2.0 ∙ passed_text s a h

first-text : (s u : Lexer) (o : Option Part) → IsFirstWord s u o → u.text ≡ s.text
first-text s u (Some p) h = h.2.4.0 ∙ passed_text s h.0 h.1
first-text s u None h = h.2.2.0 ∙ passed_text s h.0 h.1

pub channels-formed : (s u : Lexer) (names : List Span) → ChannelsLine s u (Ok names) → AllByRecursion (Formed s.text.now) names
channels-formed s u names h =
    let e : h.0.text ≡ s.text = first-text s h.0 h.2.0 h.2.1 in
    subst (λ (text : Bor (List ℕ)). AllByRecursion (Formed text.now) names) e (formed-names h.0 names h.3.0 h.3.1).0

pub channels-within : (s u : Lexer) (names : List Span) → ChannelsLine s u (Ok names) → AllByRecursion (InText (length s.text.now)) names
channels-within s u names h =
    let e : h.0.text ≡ s.text = first-text s h.0 h.2.0 h.2.1 in
    subst (λ (text : Bor (List ℕ)). AllByRecursion (InText (length text.now)) names) e (named_within h.0 names h.3.0 h.3.1)

-- the first word of a line and the bytes of a row are read further on in the same text
passed_on : (s t : Lexer) → Passed s t → s.at ≤ t.at
passed_on s t steps.Passed.start = omega arith
passed_on s t (steps.Passed.more a u h l) = omega (arith, passed_on s a h, l.2.1)

pub first_on : (s t : Lexer) (p : Part) → IsFirstWord s t (Some p) → (length t.text.now ≡ length s.text.now) × (s.at < t.at)
first_on s t p h = (ap (λ text. length text.now) (first-text s t (Some p) h), omega (arith, passed_on s h.0 h.1, h.2.0, h.2.4.1))

read_on : (s : Lexer) (bytes : List ℕ) (t : Lexer) → BytesRead s bytes t → (t.text ≡ s.text) × (s.at ≤ t.at)
read_on s bytes t lines.BytesRead.none = (refl, omega arith)
read_on s bytes t (lines.BytesRead.more before a u p b h l k) =
    let q = read_on s before a h in (l.4.0 ∙ q.0, omega (arith, q.1, l.4.1))

ended_on : (s t : Lexer) → InLine s t None → (t.text ≡ s.text) × (s.at ≤ t.at)
ended_on s t (inl l) = (l.2.0, omega (arith, l.2.1))
ended_on s t (inr l) = (l.2.0, omega (arith, l.2.1))

pub row_on : (head : Spot) (standing channels : ℕ) (s t : Lexer) (bytes : List ℕ) → RowLine head standing channels s t (Ok bytes) → (length t.text.now ≡ length s.text.now) × (s.at ≤ t.at)
row_on head standing channels s t bytes ((a, h, l), few, says) =
    let q = read_on s bytes a h in
    let r = ended_on a t l in (ap (λ text. length text.now) (r.0 ∙ q.0), omega (arith, q.1, r.1))

-- the bytes of a row that was read say one
pub says_row : (channels : ℕ) (bytes given : List ℕ) (r : Result Row SheetRefusal) → given ≡ bytes → true ≡ is_ok r → Read channels given r → SaysRow channels bytes
says_row channels bytes given (Ok row) e k h = (_, _, sym (ap (judged channels) e) ∙ h)
says_row channels bytes given (Err refusal) e k h = cc

-- at most sixteen rows are read
rows_few : (channels : ℕ) (s : Lexer) (rows : List (List ℕ)) (t : Lexer) → RowsRead channels s rows t → length rows ≤ 16
rows_few channels s rows t lines.RowsRead.none = omega arith
rows_few channels s rows t (lines.RowsRead.more before a b u p bytes h f g l) = omega (arith, l.1, length-append before (bytes ∷ []))

-- what a sheet that was read is
pub sound_from : (s u : Lexer) (sheet : SheetText) → vec_len sheet.names ≡ sheet.channels.value → SheetRead s u (Ok sheet) → Sound s.text.now sheet
sound_from s u sheet n (t, v, w, ch, mh, lh, rh) = record {
  named = n;
  within = channels-within s t (vec_items sheet.names) ch;
  formed = channels-formed s t (vec_items sheet.names) ch;
  few = omega (arith, rows_few sheet.channels.value w (row_bytes sheet.rows) rh.0 rh.1, row_count sheet.rows);
  right = rows_right sheet.channels.value w u (row_bytes sheet.rows) rh;
}
