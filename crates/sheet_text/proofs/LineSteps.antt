use Rattle.std.proofs.Common.{◌≡◌, ℕ, ◌<◌, Bool, true, false, cond, ltb, List, [], ◌∷◌, ◌++◌, map, length, Some, None, Ok, Err, vec_items, vec_len, codes, Option, Result, Vec, ok_or, sym, refl, ap, ◌∙◌, subst, inl, inr, arith, ltb-true}
use lib.ListN.{length-map}
use Rattle.std.proofs.lemmas.List.{map-append}
use Rattle.std.specs.Result.{MatchResult, IsErrAnd}
use Rattle.std.specs.Str.{bytes_eq}
use Rattle.std.specs.declared.alloc.Global.{Global}
use Rattle.refusals.specs.Numbers.{sheet_refusal}
use Rattle.refusals.specs.declared.sheet.SheetRefusal.{SheetRefusal}
use Rattle.refusals.specs.declared.sheet.SheetRefusal.TheVariants as sheet
use Rattle.rows.specs.Bounds.{channels_refusal}
use Rattle.sheet_text.specs.declared.lexer.Lexer.{Lexer}
use Rattle.sheet_text.specs.declared.lexer.Part.{Part}
use Rattle.sheet_text.specs.declared.lexer.Spot.{Spot}
use Rattle.sheet_text.specs.declared.lexer.Word.TheVariants as word
use Rattle.sheet_text.specs.declared.refusal.Fault.{Fault}
use Rattle.sheet_text.specs.declared.refusal.ParseError.{ParseError}
use Rattle.sheet_text.specs.declared.refusal.ParseError.TheVariants as error
use Rattle.sheet_text.specs.declared.sheet.MeasureKind.{MeasureKind}
use Rattle.rows.specs.declared.span.Span.{Span}
use Rattle.sheet_text.specs.Forms.{byte_of}
use Rattle.sheet_text.specs.Lines as lines
use Rattle.sheet_text.specs.Lines.{Due, SoleWord, TwoWords, Named, Names, BytesRead, span_of, ChannelsLine, MeasureLine, LimitLine, RowLine, RowsRead, RowLines}
use Rattle.sheet_text.specs.Refusals.{Faulted}
use Rattle.sheet_text.specs.Sheets.{row_bytes, SheetRead}
use Rattle.sheet_text.specs.Spans.{name_ok}
use Rattle.sheet_text.specs.Steps.{IsFirstWord}
use Rattle.sheet_text.specs.Texts.{Lexed}

pub two_words : (due : List ℕ) (s t u : Lexer) (head : Spot) (r : Result Part Fault) → Due due s t (Ok head) → SoleWord head t u r → TwoWords due s u r
two_words due s t u head (Ok p) d h = (t, head, d, h)
two_words due s t u head (Err f) d h = inr (t, head, d, h)

-- no names yet, and one more
pub named_none : (s : Lexer) (names : List Span) → names ≡ [] → Named s names s
named_none s names e = let P : List Span → Type 0 = λ ns. Named s ns s in subst P (sym e) lines.Named.none

pub named_more : (s t u : Lexer) (names more : List Span) (p : Part) → more ≡ names ++ (span_of p ∷ []) → Named s names t → Lexed t u (Some (word.Part p)) → name_ok s.text.now names p.bytes.now ≡ true → Named s more u
named_more s t u names more p e h l k = let P : List Span → Type 0 = λ ns. Named s ns u in subst P (sym e) (lines.Named.more names t u p h l k)

-- the same judgement over the same text and names
pub name-same : (text text' : List ℕ) (names names' : List Span) (name : List ℕ) (b : Bool) → text' ≡ text → names' ≡ names → b ≡ name_ok text' names' name → name_ok text names name ≡ b
name-same text text' names names' name b e f h = sym (h ∙ ap (λ t. name_ok t names' name) e ∙ ap (λ ns. name_ok text ns name) f)

pub bytes_none : (s : Lexer) (bytes : List ℕ) → bytes ≡ [] → BytesRead s bytes s
bytes_none s bytes e = let P : List ℕ → Type 0 = λ bs. BytesRead s bs s in subst P (sym e) lines.BytesRead.none

pub bytes_more : (s t u : Lexer) (bytes more : List ℕ) (p : Part) (b : ℕ) → more ≡ bytes ++ (b ∷ []) → BytesRead s bytes t → Lexed t u (Some (word.Part p)) → byte_of p.bytes.now ≡ Some b → BytesRead s more u
bytes_more s t u bytes more p b e h l k = let P : List ℕ → Type 0 = λ bs. BytesRead s bs u in subst P (sym e) (lines.BytesRead.more bytes t u p b h l k)

-- a fault among the names is one of the channels' line
pub channels-names : (s t u : Lexer) (head : Spot) (e : ParseError) → Due (codes "channels") s t (Ok head) → Faulted (Names t u) e → Faulted (ChannelsLine s u) e
channels-names s t u head (error.Refused f) d h = inr (t, head, d, inl h)
channels-names s t u head error.Memory d h = tt

-- what a refused channel count says
refused_cond : (b : Bool) (x y : ℕ × ℕ) → ◌≡◌ {A = Option (ℕ × ℕ)} (Some x) (cond b (Some y) None) → (b ≡ true) × (x ≡ y)
refused_cond true x y h = (refl, cc)
refused_cond false x y h = let z : ◌≡◌ {A = ℕ} 0 1 = cc in absurd (omega arith)

numbered_six : (e : SheetRefusal) → sheet_refusal e ≡ (6, 0) → e ≡ sheet.Channels
numbered_six sheet.Length h = absurd (omega (arith, ap (λ x. x.0) h))
numbered_six (sheet.Band p) h = absurd (omega (arith, ap (λ x. x.0) h))
numbered_six sheet.Rows h = absurd (omega (arith, ap (λ x. x.0) h))
numbered_six sheet.Limit h = absurd (omega (arith, ap (λ x. x.0) h))
numbered_six sheet.Channels h = refl

pub channels-refused : (e : SheetRefusal) (n : ℕ) → ◌≡◌ {A = Option (ℕ × ℕ)} (Some (sheet_refusal e)) (channels_refusal n) → (8 < n) × (e ≡ sheet.Channels)
channels-refused e n h = let q = refused_cond (ltb 8 n) (sheet_refusal e) (6, 0) h in (omega (arith, ltb-true 8 n q.0), numbered_six e q.1)

-- no rows yet, and one more
pub rows_none : (channels : ℕ) (s : Lexer) (rows : Vec (Vec ℕ Global) Global) → vec_items rows ≡ [] → RowsRead channels s (row_bytes rows) s
rows_none channels s rows e = let P : List (Vec ℕ Global) → Type 0 = λ rs. RowsRead channels s (map vec_items rs) s in subst P (sym e) lines.RowsRead.none

pub row_count : (rows : Vec (Vec ℕ Global) Global) → length (row_bytes rows) ≡ vec_len rows
row_count rows = length-map (vec_items rows) vec_items ∙ sym rows.ok.0

pub row-standing : (head : Spot) (channels : ℕ) (t u : Lexer) (rows : Vec (Vec ℕ Global) Global) (n : ℕ) (r : Result (List ℕ) Fault) → n ≡ vec_len rows → RowLine head n channels t u r → RowLine head (length (row_bytes rows)) channels t u r
row-standing head channels t u rows n r e h = let P : ℕ → Type 0 = λ k. RowLine head k channels t u r in subst P (e ∙ sym (row_count rows)) h

pub rows_more : (channels : ℕ) (s t v u : Lexer) (rows more : Vec (Vec ℕ Global) Global) (row : Vec ℕ Global) (p : Part) (n : ℕ) → vec_items more ≡ vec_items rows ++ (row ∷ []) → n ≡ vec_len rows
    → RowsRead channels s (row_bytes rows) t → IsFirstWord t v (Some p) → true ≡ bytes_eq p.bytes.now (codes "row") → RowLine p.spot n channels v u (Ok (vec_items row))
    → RowsRead channels s (row_bytes more) u
rows_more channels s t v u rows more row p n e k h f g l =
    let P : List (List ℕ) → Type 0 = λ rs. RowsRead channels s rs u in
    subst P (sym (ap (map vec_items) e ∙ map-append vec_items (vec_items rows) (row ∷ [])))
    (lines.RowsRead.more (row_bytes rows) t v u p (vec_items row) h f (sym g) (row-standing p.spot channels v u rows n (Ok (vec_items row)) k l))

-- a fault in a row's line is one of the rows' lines
pub rows_fault : (channels : ℕ) (s t v u : Lexer) (rows : Vec (Vec ℕ Global) Global) (p : Part) (n : ℕ) (e : ParseError) → n ≡ vec_len rows
    → RowsRead channels s (row_bytes rows) t → IsFirstWord t v (Some p) → true ≡ bytes_eq p.bytes.now (codes "row") → Faulted (RowLine p.spot n channels v u) e
    → Faulted (RowLines channels s u) e
rows_fault channels s t v u rows p n (error.Refused f) k h w g l = inr (row_bytes rows, t, v, p, h, w, sym g, row-standing p.spot channels v u rows n (Err f) k l)
rows_fault channels s t v u rows p n error.Memory k h w g l = tt

-- a fault in the rows is one of the sheet
pub sheet_rows : (s t v w u : Lexer) (names : List Span) (kind : MeasureKind) (n channels : ℕ) (e : ParseError) → channels ≡ length names → ChannelsLine s t (Ok names) → MeasureLine t v (Ok kind) → LimitLine v w (Ok n)
    → Faulted (RowLines channels w u) e → Faulted (SheetRead s u) e
sheet_rows s t v w u names kind n channels (error.Refused f) k c m l h =
    let P : ℕ → Type 0 = λ j. RowLines j w u (Err f) in
    inr (t, names, c, inr (v, kind, m, inr (w, n, l, subst P k h)))
sheet_rows s t v w u names kind n channels error.Memory k c m l h = tt

-- no answer, and what is said instead
pub or_err : {A E : Type 0} (o : Option A) (e d : E) → ◌≡◌ {A = Result A E} (Err d) (ok_or o e) → (o ≡ None) × (d ≡ e)
or_err None e d h = (refl, cc)
or_err (Some x) e d h = cc

-- a refusal that was given a place
pub mapped_err : {T E D : Type 0} (Q : E → D → Type 0) (r : Result T E) (m : Result T D) (d : D) → MatchResult r (λ x. m ≡ Ok x) (λ e. IsErrAnd m (Q e)) → m ≡ Err d → (e : E) × (r ≡ Err e) × Q e d
mapped_err Q (Ok x) m d h k = cc
mapped_err Q (Err e) m d h k = (e, refl, subst (λ n. IsErrAnd n (Q e)) k h)
