-- A fault that the reading of a line comes to is another than that the text is too long.
use Rattle.std.proofs.Common.{◌≡◌, ℕ, ◌≤◌, Bool, true, false, cond, ◌||◌, List, length, IfOk, Some, None, Ok, Err, Option, Result, nat_lt, vec_len, refl, ap, ◌∙◌, subst, inl, inr}
use Rattle.std.specs.Str.{bytes_eq}
use Rattle.sheet_text.specs.Forms.{number_of, measure_of}
use Rattle.sheet_text.specs.Lines.{Due, after, TwoWords, MeasureLine, LimitLine, limit_answer, Names, ChannelsLine, Bytes, RowLine, RowLines, or_fault}
use Rattle.sheet_text.specs.Refusals.{text_fault, sheet_fault, row_fault, ordinary, Heard}
use Rattle.sheet_text.specs.Sheets.{SheetRead, Sound, Parsed}
use Rattle.sheet_text.specs.Texts.{Fresh}
use Rattle.sheet_text.specs.declared.refusal.ParseError.{ParseError}
use Rattle.sheet_text.specs.declared.refusal.ParseError.TheVariants as error
use Rattle.sheet_text.specs.declared.sheet.SheetText.{SheetText}
use Rattle.sheet_text.proofs.Readings.{sound_from}
use Rattle.sheet_text.specs.declared.lexer.Lexer.{Lexer}
use Rattle.sheet_text.specs.declared.lexer.Spot.{Spot}
use Rattle.sheet_text.specs.declared.refusal.Fault.{Fault}
use Rattle.sheet_text.specs.declared.refusal.TextRefusal.TheVariants as text
use Rattle.refusals.specs.declared.sheet.SheetRefusal.TheVariants as sheet

abbrev Ordinary : Fault → Type 0
Ordinary f = ordinary f.cause ≡ true

is : (f g : Fault) → f ≡ g → Ordinary g → Ordinary f
is f g e h = ap (λ d. ordinary d.cause) e ∙ h

same_fault : {A : Type 0} (f g : Fault) → ◌≡◌ {A = Result A Fault} (Err f) (Err g) → f ≡ g
same_fault f g e = cc

one_of : {A : Type 0} (b : Bool) (x : A) (f g : Fault) → ◌≡◌ {A = Result A Fault} (Err f) (cond b (Ok x) (Err g)) → f ≡ g
one_of true x f g e = cc
one_of false x f g e = cc

other_of : {A : Type 0} (b : Bool) (x : A) (f g : Fault) → ◌≡◌ {A = Result A Fault} (Err f) (cond b (Err g) (Ok x)) → f ≡ g
other_of true x f g e = cc
other_of false x f g e = cc

none_of : {A : Type 0} (o : Option A) (f g : Fault) → ◌≡◌ {A = Result A Fault} (Err f) (or_fault o g) → f ≡ g
none_of None f g e = cc
none_of (Some x) f g e = cc

of_due : (word : List ℕ) (s u : Lexer) (f : Fault) → Due word s u (Err f) → Ordinary f
of_due word s u f (None, w, e) = is f _ (same_fault f _ e) refl
of_due word s u f (Some p, w, e) = is f (text_fault text.FirstWord p.spot) (one_of (bytes_eq p.bytes.now word) p.spot f _ e) refl

of_two : (word : List ℕ) (s u : Lexer) (f : Fault) → TwoWords word s u (Err f) → Ordinary f
of_two word s u f (inl d) = of_due word s u f d
of_two word s u f (inr (t, head, d, h)) = is f (text_fault text.Word head) h.0 refl

of_measure : (s u : Lexer) (f : Fault) → MeasureLine s u (Err f) → Ordinary f
of_measure s u f (Err g, w, e) = is f g (same_fault f g e) (of_two _ s u g w)
of_measure s u f (Ok p, w, e) = is f (text_fault text.Word p.spot) (none_of (measure_of p.bytes.now) f _ e) refl

limit_past : (spot : Spot) (o : Option ℕ) (f : Fault) → ◌≡◌ {A = Result ℕ Fault} (Err f) (after (or_fault o (text_fault text.Word spot)) (limit_answer spot)) → Ordinary f
limit_past spot None f e = is f (text_fault text.Word spot) (same_fault f _ e) refl
limit_past spot (Some n) f e = is f (sheet_fault sheet.Limit spot) (other_of (nat_lt n 1 || nat_lt 1000000 n) n f _ e) refl

of_limit : (s u : Lexer) (f : Fault) → LimitLine s u (Err f) → Ordinary f
of_limit s u f (Err g, w, e) = is f g (same_fault f g e) (of_two _ s u g w)
of_limit s u f (Ok p, w, e) = limit_past p.spot (number_of 7 p.bytes.now) f e

of_names : (s u : Lexer) (f : Fault) → Names s u (Err f) → Ordinary f
of_names s u f (ns, t, p, h, l, k, e) = is f (text_fault text.Word p.spot) e refl

of_channels : (s u : Lexer) (f : Fault) → ChannelsLine s u (Err f) → Ordinary f
of_channels s u f (inl d) = of_due _ s u f d
of_channels s u f (inr (t, head, d, inl n)) = of_names t u f n
of_channels s u f (inr (t, head, d, inr (ns, n, few, e))) = is f (sheet_fault sheet.Channels head) e refl

of_bytes : (s u : Lexer) (f : Fault) → Bytes s u (Err f) → Ordinary f
of_bytes s u f (bs, t, p, h, l, k, e) = is f (text_fault text.Word p.spot) e refl

of_row : (head : Spot) (standing channels : ℕ) (s u : Lexer) (f : Fault) → RowLine head standing channels s u (Err f) → Ordinary f
of_row head standing channels s u f (inl b) = of_bytes s u f b
of_row head standing channels s u f (inr (bs, b, inl (full, e))) = is f (sheet_fault sheet.Rows head) e refl
of_row head standing channels s u f (inr (bs, b, inr (few, (r, j, e)))) = is f (row_fault r head) e refl

of_rows : (channels : ℕ) (s u : Lexer) (f : Fault) → RowLines channels s u (Err f) → Ordinary f
of_rows channels s u f (inl (rs, t, p, h, w, k, e)) = is f (text_fault text.FirstWord p.spot) e refl
of_rows channels s u f (inr (rs, t, v, p, h, w, k, l)) = of_row p.spot (length rs) channels v u f l

pub sheet_ordinary : (s u : Lexer) (f : Fault) → SheetRead s u (Err f) → Ordinary f
sheet_ordinary s u f (inl h) = of_channels s u f h
sheet_ordinary s u f (inr (t, ns, ch, inl h)) = of_measure t u f h
sheet_ordinary s u f (inr (t, ns, ch, inr (v, kind, mh, inl h))) = of_limit v u f h
sheet_ordinary s u f (inr (t, ns, ch, inr (v, kind, mh, inr (w, n, lh, rh)))) = of_rows (length ns) w u f rh

-- a text that is not too long is read from its beginning
pub parsed_from : (text : List ℕ) (s u : Lexer) (r : Result SheetText ParseError) → length text ≤ 4096 → Fresh text s → Heard (λ sheet. sheet) (SheetRead s u) r
    → IfOk r (λ sheet. vec_len sheet.names ≡ sheet.channels.value) → Parsed text r
parsed_from text s u (Ok sheet) b f h n = let P : List ℕ → Type 0 = λ bytes. Sound bytes sheet in (b, subst P f.0 (sound_from s u sheet n h), (s, u, f, h))
parsed_from text s u (Err (error.Refused g)) b f h n = inr (b, sheet_ordinary s u g h, (s, u, f, h))
parsed_from text s u (Err error.Memory) b f h n = b
