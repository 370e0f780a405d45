-- What a book that is not refused is.
use Rattle.std.proofs.Common.{◌≡◌, ℕ, ◌+◌, ◌-◌, ◌*◌, ◌%◌, ◌<◌, ◌≤◌, Bool, true, false, cond, not, ◌&&◌, eqb, ltb, leb, List, [], ◌∷◌, ◌++◌, length, get_or, take, drop, Some, None, Option, sym, refl, subst, ⊎_elim, arith, length-take, get_or-drop, get_or-take}
use Rattle.std.proofs.lemmas.List.{get_or_past, get_or_append_left}
use Rattle.std.proofs.Math.Seq.{get_or-append_seam}
use Rattle.std.proofs.lemmas.Bool.Decides.{nat_tests}
use Rattle.std.proofs.lemmas.Bool.{eqb-true, ltb-false, le-leb, lt-ltb, and_from, cases_lt, cases_eq}
use Rattle.operators.specs.Bands.{mark, most_arguments}
use Rattle.books.specs.Layout.{most_entries, table_width, book_length, byte, count_of, name_of, arity_of, tables_at, table_at}
use Rattle.books.specs.Refusal.{begins_name, bad_name, bad_arity, bad_cell, used, arity_for, first, or_else, book_refusal}
use Rattle.books.specs.Stored.{Reads}
use Rattle.books.specs.declared.entry.Entry.{Entry}
use Rattle.books.proofs.Firsts.{first-none}

pub record Sound (b : List ℕ) : Type 0 where
  pub few : count_of b ≤ most_entries
  pub long : length b ≡ book_length (count_of b)
  pub names : (p : ℕ) → p < length b → bad_name b p ≡ false
  pub arities : (p : ℕ) → p < length b → bad_arity b p ≡ false
  pub cells : (p : ℕ) → p < length b → bad_cell b p ≡ false

never : {X : Type 0} → ◌≡◌ {A = ℕ} 0 1 → X
never z = absurd (omega arith)

parts : (x y z : Bool) (n a c : Option ℕ) →
    cond x (Some (10, 0)) (cond y (Some (11, 0)) (cond z (or_else 14 n (or_else 12 a (or_else 13 c None))) (Some (10, 0)))) ≡ None →
    (y ≡ false) × (z ≡ true) × (n ≡ None) × (a ≡ None) × (c ≡ None)
parts true y z n a c e = never (cc)
parts false true z n a c e = never (cc)
parts false false false n a c e = never (cc)
parts false false true (Some p) a c e = never (cc)
parts false false true None (Some p) c e = never (cc)
parts false false true None None (Some p) e = never (cc)
parts false false true None None None e = (refl, refl, refl, refl, refl)

pub sound : (b : List ℕ) → book_refusal b ≡ None → Sound b
sound b e =
    let s = parts (eqb (length b) 0) (ltb most_entries (count_of b)) (eqb (length b) (book_length (count_of b))) (first (bad_name b) (length b)) (first (bad_arity b) (length b)) (first (bad_cell b) (length b)) e in
    record {
      few = ltb-false most_entries (count_of b) s.0;
      long = eqb-true (length b) (book_length (count_of b)) s.1;
      names = first-none (bad_name b) (length b) s.2;
      arities = first-none (bad_arity b) (length b) s.3;
      cells = first-none (bad_cell b) (length b) s.4;
    }

good : (x y z : Bool) → x ≡ true → y ≡ true → (x && (y && not z)) ≡ false → z ≡ true
good true true true e f g = refl
good true true false e f g = sym g
good true false z e f g = never (cc)
good false y z e f g = never (cc)

pub name_ok : (b : List ℕ) (op : ℕ) → Sound b → op < count_of b → begins_name (name_of b op) ≡ true
name_ok b op s h =
    let l : 4 + 5 * op < length b = omega (arith, s.long) in
    let m : (4 + 5 * op - 1) % 5 ≡ 3 = omega arith in
    let q : 4 + 5 * op - 3 ≡ 1 + 5 * op = omega arith in
    let f = rw (m, q) at (s.names (4 + 5 * op) l) in
    good (leb 1 (4 + 5 * op) && ltb (4 + 5 * op) (tables_at b)) true (begins_name (name_of b op))
    (and_from (leb 1 (4 + 5 * op)) (ltb (4 + 5 * op) (tables_at b)) (le-leb 1 (4 + 5 * op) (omega arith)) (lt-ltb (4 + 5 * op) (tables_at b) (omega arith)))
    refl f

pub arity_ok : (b : List ℕ) (op : ℕ) → Sound b → op < count_of b → arity_of b op ≤ most_arguments
arity_ok b op s h =
    let l : 1 + 5 * op + 4 < length b = omega (arith, s.long) in
    let f = s.arities (1 + 5 * op + 4) l in
    let m : (1 + 5 * op + 4 - 1) % 5 ≡ 4 = omega arith in
    grind (arith, nat_tests)

small : (u : Bool) (x : ℕ) → cond u (ltb mark x) (not (eqb x 0)) ≡ false → x ≤ mark
small true x e = ltb-false mark x e
small false x e = grind (arith, nat_tests)

byte_ok : (b : List ℕ) (p : ℕ) → Sound b → tables_at b ≤ p → p < length b → byte b p ≤ mark
byte_ok b p s h k =
    small (used (arity_for b p) ((p - tables_at b) % table_width)) (byte b p) (rw (le-leb (tables_at b) p h) at (s.cells p k))

pub table_ok : (b : List ℕ) (op : ℕ) → Sound b → op < count_of b → (j : ℕ) → get_or (take table_width (drop (table_at b op) b)) j 0 ≤ mark
table_ok b op s h j =
    ⊎_elim
    (λ (l : j < table_width). rw (get_or-take table_width (drop (table_at b op) b) j 0 l, get_or-drop (table_at b op) b j 0)
    (byte_ok b (table_at b op + j) s (omega arith) (omega (arith, s.long))))
    (λ (l : table_width ≤ j). omega (arith, get_or_past (take table_width (drop (table_at b op) b)) j 0 (simp length-take (omega arith))))
    (cases_lt j table_width)

-- one entry more of a book
pub reads_more : (b : List ℕ) (es : List Entry) (e : Entry) → ((k : ℕ) (d : Entry) → k < length es → Reads b k (get_or es k d)) → Reads b (length es) e → (k : ℕ) (d : Entry) → k < length es + 1 → Reads b k (get_or (es ++ e ∷ []) k d)
reads_more b es e so here k d l =
    ⊎_elim
    (λ (same : k ≡ length es). subst (λ j. Reads b j (get_or (es ++ e ∷ []) j d)) (sym same) (subst (λ x. Reads b (length es) x) (sym (get_or-append_seam es e [] d)) here))
    (λ other. let h : k < length es = omega arith in subst (λ x. Reads b k x) (sym (get_or_append_left es (e ∷ []) d k h)) (so k d h))
    (cases_eq k (length es))
