-- The bytes by which a good name can go on; four of them are a name.
use Rattle.std.specs.Prelude.{◌≡◌, ℕ, ◌-◌, ◌≤◌, Bool, true, leb, List, [], ◌∷◌, ◌++◌, length, take, drop, replicate, ◌==◌, nat_le, refl}
use Rattle.std.proofs.Common.{sym, ap, ap₂, ◌∙◌, arith}
use Rattle.std.specs.List.{prefix_len}
use Rattle.std.proofs.lemmas.List.{take-append-drop, take_rest, length-drop}
use Rattle.std.proofs.lemmas.Bool.{and_parts, eqb-true, leb-true, le-leb}
use Rattle.operators.specs.Names.{Name, letter, space, name_width}
use Rattle.books.specs.Refusal.{all_spaces, begins_name}

all_spaces_are : (cs : List ℕ) → all_spaces cs ≡ true → cs ≡ replicate (length cs) space
all_spaces_are [] e = refl
all_spaces_are (c ∷ cs) e =
    let parts = and_parts (c == space) (all_spaces cs) e in
    ap₂ (λ x xs. x ∷ xs) (eqb-true c space parts.0) (all_spaces_are cs parts.1)

pub name_from : (cs : List ℕ) → length cs ≡ name_width → begins_name cs ≡ true → Name cs
name_from cs h e =
    let parts = and_parts (nat_le 1 (prefix_len letter cs)) (all_spaces (drop (prefix_len letter cs) cs)) e in
    record {
      wide = h;
      some = leb-true 1 (prefix_len letter cs) parts.0;
      spaced = sym (take-append-drop (prefix_len letter cs) cs) ∙ ap (λ xs. take (prefix_len letter cs) cs ++ xs)
          (all_spaces_are (drop (prefix_len letter cs) cs) parts.1 ∙ ap (λ n. replicate n space) (length-drop (prefix_len letter cs) cs ∙ ap (λ n. n - prefix_len letter cs) h));
    }

pub begun : (cs : List ℕ) (n : ℕ) (r : Bool) → n ≡ prefix_len letter cs → 1 ≤ n → r ≡ all_spaces (take (length cs - n) (drop n cs)) → r ≡ begins_name cs
begun cs n r e h f =
    let l : leb 1 (prefix_len letter cs) ≡ true = le-leb 1 (prefix_len letter cs) (omega arith) in
    f ∙ ap all_spaces (take_rest cs n) ∙ ap (λ k. all_spaces (drop k cs)) e ∙ rw l
