-- Bytes written behind others.
use Rattle.std.proofs.Common.{◌≡◌, ℕ, List, [], ◌++◌, length, take, drop, sym, refl, ap, ◌∙◌, arith}
use Rattle.std.proofs.lemmas.List.{append-nil, length-append, append_assoc, drop-drop, take-append-drop}
use Rattle.lent.specs.Puts.{Put, Puts, Behind}
use Rattle.lent.specs.declared.front.Front.{Front}

chain : (s t u : List ℕ) (i r q : ℕ) (x y : List ℕ) → length t ≡ length s → Puts s t i r x → Puts t u r q y → Puts s u i q (x ++ y)
chain s t u i r q x y same p k room =
    let l = length-append x y in
    let a : Put s t i r x = p (omega arith) in
    let b : Put t u r q y = k (omega (arith, a.behind)) in
    let e = b.behind in
    record {
      behind = omega (arith, a.behind);
      front = b.front ∙ ap (λ z. z ++ y) a.front ∙ append_assoc (take i s) x y;
      rest = b.rest ∙ ap (λ n. drop n t) e ∙ sym (drop-drop (length y) r t) ∙ ap (drop (length y)) a.rest ∙ drop-drop (length y) r s ∙ ap (λ n. drop n s) (sym e);
    }

-- nothing written, and one after the other
pub none : (f : Front) → Behind f f []
none f = record { put = λ room. record { behind = omega arith; front = sym (append-nil (take f.at f.out.now)); rest = refl }; long = refl; same = refl }

pub then : (f g h : Front) (x y : List ℕ) → Behind f g x → Behind g h y → Behind f h (x ++ y)
then f g h x y p q = record {
  put = chain f.out.now g.out.now h.out.now f.at g.at h.at x y p.long p.put q.put;
  long = q.long ∙ p.long;
  same = q.same ∙ p.same;
}

-- what is written from the front on, as a whole
pub whole : (s t : List ℕ) (n : ℕ) (x : List ℕ) → Put s t 0 n x → t ≡ x ++ drop n s
whole s t n x p = sym (take-append-drop n t) ∙ ap (λ y. y ++ drop n t) p.front ∙ ap (λ y. x ++ y) p.rest
