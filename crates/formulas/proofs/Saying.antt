-- Lawful steps say one well-formed formula.
use Rattle.std.proofs.Common.{◌≡◌, ℕ, zero, suc, ◌+◌, ◌-◌, ◌<◌, ◌≤◌, List, length, sym, refl, ap, ◌∙◌, ap₂, arith}
use Rattle.operators.specs.Bands.{SetMeaning}
use Rattle.formulas.specs.Formula.{Formula, Formulas, channel, operator, nil, cons, count, WellFormed, AllFormed}
use Rattle.formulas.specs.Says.{step_of, argument_of, top_arity, Known, LawfulStep, LawfulSteps, StepSays, ArgumentsSay, SaysOne}
use Rattle.formulas.specs.declared.steps.Step.{Step}
use Rattle.formulas.specs.declared.steps.Top.{Top}
use Rattle.formulas.specs.declared.steps.Top.TheVariants.{Channel, Operator}

module _ (m : SetMeaning) (channels : ℕ) (steps : List Step) where
  -- the formula of step i
  record Read (i : ℕ) : Type 0 where
    formula : Formula
    formed : WellFormed m channels formula
    says : StepSays m steps i formula

  record Reads (i j a : ℕ) : Type 0 where
    formulas : Formulas
    number : count formulas ≡ a
    formed : AllFormed m channels formulas
    says : ArgumentsSay m steps i j formulas

  arguments_read : (i n : ℕ) → ((j : ℕ) → j < n → argument_of (step_of steps i) j < i) → ((j : ℕ) → j < n → Read (argument_of (step_of steps i) j)) → (a j : ℕ) → j + a ≤ n → Reads i j a
  arguments_read i n earlier read zero j l = record { formulas = nil; number = refl; formed = tt; says = tt }
  arguments_read i n earlier read (suc a) j l =
      let f = read j (omega arith) in
      let r = arguments_read i n earlier read a (suc j) (omega arith) in
      record { formulas = cons f.formula r.formulas; number = ap suc r.number; formed = (f.formed, r.formed); says = (earlier j (omega arith), f.says, r.says) }

  step_read : (i : ℕ) → i < length steps → (t : Top) → (step_of steps i).top ≡ t → Known m channels t → ((j : ℕ) → j < top_arity m t → argument_of (step_of steps i) j < i) → ((j : ℕ) → j < top_arity m t → Read (argument_of (step_of steps i) j)) → Read i
  step_read i l (Channel c) e k earlier read = record { formula = channel c; formed = k; says = (l, e) }
  step_read i l (Operator op) e k earlier read =
      let r = arguments_read i (m.arity op) earlier read (m.arity op) 0 (omega arith) in
      record { formula = operator op r.formulas; formed = (k, r.number, r.formed); says = (l, e, r.number, r.says) }

  read_below : ((i : ℕ) → i < length steps → LawfulStep m channels i (step_of steps i)) → (n i : ℕ) → i < n → i < length steps → Read i
  read_below lawful zero i l k = absurd (omega arith)
  read_below lawful (suc n) i l k =
      let s = lawful i k in
      step_read i k (step_of steps i).top refl s.known s.used_is_earlier
      (λ j q. let e = s.used_is_earlier j q in read_below lawful n (argument_of (step_of steps i) j) (omega arith) (omega arith))

  same-channel : (t : Top) (c d : ℕ) → t ≡ Channel c → t ≡ Channel d → c ≡ d
  same-channel t c d p q = cc

  same-operator : (t : Top) (k l : ℕ) → t ≡ Operator k → t ≡ Operator l → k ≡ l
  same-operator t k l p q = cc

  not_both : (t : Top) (c k : ℕ) → t ≡ Channel c → t ≡ Operator k → ⊥
  not_both t c k p q = let z : ◌≡◌ {A = ℕ} 0 1 = cc in omega arith

  mutual
    one_at : (f g : Formula) (i : ℕ) → StepSays m steps i f → StepSays m steps i g → f ≡ g
    one_at (channel c) (channel d) i a b = ap channel (same-channel (step_of steps i).top c d a.1 b.1)
    one_at (channel c) (operator k gs) i a b = absurd (not_both (step_of steps i).top c k a.1 b.1)
    one_at (operator k fs) (channel d) i a b = absurd (not_both (step_of steps i).top d k b.1 a.1)
    one_at (operator k fs) (operator l gs) i a b =
        let e : k ≡ l = same-operator (step_of steps i).top k l a.1 b.1 in
        ap₂ operator e (one_from fs gs i 0 (a.2 ∙ ap m.arity e ∙ sym b.2) a.3 b.3)

    one_from : (fs gs : Formulas) (i j : ℕ) → count fs ≡ count gs → ArgumentsSay m steps i j fs → ArgumentsSay m steps i j gs → fs ≡ gs
    one_from nil nil i j e a b = refl
    one_from nil (cons g gs) i j e a b = absurd (omega arith)
    one_from (cons f fs) nil i j e a b = absurd (omega arith)
    one_from (cons f fs) (cons g gs) i j e a b = ap₂ cons (one_at f g (argument_of (step_of steps i) j) a.1 b.1) (one_from fs gs i (suc j) (omega arith) a.2 b.2)

pub lawful_steps_say_one : (m : SetMeaning) (channels : ℕ) (steps : List Step) → LawfulSteps m channels steps → SaysOne m channels steps
lawful_steps_say_one m channels steps lawful =
    let least = lawful.least in
    let r = read_below m channels steps lawful.each (length steps) (length steps - 1) (omega arith) (omega arith) in
    record { formula = r.formula; formed = r.formed; says = r.says; only = λ g s. one_at m channels steps g r.formula (length steps - 1) s r.says }
