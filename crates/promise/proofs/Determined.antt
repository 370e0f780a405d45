-- Two histories of the same calls, the answers of both true, agree.
use Rattle.std.proofs.Common.{◌≡◌, ℕ, suc, ◌≤◌, cond, List, [], ◌∷◌, ◌++◌, length, set, Some, None, Option, sym, refl, ap, ◌∙◌, subst, ap₂, inl, inr, arith}
use mathlib.Core.List.{head-eq_of_cons-eq, tail-eq_of_cons-eq, nil≢cons, cons≢nil}
use Rattle.std.proofs.lemmas.Bool.{le-ltb}
use Rattle.rows.specs.Rows.{StandingRow}
use Rattle.formulas.specs.Setting.{Setting}
use Rattle.formulas.specs.Formula.{Formula, Formed, weight, column, Wanted}
use Rattle.formulas.specs.Steps.{most_steps}
use Rattle.records.specs.Size.{record_size}
use Rattle.histories.specs.History.{Call, add, correct, strike, limit, advance, write, refused, accepted, Outcome, level, found, none, full, Event, of_add, of_correct, of_strike, of_limit, of_advance, of_write, History, call_of, calls_of, Effect, nothing, reopens, goes, effect, rows_by, rows_of, limit_by, limit_of, advances, level_by, last_level, Verdict, unsettled, as_found, as_none, as_full, settled_as, verdict_by, verdict, advance_refusal, write_refusal, refusal_due, refusal_in, row_of, but_last}
use Rattle.histories.specs.Levels.{New, NextLevel, KeysNumber, LevelTrue, FullTrue, OutcomeTrue}
use Rattle.histories.specs.Answers.{AnswerTrue, EventTrue, SheetTrue, SheetTrueAfter, AnswersAreTrue}
use Rattle.histories.specs.Determined.{but_steps, Alike, SameAnswer, AnswersAgree, AnswersAreDetermined}
use Rattle.search.specs.Lists.{In, bands_discrete}
use Rattle.promise.proofs.Lists.{no_more}

-- ── the outcome of an advance ──

module _ (E : Setting) (rows : List StandingRow) (bound v : ℕ) where
  next-same : (w w' : ℕ) → NextLevel E (Formed E) (column E rows) v w → NextLevel E (Formed E) (column E rows) v w' → w ≡ w'
  next-same w w' a b =
      let p = a.least b.by b.new in
      let q = b.least a.by a.new in
      let r = a.weighs in
      let t = b.weighs in
      omega arith

  number-most : (w w' c c' : ℕ) → w ≡ w' → KeysNumber E (Formed E) (column E rows) w c → KeysNumber E (Formed E) (column E rows) w' c' → c ≤ c'
  number-most w w' c c' e a b =
      let n : length a.keys ≤ length b.keys = no_more bands_discrete a.keys b.keys a.apart
      (λ col h. let r = a.light col h in let l = r.light in subst (λ u. In u b.keys) r.is (b.all r.by r.formed (omega arith))) in
      let p = a.number in
      let q = b.number in
      omega arith

  level-found : (w c w' s n : ℕ) → LevelTrue E (Formed E) (column E rows) (Wanted rows) bound v w c → NextLevel E (Formed E) (column E rows) v w' → SheetTrue E rows bound (as_found w' s) n → ⊥
  level-found w c w' s n a b t =
      let e = next-same w w' a.next b in
      let f = t.found_is_lightest w' s refl in
      let l = a.under.lighter f.0 f.1.formed f.1.fits in
      let k = f.1.weighs in
      omega arith

  level-none : (w c : ℕ) → LevelTrue E (Formed E) (column E rows) (Wanted rows) bound v w c → ((g : Formula) → New E (Formed E) (column E rows) v g → bound ≤ weight E g) → ⊥
  level-none w c a b =
      let p = b a.next.by a.next.new in
      let q = a.next.weighs in
      let r = a.under.limited in
      omega arith

  level-full : (w c : ℕ) → LevelTrue E (Formed E) (column E rows) (Wanted rows) bound v w c → FullTrue E (Formed E) (column E rows) (Wanted rows) bound v → ⊥
  level-full w c a b =
      let e = next-same w b.weight a.next b.next in
      let p = number-most b.weight w b.number c (sym e) b.keys a.keys in
      let q = a.room in
      let r = b.many in
      omega arith

  found_none : (w s n m : ℕ) → SheetTrue E rows bound (as_found w s) n → SheetTrue E rows bound as_none m → ⊥
  found_none w s n m a b =
      a.otherwise_none_if_not tt (λ o. (a.full_means_over_512_lighter_columns tt).1 o)
      (λ i. b.otherwise_found_if_within_limit tt (λ o. (b.full_means_over_512_lighter_columns tt).1 o) i)

  found-full : (w s n m : ℕ) → SheetTrue E rows bound (as_found w s) n → SheetTrue E rows bound as_full m → ⊥
  found-full w s n m a b = (a.full_means_over_512_lighter_columns tt).1 ((b.full_means_over_512_lighter_columns tt).0 tt)

  none-full : (n m : ℕ) → SheetTrue E rows bound as_none n → SheetTrue E rows bound as_full m → ⊥
  none-full n m a b = (a.full_means_over_512_lighter_columns tt).1 ((b.full_means_over_512_lighter_columns tt).0 tt)

  outcome-same : (o o' : Outcome) (n m : ℕ) → OutcomeTrue E (Formed E) (column E rows) (Wanted rows) bound v o → OutcomeTrue E (Formed E) (column E rows) (Wanted rows) bound v o' →
      SheetTrue E rows bound (settled_as o) n → SheetTrue E rows bound (settled_as o') m → but_steps (goes o) ≡ but_steps (goes o')
  outcome-same (level w c) (level w' c') n m a b x y =
      let e = next-same w w' a.next b.next in
      let p = number-most w w' c c' e a.keys b.keys in
      let q = number-most w' w c' c (sym e) b.keys a.keys in
      let d : c ≡ c' = omega arith in
      ap₂ (λ i j. goes (level i j)) e d
  outcome-same (level w c) (found w' s') n m a b x y = absurd (level-found w c w' s' m a b y)
  outcome-same (level w c) none n m a b x y = absurd (level-none w c a b)
  outcome-same (level w c) full n m a b x y = absurd (level-full w c a b)
  outcome-same (found w s) (level w' c') n m a b x y = absurd (level-found w' c' w s n b a x)
  outcome-same (found w s) (found w' s') n m a b x y = ap (λ i. goes (found i 0)) (next-same w w' a b)
  outcome-same (found w s) none n m a b x y = absurd (found_none w s n m x y)
  outcome-same (found w s) full n m a b x y = absurd (found-full w s n m x y)
  outcome-same none (level w' c') n m a b x y = absurd (level-none w' c' b a)
  outcome-same none (found w' s') n m a b x y = absurd (found_none w' s' m n y x)
  outcome-same none none n m a b x y = refl
  outcome-same none full n m a b x y = absurd (none-full n m x y)
  outcome-same full (level w' c') n m a b x y = absurd (level-full w' c' b a)
  outcome-same full (found w' s') n m a b x y = absurd (found-full w' s' m n y x)
  outcome-same full none n m a b x y = absurd (none-full m n y x)
  outcome-same full full n m a b x y = refl

-- ── what an event does, by its call and refusal ──

rows-after : Call → Option (ℕ × ℕ) → List StandingRow → List StandingRow
rows-after c (Some r) rows = rows
rows-after (add bytes) None rows = rows ++ (row_of bytes ∷ [])
rows-after (correct i bytes) None rows = set rows i (row_of bytes)
rows-after strike None rows = but_last rows
rows-after (limit m) None rows = rows
rows-after advance None rows = rows
rows-after (write room) None rows = rows

rows-by-after : (e : Event) (rows : List StandingRow) → rows_by e rows ≡ rows-after (call_of e) (refusal_in e) rows
unfolding rows-after
rows-by-after (of_add bytes (refused n p)) rows = refl
rows-by-after (of_add bytes (accepted d)) rows = refl
rows-by-after (of_correct i bytes (refused n p)) rows = refl
rows-by-after (of_correct i bytes (accepted d)) rows = refl
rows-by-after (of_strike (refused n p)) rows = refl
rows-by-after (of_strike (accepted d)) rows = refl
rows-by-after (of_limit m (refused n p)) rows = refl
rows-by-after (of_limit m (accepted d)) rows = refl
rows-by-after (of_advance (refused n p)) rows = refl
rows-by-after (of_advance (accepted o)) rows = refl
rows-by-after (of_write room (refused n p)) rows = refl
rows-by-after (of_write room (accepted bytes)) rows = refl

limit-after : Call → Option (ℕ × ℕ) → ℕ → ℕ
limit-after c (Some r) bound = bound
limit-after (add bytes) None bound = bound
limit-after (correct i bytes) None bound = bound
limit-after strike None bound = bound
limit-after (limit m) None bound = m
limit-after advance None bound = bound
limit-after (write room) None bound = bound

limit-by-after : (e : Event) (bound : ℕ) → limit_by e bound ≡ limit-after (call_of e) (refusal_in e) bound
unfolding limit-after
limit-by-after (of_add bytes (refused n p)) bound = refl
limit-by-after (of_add bytes (accepted d)) bound = refl
limit-by-after (of_correct i bytes (refused n p)) bound = refl
limit-by-after (of_correct i bytes (accepted d)) bound = refl
limit-by-after (of_strike (refused n p)) bound = refl
limit-by-after (of_strike (accepted d)) bound = refl
limit-by-after (of_limit m (refused n p)) bound = refl
limit-by-after (of_limit m (accepted d)) bound = refl
limit-by-after (of_advance (refused n p)) bound = refl
limit-by-after (of_advance (accepted o)) bound = refl
limit-by-after (of_write room (refused n p)) bound = refl
limit-by-after (of_write room (accepted bytes)) bound = refl

-- what an accepted call does to the search: it reopens the sheet, goes on, or leaves it
data Kind : Type 0 where
  changing : Kind
  advancing : Kind
  writing : Kind

kind_of : Call → Kind
kind_of (add bytes) = changing
kind_of (correct i bytes) = changing
kind_of strike = changing
kind_of (limit m) = changing
kind_of advance = advancing
kind_of (write room) = writing

-- x: what an accepted advance does
effect-after : Kind → Option (ℕ × ℕ) → Effect → Effect
effect-after k (Some r) x = nothing
effect-after changing None x = reopens
effect-after advancing None x = x
effect-after writing None x = nothing

effect-is-after : (e : Event) → effect e ≡ effect-after (kind_of (call_of e)) (refusal_in e) (effect e)
unfolding kind_of effect-after
effect-is-after (of_add bytes (refused n p)) = refl
effect-is-after (of_add bytes (accepted d)) = refl
effect-is-after (of_correct i bytes (refused n p)) = refl
effect-is-after (of_correct i bytes (accepted d)) = refl
effect-is-after (of_strike (refused n p)) = refl
effect-is-after (of_strike (accepted d)) = refl
effect-is-after (of_limit m (refused n p)) = refl
effect-is-after (of_limit m (accepted d)) = refl
effect-is-after (of_advance (refused n p)) = refl
effect-is-after (of_advance (accepted o)) = refl
effect-is-after (of_write room (refused n p)) = refl
effect-is-after (of_write room (accepted bytes)) = refl

rows-after-same : (c : Call) (d d' : Option (ℕ × ℕ)) (u u' : Verdict) (rows : List StandingRow) → (Alike c u u' → d ≡ d') → rows-after c d rows ≡ rows-after c d' rows
unfolding rows-after
rows-after-same (add bytes) d d' u u' rows e = ap (λ x. rows-after (add bytes) x rows) (e tt)
rows-after-same (correct i bytes) d d' u u' rows e = ap (λ x. rows-after (correct i bytes) x rows) (e tt)
rows-after-same strike d d' u u' rows e = ap (λ x. rows-after strike x rows) (e tt)
rows-after-same (limit m) d d' u u' rows e = ap (λ x. rows-after (limit m) x rows) (e tt)
rows-after-same advance d d' u u' rows e = ap (λ x. rows-after advance x rows) (e tt)
rows-after-same (write room) d d' u u' rows e = kept d ∙ sym (kept d')
  where
    kept : (d : Option (ℕ × ℕ)) → rows-after (write room) d rows ≡ rows
    kept None = refl
    kept (Some r) = refl

limit-after-same : (c : Call) (d d' : Option (ℕ × ℕ)) (u u' : Verdict) (bound : ℕ) → (Alike c u u' → d ≡ d') → limit-after c d bound ≡ limit-after c d' bound
unfolding limit-after
limit-after-same (add bytes) d d' u u' bound e = ap (λ x. limit-after (add bytes) x bound) (e tt)
limit-after-same (correct i bytes) d d' u u' bound e = ap (λ x. limit-after (correct i bytes) x bound) (e tt)
limit-after-same strike d d' u u' bound e = ap (λ x. limit-after strike x bound) (e tt)
limit-after-same (limit m) d d' u u' bound e = ap (λ x. limit-after (limit m) x bound) (e tt)
limit-after-same advance d d' u u' bound e = ap (λ x. limit-after advance x bound) (e tt)
limit-after-same (write room) d d' u u' bound e = kept d ∙ sym (kept d')
  where
    kept : (d : Option (ℕ × ℕ)) → limit-after (write room) d bound ≡ bound
    kept None = refl
    kept (Some r) = refl

never : changing ≡ advancing → ⊥
never e = let z : ◌≡◌ {A = ℕ} 0 1 = cc in omega arith

-- the same refusal, or none, does the same
effect_agrees : (k : Kind) (d : Option (ℕ × ℕ)) (x x' : Effect) → (k ≡ advancing → d ≡ None → but_steps x ≡ but_steps x') → but_steps (effect-after k d x) ≡ but_steps (effect-after k d x')
unfolding effect-after
effect_agrees k (Some r) x x' a = refl
effect_agrees changing None x x' a = refl
effect_agrees advancing None x x' a = a refl refl
effect_agrees writing None x x' a = refl

-- a write leaves the search, refused or not
write_leaves : (d : Option (ℕ × ℕ)) (x : Effect) → effect-after writing d x ≡ nothing
unfolding effect-after
write_leaves None x = refl
write_leaves (Some r) x = refl

effect-after-same : (c : Call) (d d' : Option (ℕ × ℕ)) (u u' : Verdict) (x x' : Effect) → (Alike c u u' → d ≡ d') → (c ≡ advance → d ≡ None → d' ≡ None → but_steps x ≡ but_steps x') →
    but_steps (effect-after (kind_of c) d x) ≡ but_steps (effect-after (kind_of c) d' x')
unfolding kind_of
effect-after-same (add bytes) d d' u u' x x' e a = effect_agrees changing d x x' (λ k. absurd (never k)) ∙ ap (λ y. but_steps (effect-after changing y x')) (e tt)
effect-after-same (correct i bytes) d d' u u' x x' e a = effect_agrees changing d x x' (λ k. absurd (never k)) ∙ ap (λ y. but_steps (effect-after changing y x')) (e tt)
effect-after-same strike d d' u u' x x' e a = effect_agrees changing d x x' (λ k. absurd (never k)) ∙ ap (λ y. but_steps (effect-after changing y x')) (e tt)
effect-after-same (limit m) d d' u u' x x' e a = effect_agrees changing d x x' (λ k. absurd (never k)) ∙ ap (λ y. but_steps (effect-after changing y x')) (e tt)
effect-after-same advance d d' u u' x x' e a = effect_agrees advancing d x x' (λ k n. a refl n (sym (e tt) ∙ n)) ∙ ap (λ y. but_steps (effect-after advancing y x')) (e tt)
effect-after-same (write room) d d' u u' x x' e a = ap but_steps (write_leaves d x ∙ sym (write_leaves d' x'))

-- ── one event ──

-- an accepted advance
record Went (E : Setting) (rows : List StandingRow) (bound v : ℕ) (x : Effect) : Type 0 where
  outcome : Outcome
  is : x ≡ goes outcome
  holds : OutcomeTrue E (Formed E) (column E rows) (Wanted rows) bound v outcome
  number : ℕ
  sheet : SheetTrue E rows bound (settled_as outcome) number

went : (E : Setting) (start : ℕ) (h : History) (e : Event) → call_of e ≡ advance → refusal_in e ≡ None → AnswerTrue E start h e → SheetTrueAfter E start (e ∷ h) →
    Went E (rows_of h) (limit_of start h) (last_level h) (effect e)
went E start h (of_add bytes r) c d a s = absurd (let z : ◌≡◌ {A = ℕ} 0 1 = cc in omega arith)
went E start h (of_correct i bytes r) c d a s = absurd (let z : ◌≡◌ {A = ℕ} 0 1 = cc in omega arith)
went E start h (of_strike r) c d a s = absurd (let z : ◌≡◌ {A = ℕ} 0 1 = cc in omega arith)
went E start h (of_limit m r) c d a s = absurd (let z : ◌≡◌ {A = ℕ} 0 1 = cc in omega arith)
went E start h (of_advance (refused n p)) c d a s = absurd (let z : ◌≡◌ {A = ℕ} 0 1 = cc in omega arith)
went E start h (of_advance (accepted o)) c d a s = record { outcome = o; is = refl; holds = a; number = suc (advances h); sheet = s }
went E start h (of_write room r) c d a s = absurd (let z : ◌≡◌ {A = ℕ} 0 1 = cc in omega arith)

went_same : (E : Setting) (rows : List StandingRow) (bound v : ℕ) (x x' : Effect) → Went E rows bound v x → Went E rows bound v x' → but_steps x ≡ but_steps x'
went_same E rows bound v x x' a b =
    ap but_steps a.is ∙ outcome-same E rows bound v a.outcome b.outcome a.number b.number a.holds b.holds a.sheet b.sheet ∙ ap but_steps (sym b.is)

-- a verdict without the number of steps
forget : Verdict → Verdict
forget unsettled = unsettled
forget (as_found w s) = as_found w 0
forget as_none = as_none
forget as_full = as_full

advance_due_forget : (u : Verdict) → advance_refusal u ≡ advance_refusal (forget u)
unfolding forget
advance_due_forget unsettled = refl
advance_due_forget (as_found w s) = refl
advance_due_forget as_none = refl
advance_due_forget as_full = refl

verdict_forget : (x : Effect) (u : Verdict) → forget (verdict_by x u) ≡ verdict_by (but_steps x) (forget u)
unfolding forget
verdict_forget nothing u = refl
verdict_forget reopens u = refl
verdict_forget (goes (level w c)) u = refl
verdict_forget (goes (found w s)) u = refl
verdict_forget (goes none) u = refl
verdict_forget (goes full) u = refl

level_forget : (x : Effect) (v : ℕ) → level_by x v ≡ level_by (but_steps x) v
level_forget nothing v = refl
level_forget reopens v = refl
level_forget (goes (level w c)) v = refl
level_forget (goes (found w s)) v = refl
level_forget (goes none) v = refl
level_forget (goes full) v = refl

-- no Found carries more than 513 steps
Few : Verdict → Type 0
Few u = (w s : ℕ) → u ≡ as_found w s → s ≤ most_steps

write_due_forget : (room : ℕ) → record_size most_steps ≤ room → (u : Verdict) → Few u → write_refusal room u ≡ write_refusal room (forget u)
unfolding forget Few
write_due_forget room l unsettled few = refl
write_due_forget room l (as_found w s) few =
    let q = few w s refl in
    ap (λ b. cond b (Some (9, 0)) None) (le-ltb room (record_size s) (omega arith) ∙ sym (le-ltb room (record_size 0) (omega arith)))
write_due_forget room l as_none few = refl
write_due_forget room l as_full few = refl

due_same : (channels : ℕ) (rows : List StandingRow) (u u' : Verdict) → Few u → Few u' → forget u ≡ forget u' → (c : Call) → Alike c u u' → refusal_due channels rows u c ≡ refusal_due channels rows u' c
due_same channels rows u u' few few' e (add bytes) a = refl
due_same channels rows u u' few few' e (correct i bytes) a = refl
due_same channels rows u u' few few' e strike a = refl
due_same channels rows u u' few few' e (limit m) a = refl
due_same channels rows u u' few few' e advance a = advance_due_forget u ∙ ap advance_refusal e ∙ sym (advance_due_forget u')
due_same channels rows u u' few few' e (write room) (inl a) = ap (λ x. refusal_due channels rows x (write room)) a
due_same channels rows u u' few few' e (write room) (inr l) = write_due_forget room l u few ∙ ap (write_refusal room) e ∙ sym (write_due_forget room l u' few')

-- ── the histories ──

record Together (start : ℕ) (h h' : History) : Type 0 where
  rows : rows_of h ≡ rows_of h'
  bound : limit_of start h ≡ limit_of start h'
  level : last_level h ≡ last_level h'
  verdicts : forget (verdict h) ≡ forget (verdict h')
  few : Few (verdict h)
  few' : Few (verdict h')

module _ (E : Setting) (start : ℕ) (h h' : History) (t : Together start h h') (e e' : Event) (ce : call_of e ≡ call_of e')
    (x : EventTrue E start h e) (x' : EventTrue E start h' e') (s : SheetTrueAfter E start (e ∷ h)) (s' : SheetTrueAfter E start (e' ∷ h')) where
  refusal-same : Alike (call_of e) (verdict h) (verdict h') → refusal_in e ≡ refusal_in e'
  refusal-same a =
      x.refused_exactly_when_due
      ∙ due_same E.channels (rows_of h) (verdict h) (verdict h') t.few t.few' t.verdicts (call_of e) a
      ∙ ap₂ (λ r c. refusal_due E.channels r (verdict h') c) t.rows ce
      ∙ sym x'.refused_exactly_when_due

  effect-same : but_steps (effect e) ≡ but_steps (effect e')
  effect-same =
      ap but_steps (effect-is-after e)
      ∙ effect-after-same (call_of e) (refusal_in e) (refusal_in e') (verdict h) (verdict h') (effect e) (effect e') refusal-same advanced
      ∙ ap (λ c. but_steps (effect-after (kind_of c) (refusal_in e') (effect e'))) ce
      ∙ ap but_steps (sym (effect-is-after e'))
    where
      advanced : call_of e ≡ advance → refusal_in e ≡ None → refusal_in e' ≡ None → but_steps (effect e) ≡ but_steps (effect e')
      advanced c d d' =
          went_same E (rows_of h) (limit_of start h) (last_level h) (effect e) (effect e') (went E start h e c d x.given s)
          (rw (t.rows, t.bound, t.level) (went E start h' e' (sym ce ∙ c) d' x'.given s'))

  same_answer : SameAnswer (verdict h) (verdict h') e e'
  same_answer = record { refusals = refusal-same; effects = effect-same }

  still : Together start (e ∷ h) (e' ∷ h')
  unfolding Few
  still = record {
    rows = rows-by-after e (rows_of h)
        ∙ rows-after-same (call_of e) (refusal_in e) (refusal_in e') (verdict h) (verdict h') (rows_of h) refusal-same
        ∙ ap₂ (λ c r. rows-after c (refusal_in e') r) ce t.rows
        ∙ sym (rows-by-after e' (rows_of h'));
    bound = limit-by-after e (limit_of start h)
        ∙ limit-after-same (call_of e) (refusal_in e) (refusal_in e') (verdict h) (verdict h') (limit_of start h) refusal-same
        ∙ ap₂ (λ c r. limit-after c (refusal_in e') r) ce t.bound
        ∙ sym (limit-by-after e' (limit_of start h'));
    level = level_forget (effect e) (last_level h) ∙ ap₂ level_by effect-same t.level ∙ sym (level_forget (effect e') (last_level h'));
    verdicts = verdict_forget (effect e) (verdict h) ∙ ap₂ verdict_by effect-same t.verdicts ∙ sym (verdict_forget (effect e') (verdict h'));
    few = s.found_has_at_most_513_steps;
    few' = s'.found_has_at_most_513_steps;
  }

together : (E : Setting) (start : ℕ) (h h' : History) → calls_of h ≡ calls_of h' → AnswersAreTrue E start h → AnswersAreTrue E start h' → AnswersAgree h h' × Together start h h'
unfolding Few
together E start [] [] c t t' = (tt, record { rows = refl; bound = refl; level = refl; verdicts = refl; few = t.found_has_at_most_513_steps; few' = t'.found_has_at_most_513_steps })
together E start [] (e' ∷ h') c t t' = absurd (nil≢cons c)
together E start (e ∷ h) [] c t t' = absurd (cons≢nil c)
together E start (e ∷ h) (e' ∷ h') c t t' =
    let r = together E start h h' (tail-eq_of_cons-eq c) t.2 t'.2 in
    let ce : call_of e ≡ call_of e' = head-eq_of_cons-eq c in
    ((same_answer E start h h' r.1 e e' ce t.0 t'.0 t.1 t'.1, r.0), still E start h h' r.1 e e' ce t.0 t'.0 t.1 t'.1)

pub answers_are_determined_lem : AnswersAreDetermined
answers_are_determined_lem E start h h' c t t' = (together E start h h' c t t').0
