-- What holds of a finder after every list of calls, and that its answers are true.
use Rattle.std.proofs.Common.{◌≡◌, ℕ, ◌≤◌, Bool, true, false, cond, ◌||◌, ltb, List, [], ◌∷◌, ◌++◌, set, Some, None, Option, sym, refl, ap, ◌∙◌, subst, subst₂, arith}
use Rattle.std.proofs.lemmas.Bool.{ltb-false}
use Rattle.rows.specs.Bounds.{limit_refusal}
use Rattle.rows.specs.Rows.{StandingRow}
use Rattle.formulas.specs.Setting.{Setting}
use Rattle.formulas.specs.Formula.{Formula, Formed, column, Wanted}
use Rattle.formulas.specs.Steps.{most_steps}
use Rattle.records.specs.Bytes.{record_of}
use Rattle.histories.specs.History.{Call, add, correct, strike, limit, advance, write, refused, accepted, done, Event, of_add, of_correct, of_strike, of_limit, of_advance, of_write, History, call_of, nothing, reopens, effect, rows_by, rows_of, limit_by, limit_of, advances, last_level, unsettled, as_found, as_none, as_full, verdict, refusal_due, refusal_in, row_of, but_last}
use Rattle.histories.specs.Answers.{Lightest, WrittenFormula, AnswerTrue, EventTrue, SheetTrue, SheetTrueAfter}
use Rattle.promise.specs.Machine as S
use Rattle.search.specs.Machine.{State, Status}
use Rattle.promise.specs.Machine.{Move, reopened, opened, advance_open, verdict_of, found_record, act, step}
use Rattle.promise.specs.Laws.{Laws}
use Rattle.promise.proofs.Columns.{columns_forming}
use Rattle.promise.proofs.Bank.{sound_none, unfit_none}
use Rattle.promise.proofs.Rules.{Progress, ongoing, finds, finds_none, overfull, Advanced, used, advanced, verdict-at}
use Rattle.promise.proofs.Advance.{Open, Shape, Good, advance_good}
use Rattle.promise.proofs.Places.{Holds, holds_none}
use Rattle.promise.proofs.Written.{used-few, found-lightest, found-written, steps-by}
use Rattle.promise.proofs.Simulated.{Matches, both_open, both_found, both_none, both_full, Follows, follows, advance_follows, found-steps, verdict-same}

-- the state st is what the history h leaves: its places hold a bank of formulas
pub record Kept (E : Setting) (start : ℕ) (h : History) (st : State) : Type 0 where
  pub bank : List Formula
  pub progress : Progress
  pub holds : Holds E st.rows st.places bank
  pub matches : Matches E bank st.status progress
  pub rows : rows_of h ≡ st.rows
  pub limit : limit_of start h ≡ st.limit
  pub verdict : verdict h ≡ verdict-at E bank progress
  pub least : 1 ≤ st.limit
  pub most : st.limit ≤ 1000000
  pub shape : Shape E (Formed E) (column E st.rows) (Wanted st.rows) st.limit bank progress (advances h) (last_level h)

-- ── the sheet ──

pub not_found : (w s : ℕ) → unsettled ≡ as_found w s → ⊥
not_found w s e = let z : ◌≡◌ {A = ℕ} 0 1 = cc in omega arith

pub none_found : (w s : ℕ) → as_none ≡ as_found w s → ⊥
none_found w s e = let z : ◌≡◌ {A = ℕ} 0 1 = cc in omega arith

pub full-found : (w s : ℕ) → as_full ≡ as_found w s → ⊥
full-found w s e = let z : ◌≡◌ {A = ℕ} 0 1 = cc in omega arith

pub found-same : {a b c d : ℕ} → as_found a b ≡ as_found c d → (a ≡ c) × (b ≡ d)
found-same e = (cc, cc)

sheet : (E : Setting) (rows : List StandingRow) (bound : ℕ) (bank : List Formula) (s : Progress) (n v : ℕ) → Shape E (Formed E) (column E rows) (Wanted rows) bound bank s n v → SheetTrue E rows bound (verdict-at E bank s) n
sheet E rows bound bank ongoing n v o = record {
  found_is_lightest = λ w s e. absurd (not_found w s e);
  found_has_at_most_513_steps = λ w s e. absurd (not_found w s e);
  full_means_over_512_lighter_columns = λ t. absurd t;
  otherwise_found_if_within_limit = λ t. absurd t;
  otherwise_none_if_not = λ t. absurd t;
  settled_by_513th_advance = λ many. let a = o.room in let b = o.counted in omega arith;
}
sheet E rows bound bank (finds f) n v x = record {
  found_is_lightest = λ w s e. (f, subst₂ (λ a b. Lightest E rows a b f) (found-same e).0 (found-same e).1 (found-lightest E rows bound bank f x));
  found_has_at_most_513_steps = λ w s e. subst (λ n. n ≤ most_steps) (found-same e).1 (used-few E rows bound bank f x);
  full_means_over_512_lighter_columns = λ t. (λ b. absurd b, λ o. x.not_over o);
  otherwise_found_if_within_limit = λ t a b. tt;
  otherwise_none_if_not = λ t a b. absurd (b (record { by = f; formed = x.formed; fits = x.fits; within = x.within }));
  settled_by_513th_advance = λ many. tt;
}
sheet E rows bound bank finds_none n v (x, y) = record {
  found_is_lightest = λ w s e. absurd (none_found w s e);
  found_has_at_most_513_steps = λ w s e. absurd (none_found w s e);
  full_means_over_512_lighter_columns = λ t. (λ b. absurd b, λ o. x o);
  otherwise_found_if_within_limit = λ t a b. absurd (y b);
  otherwise_none_if_not = λ t a b. tt;
  settled_by_513th_advance = λ many. tt;
}
sheet E rows bound bank overfull n v x = record {
  found_is_lightest = λ w s e. absurd (full-found w s e);
  found_has_at_most_513_steps = λ w s e. absurd (full-found w s e);
  full_means_over_512_lighter_columns = λ t. (λ b. x, λ o. tt);
  otherwise_found_if_within_limit = λ t a b. absurd (a x);
  otherwise_none_if_not = λ t a b. absurd (a x);
  settled_by_513th_advance = λ many. tt;
}

pub kept_sheet : (E : Setting) (start : ℕ) (h : History) (st : State) → Kept E start h st → SheetTrueAfter E start h
kept_sheet E start h st k = rw (k.rows, k.limit, k.verdict) (sheet E st.rows st.limit k.bank k.progress (advances h) (last_level h) k.shape)

kept-verdict : (E : Setting) (start : ℕ) (h : History) (st : State) → Kept E start h st → verdict h ≡ verdict_of st.places st.status
kept-verdict E start h st k = k.verdict ∙ sym (verdict-same E st k.bank k.holds st.limit (advances h) (last_level h) st.status k.progress k.matches k.shape)

-- ── one call ──

act-refusal : (E : Setting) (st : State) (c : Call) (d : Option (ℕ × ℕ)) → refusal_in (act E st c d).event ≡ d
act-refusal E st (add bytes) None = refl
act-refusal E st (add bytes) (Some r) = refl
act-refusal E st (correct i bytes) None = refl
act-refusal E st (correct i bytes) (Some r) = refl
act-refusal E st strike None = refl
act-refusal E st strike (Some r) = refl
act-refusal E st (limit m) None = refl
act-refusal E st (limit m) (Some r) = refl
act-refusal E st advance None = refl
act-refusal E st advance (Some r) = refl
act-refusal E st (write room) None = refl
act-refusal E st (write room) (Some r) = refl

act_call : (E : Setting) (st : State) (c : Call) (d : Option (ℕ × ℕ)) → call_of (act E st c d).event ≡ c
act_call E st (add bytes) None = refl
act_call E st (add bytes) (Some r) = refl
act_call E st (correct i bytes) None = refl
act_call E st (correct i bytes) (Some r) = refl
act_call E st strike None = refl
act_call E st strike (Some r) = refl
act_call E st (limit m) None = refl
act_call E st (limit m) (Some r) = refl
act_call E st advance None = refl
act_call E st advance (Some r) = refl
act_call E st (write room) None = refl
act_call E st (write room) (Some r) = refl

pub step_call : (E : Setting) (st : State) (c : Call) → call_of (step E st c).event ≡ c
unfolding step
step_call E st c = act_call E st c _

-- a limit that is not refused
pub limit-within : (m : ℕ) → limit_refusal m ≡ None → (1 ≤ m) × (m ≤ 1000000)
limit-within m e = go (ltb m 1) (ltb 1000000 m) refl refl e
  where
    go : (a b : Bool) → ltb m 1 ≡ a → ltb 1000000 m ≡ b → ◌≡◌ {A = Option (ℕ × ℕ)} (cond (a || b) (Some (5, 0)) None) None → (1 ≤ m) × (m ≤ 1000000)
    go true b p q r = let z : ◌≡◌ {A = ℕ} 0 1 = cc in absurd (omega arith)
    go false true p q r = let z : ◌≡◌ {A = ℕ} 0 1 = cc in absurd (omega arith)
    go false false p q r = (ltb-false m 1 p, ltb-false 1000000 m q)

-- what one more call leaves, and that its answer is true
record Next (E : Setting) (start : ℕ) (h : History) (m : Move) : Type 0 where
  kept : Kept E start (m.event ∷ h) m.after
  given : AnswerTrue E start h m.event

pub fresh_open : (E : Setting) → Laws E → (rows : List StandingRow) (bound : ℕ) → 1 ≤ bound → Open E (Formed E) (column E rows) (Wanted rows) bound [] 0 0
fresh_open E laws rows bound lo = record {
  sound = sound_none E (Formed E) (column E rows) (columns_forming E laws rows);
  unfit = unfit_none E (Formed E) (column E rows) (columns_forming E laws rows) (Wanted rows);
  below = lo;
  room = omega arith;
  counted = omega arith;
}

module _ (E : Setting) (laws : Laws E) (start : ℕ) (h : History) (st : State) (k : Kept E start h st) where
  -- an event without effect
  same : (e : Event) → rows_by e (rows_of h) ≡ rows_of h → limit_by e (limit_of start h) ≡ limit_of start h → effect e ≡ nothing → Kept E start (e ∷ h) st
  same e re be n = record {
    bank = k.bank;
    progress = k.progress;
    holds = k.holds;
    matches = k.matches;
    rows = re ∙ k.rows;
    limit = be ∙ k.limit;
    verdict = rw n k.verdict;
    least = k.least;
    most = k.most;
    shape = rw n k.shape;
  }

  -- an accepted change
  anew : (e : Event) (rows : List StandingRow) (bound : ℕ) → rows_by e (rows_of h) ≡ rows → limit_by e (limit_of start h) ≡ bound → effect e ≡ reopens → 1 ≤ bound → bound ≤ 1000000 → Kept E start (e ∷ h) (reopened rows bound)
  anew e rows bound re be n lo hi = record {
    bank = [];
    progress = ongoing;
    holds = holds_none E rows;
    matches = both_open;
    rows = re;
    limit = be;
    verdict = rw n refl;
    least = lo;
    most = hi;
    shape = rw n (fresh_open E laws rows bound lo);
  }

  next-add : (bytes : List ℕ) (d : Option (ℕ × ℕ)) → Next E start h (act E st (add bytes) d)
  next-add bytes (Some r) = record { kept = same (of_add bytes (refused r.0 r.1)) refl refl refl; given = tt }
  next-add bytes None = record {
    kept = anew (of_add bytes (accepted done)) (st.rows ++ (row_of bytes ∷ [])) st.limit (ap (λ l. l ++ (row_of bytes ∷ [])) k.rows) k.limit refl k.least k.most;
    given = tt;
  }

  next-correct : (i : ℕ) (bytes : List ℕ) (d : Option (ℕ × ℕ)) → Next E start h (act E st (correct i bytes) d)
  next-correct i bytes (Some r) = record { kept = same (of_correct i bytes (refused r.0 r.1)) refl refl refl; given = tt }
  next-correct i bytes None = record {
    kept = anew (of_correct i bytes (accepted done)) (set st.rows i (row_of bytes)) st.limit (ap (λ l. set l i (row_of bytes)) k.rows) k.limit refl k.least k.most;
    given = tt;
  }

  next-strike : (d : Option (ℕ × ℕ)) → Next E start h (act E st strike d)
  next-strike (Some r) = record { kept = same (of_strike (refused r.0 r.1)) refl refl refl; given = tt }
  next-strike None = record { kept = anew (of_strike (accepted done)) (but_last st.rows) st.limit (ap but_last k.rows) k.limit refl k.least k.most; given = tt }

  next-limit : (m : ℕ) (d : Option (ℕ × ℕ)) → limit_refusal m ≡ d → Next E start h (act E st (limit m) d)
  next-limit m (Some r) e = record { kept = same (of_limit m (refused r.0 r.1)) refl refl refl; given = tt }
  next-limit m None e = let b = limit-within m e in record { kept = anew (of_limit m (accepted done)) st.rows m k.rows refl refl b.0 b.1; given = tt }

  gone : (a : S.Advanced) (b : Advanced) → Follows E st.rows st.limit a b → Good E (Formed E) (column E st.rows) (Wanted st.rows) st.limit (advances h) (last_level h) b →
      Next E start h (record { event = of_advance (accepted a.outcome); after = a.after })
  gone a b (follows o places bank s p holds matches) g = record {
    kept = record {
      bank = bank;
      progress = p;
      holds = holds;
      matches = matches;
      rows = k.rows;
      limit = k.limit;
      verdict = g.verdict;
      least = k.least;
      most = k.most;
      shape = g.shape;
    };
    given = rw (k.rows, k.limit) g.holds;
  }

  unmoved : (n p : ℕ) → Next E start h (act E st advance (Some (n, p)))
  unmoved n p = record { kept = same (of_advance (refused n p)) refl refl refl; given = tt }

  next-advance : (s : Status) (p : Progress) → Matches E k.bank s p → Shape E (Formed E) (column E st.rows) (Wanted st.rows) st.limit k.bank p (advances h) (last_level h) →
      Next E start h (act E st advance (refusal_due E.channels st.rows (verdict_of st.places s) advance))
  next-advance s p both_open o =
      gone (advance_open E st) (advanced E st.rows st.limit k.bank) (advance_follows E st k.bank k.holds (advances h) (last_level h) o)
      (advance_good E laws st.rows st.limit k.bank k.most (advances h) (last_level h) o)
  next-advance s p (both_found t w n f e we i) x = unmoved 7 0
  next-advance s p both_none x = unmoved 7 0
  next-advance s p both_full x = unmoved 7 0

  bytes_true : (s : Status) (p : Progress) → Matches E k.bank s p → Shape E (Formed E) (column E st.rows) (Wanted st.rows) st.limit k.bank p (advances h) (last_level h) →
      (w n : ℕ) → verdict-at E k.bank p ≡ as_found w n → WrittenFormula E st.rows w n (found_record st.places s)
  bytes_true s p both_open x w n e = absurd (not_found w n e)
  bytes_true s p (both_found t v m f fe we i) x w n e =
      subst (λ l. WrittenFormula E st.rows w n (record_of l)) (sym (found-steps E st k.bank k.holds st.limit t f fe i x))
      (subst₂ (λ a b. WrittenFormula E st.rows a b (record_of (steps-by (used k.bank f)))) (found-same e).0 (found-same e).1
      (found-written E laws.set laws.few st.rows st.limit k.bank f x))
  bytes_true s p both_none x w n e = absurd (none_found w n e)
  bytes_true s p both_full x w n e = absurd (full-found w n e)

  next-write : (room : ℕ) (d : Option (ℕ × ℕ)) → Next E start h (act E st (write room) d)
  next-write room (Some r) = record { kept = same (of_write room (refused r.0 r.1)) refl refl refl; given = tt }
  next-write room None = record {
    kept = same (of_write room (accepted (found_record st.places st.status))) refl refl refl;
    given = λ w s e. rw k.rows (bytes_true st.status k.progress k.matches k.shape w s (sym k.verdict ∙ e));
  }

  next : (c : Call) → Next E start h (step E st c)
  unfolding step
  next (add bytes) = next-add bytes _
  next (correct i bytes) = next-correct i bytes _
  next strike = next-strike _
  next (limit m) = next-limit m _ refl
  next advance = next-advance st.status k.progress k.matches k.shape
  next (write room) = next-write room _

  pub kept_step : (c : Call) → Kept E start ((step E st c).event ∷ h) (step E st c).after
  kept_step c = (next c).kept

  step_due : (c : Call) → refusal_in (step E st c).event ≡ refusal_due E.channels (rows_of h) (verdict h) (call_of (step E st c).event)
  unfolding step
  step_due c = rw (k.rows, kept-verdict E start h st k, step_call E st c) (act-refusal E st c _)

  pub event_true : (c : Call) → EventTrue E start h (step E st c).event
  event_true c = record { refused_exactly_when_due = step_due c; given = (next c).given }

-- ── every list of calls ──

pub kept-opened : (E : Setting) → Laws E → (start : ℕ) → limit_refusal start ≡ None → Kept E start [] (opened start)
kept-opened E laws start e =
    let b = limit-within start e in
    record {
      bank = [];
      progress = ongoing;
      holds = holds_none E [];
      matches = both_open;
      rows = refl;
      limit = refl;
      verdict = refl;
      least = b.0;
      most = b.1;
      shape = fresh_open E laws [] start b.0;
    }
