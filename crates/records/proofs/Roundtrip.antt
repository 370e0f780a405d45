-- What a record of steps holds, and that reading undoes writing and writing undoes reading.
use Rattle.std.proofs.Common.{◌≡◌, ℕ, zero, suc, ◌+◌, ◌-◌, ◌*◌, ◌/◌, ◌%◌, ◌<◌, ◌≤◌, min, ltb, List, [], ◌∷◌, ◌++◌, map, length, get_or, sym, refl, ap, ◌∙◌, subst, ap₂, inl, inr, arith}
use Rattle.std.specs.List.{range_with_len, flat_map}
use Rattle.std.proofs.lemmas.List.{length-append, length-map, get_or_append_left, get_or-append-add, get_or-map, ext_get_or}
use Rattle.std.proofs.lemmas.List.FromFn.{length-map-range_with_len, get_or-map-range_with_len, fill_by_all}
use Rattle.std.proofs.lemmas.Bool.{lt-ltb, le-ltb, cond-true, cond-false, cases_lt}
use Rattle.operators.specs.Bands.{most_operators, most_arguments, SetMeaning}
use Rattle.measures.specs.Measures.{most_channels}
use Rattle.formulas.specs.Says.{no_step, step_of, argument_of, Known, LawfulStep, LawfulSteps}
use Rattle.formulas.specs.declared.steps.Step.{Step}
use Rattle.formulas.specs.declared.steps.Top.{Top}
use Rattle.formulas.specs.declared.steps.Top.TheVariants.{Channel, Operator}
use Rattle.records.specs.Size.{field_width, record_size}
use Rattle.records.specs.Bytes.{number_at, steps_in, code_at, argument_at, top_of, step_at, steps_of, two_bytes, code_of, step_code, field_of, record_of}
use Rattle.records.specs.Record.{Lawful}
use Rattle.records.specs.Writing.{ReadsBack}

-- ── the bytes of a number, a field, all fields ──

halves : (n : ℕ) → n / 256 * 256 + n % 256 ≡ n
halves n = omega arith

field_high : (s : Step) (j : ℕ) → j < most_arguments → get_or (field_of s) (2 * j) 0 ≡ argument_of s j / 256
field_high s zero h = refl
field_high s (suc zero) h = refl
field_high s (suc (suc j)) h = absurd (omega arith)

field_low : (s : Step) (j : ℕ) → j < most_arguments → get_or (field_of s) (suc (2 * j)) 0 ≡ argument_of s j % 256
field_low s zero h = refl
field_low s (suc zero) h = refl
field_low s (suc (suc j)) h = absurd (omega arith)

fields_length : (t : List Step) → length (flat_map field_of t) ≡ field_width * length t
fields_length [] = refl
fields_length (x ∷ t) = let r = fields_length t in omega arith

-- the p-th byte of the i-th field
fields_at : (t : List Step) (i p : ℕ) → i < length t → p < field_width → get_or (flat_map field_of t) (field_width * i + p) 0 ≡ get_or (field_of (step_of t i)) p 0
fields_at [] i p l m = absurd (omega arith)
fields_at (x ∷ t) zero p l m =
    let e : field_width * 0 + p ≡ p = omega arith in
    ap (λ q. get_or (field_of x ++ flat_map field_of t) q 0) e ∙ get_or_append_left (field_of x) (flat_map field_of t) 0 p m
fields_at (x ∷ t) (suc i) p l m =
    let e : field_width * suc i + p ≡ length (field_of x) + (field_width * i + p) = omega arith in
    ap (λ q. get_or (field_of x ++ flat_map field_of t) q 0) e ∙ get_or-append-add (field_of x) (flat_map field_of t) (field_width * i + p) 0 ∙ fields_at t i p (omega arith) m

-- ── the bytes of a record ──

module _ (L : List Step) where
  record_steps : steps_in (record_of L) ≡ length L
  record_steps = halves (length L)

  pub record_length : length (record_of L) ≡ record_size (length L)
  record_length =
      let a = length-append (map step_code L) (flat_map field_of L) in
      let b = length-map L step_code in
      let c = fields_length L in
      omega arith

  record_code : (i : ℕ) → i < length L → code_at (record_of L) i ≡ step_code (step_of L i)
  record_code i l =
      let b = length-map L step_code in
      get_or-append-add (two_bytes (length L)) (map step_code L ++ flat_map field_of L) i 0
      ∙ get_or_append_left (map step_code L) (flat_map field_of L) 0 i (omega arith) ∙ get_or-map step_code L i no_step 0 l

  record_byte : (q : ℕ) → get_or (record_of L) (2 + (length L + q)) 0 ≡ get_or (flat_map field_of L) q 0
  record_byte q =
      get_or-append-add (two_bytes (length L)) (map step_code L ++ flat_map field_of L) (length L + q) 0
      ∙ ap (λ n. get_or (map step_code L ++ flat_map field_of L) (n + q) 0) (sym (length-map L step_code)) ∙ get_or-append-add (map step_code L) (flat_map field_of L) q 0

  record_high : (i j : ℕ) → i < length L → j < most_arguments → get_or (record_of L) (2 + (length L + (field_width * i + 2 * j))) 0 ≡ argument_of (step_of L i) j / 256
  record_high i j l m = record_byte (field_width * i + 2 * j) ∙ fields_at L i (2 * j) l (omega arith) ∙ field_high (step_of L i) j m

  record_low : (i j : ℕ) → i < length L → j < most_arguments → get_or (record_of L) (suc (2 + (length L + (field_width * i + 2 * j)))) 0 ≡ argument_of (step_of L i) j % 256
  record_low i j l m =
      let next : suc (2 + (length L + (field_width * i + 2 * j))) ≡ 2 + (length L + (field_width * i + suc (2 * j))) = omega arith in
      ap (λ q. get_or (record_of L) q 0) next ∙ record_byte (field_width * i + suc (2 * j)) ∙ fields_at L i (suc (2 * j)) l (omega arith) ∙ field_low (step_of L i) j m

  record_argument : (i j : ℕ) → i < length L → j < most_arguments → argument_at (record_of L) i j ≡ argument_of (step_of L i) j
  record_argument i j l m =
      ap (λ n. number_at (record_of L) (2 + (n + (field_width * i + 2 * j)))) record_steps
      ∙ ap₂ (λ a b. a * 256 + b) (record_high i j l m) (record_low i j l m) ∙ halves (argument_of (step_of L i) j)

-- ── reading undoes writing ──

module _ (m : SetMeaning) (few_operators : m.count ≤ most_operators) (channels : ℕ) (few_channels : channels ≤ most_channels) where
  top_back : (t : Top) → Known m channels t → top_of (code_of t) ≡ t
  top_back (Operator k) h =
      cond-true (ltb k most_operators) (Operator k) (Channel (k - most_operators)) (lt-ltb k most_operators (omega arith))
  top_back (Channel c) h =
      let e : min (most_operators + c) 255 ≡ most_operators + c = omega arith in
      let b : most_operators + c - most_operators ≡ c = omega arith in
      ap top_of e
      ∙ cond-false (ltb (most_operators + c) most_operators) (Operator (most_operators + c)) (Channel (most_operators + c - most_operators)) (le-ltb (most_operators + c) most_operators (omega arith))
      ∙ ap Channel b

  module _ (L : List Step) (lawful : LawfulSteps m channels L) where
    step_back : (i : ℕ) → i < length L → step_at (record_of L) i ≡ step_of L i
    step_back i l =
        let s : Step = step_of L i in
        let top : top_of (code_at (record_of L) i) ≡ s.top = ap top_of (record_code L i l) ∙ top_back s.top (lawful.each i l).known in
        let args : s.args ≡ map (argument_at (record_of L) i) (range_with_len 0 most_arguments) = fill_by_all (argument_at (record_of L) i) s.args most_arguments 0 (lawful.wide i l) (λ k h. sym (record_argument L i k l h)) in
        ap₂ (λ (t : Top) (us : List ℕ). (let r : Step = record { top = t; args = us } in r)) top (sym args)

    back : steps_of (record_of L) ≡ L
    back =
        ap (λ n. map (step_at (record_of L)) (range_with_len 0 n)) (record_steps L)
        ∙ sym (fill_by_all (step_at (record_of L)) L (length L) no_step refl (λ k h. sym (step_back k h)))

    record_lawful : Lawful m channels (record_of L)
    record_lawful =
        let n = record_steps L in
        let least = lawful.least in
        let most = lawful.most in
        record {
          least = omega arith;
          most = omega arith;
          long = record_length L ∙ ap record_size (sym n);
          steps = λ i h. let l : i < length L = omega arith in subst (λ s. LawfulStep m channels i s) (sym (step_back i l)) (lawful.each i l);
        }

-- over at most 64 operators and 8 channels
pub reads_back_few : (L : List Step) (m : SetMeaning) (channels : ℕ) → m.count ≤ most_operators → channels ≤ most_channels → LawfulSteps m channels L
    → Lawful m channels (record_of L) × (steps_of (record_of L) ≡ L)
reads_back_few L m channels few_operators few_channels lawful =
    (record_lawful m few_operators channels few_channels L lawful, back m few_operators channels few_channels L lawful)

pub reads_back : (L : List Step) → ReadsBack L
reads_back L m channels laws few lawful = reads_back_few L m channels laws.few few lawful

-- ── writing undoes reading ──

code_back : (code : ℕ) → code < 256 → code_of (top_of code) ≡ code
code_back code h = elim (cases_lt code most_operators) [
  | inl l ↦ ap code_of (cond-true (ltb code most_operators) (Operator code) (Channel (code - most_operators)) (lt-ltb code most_operators l))
  | inr l ↦ ap code_of (cond-false (ltb code most_operators) (Operator code) (Channel (code - most_operators)) (le-ltb code most_operators l)) ∙ near code h l
]
  where
    near : (code : ℕ) → code < 256 → most_operators ≤ code → min (most_operators + (code - most_operators)) 255 ≡ code
    near code h l = omega arith

module _ (bytes : List ℕ) (small : (i : ℕ) → get_or bytes i 0 < 256) where
  high_back : (p : ℕ) → number_at bytes p / 256 ≡ get_or bytes p 0
  high_back p = let a = small p in let b = small (suc p) in omega arith

  low_back : (p : ℕ) → number_at bytes p % 256 ≡ get_or bytes (suc p) 0
  low_back p = let a = small p in let b = small (suc p) in omega arith

  steps-number : length (steps_of bytes) ≡ steps_in bytes
  steps-number = length-map-range_with_len (step_at bytes) 0 (steps_in bytes)

  step-here : (i : ℕ) → i < steps_in bytes → step_of (steps_of bytes) i ≡ step_at bytes i
  step-here i l = get_or-map-range_with_len (step_at bytes) 0 (steps_in bytes) i i no_step l (omega arith)

  argument-here : (i j : ℕ) → i < steps_in bytes → j < most_arguments → argument_of (step_of (steps_of bytes) i) j ≡ argument_at bytes i j
  argument-here i j l h = ap (λ (s : Step). argument_of s j) (step-here i l) ∙ get_or-map-range_with_len (argument_at bytes i) 0 most_arguments j j 0 h (omega arith)

  first : get_or (record_of (steps_of bytes)) 0 0 ≡ get_or bytes 0 0
  first = ap (λ n. n / 256) steps-number ∙ high_back 0

  second : get_or (record_of (steps_of bytes)) 1 0 ≡ get_or bytes 1 0
  second = ap (λ n. n % 256) steps-number ∙ low_back 0

  code_here : (i : ℕ) → i < steps_in bytes → get_or (record_of (steps_of bytes)) (2 + i) 0 ≡ get_or bytes (2 + i) 0
  code_here i l =
      let n = steps-number in
      record_code (steps_of bytes) i (omega arith) ∙ ap step_code (step-here i l) ∙ code_back (code_at bytes i) (small (2 + i))

  high_here : (i j : ℕ) → i < steps_in bytes → j < most_arguments → get_or (record_of (steps_of bytes)) (2 + (steps_in bytes + (field_width * i + 2 * j))) 0 ≡ get_or bytes (2 + (steps_in bytes + (field_width * i + 2 * j))) 0
  high_here i j l h =
      let n = steps-number in
      ap (λ k. get_or (record_of (steps_of bytes)) (2 + (k + (field_width * i + 2 * j))) 0) (sym n)
      ∙ record_high (steps_of bytes) i j (omega arith) h ∙ ap (λ a. a / 256) (argument-here i j l h) ∙ high_back (2 + (steps_in bytes + (field_width * i + 2 * j)))

  low_here : (i j : ℕ) → i < steps_in bytes → j < most_arguments → get_or (record_of (steps_of bytes)) (suc (2 + (steps_in bytes + (field_width * i + 2 * j)))) 0 ≡ get_or bytes (suc (2 + (steps_in bytes + (field_width * i + 2 * j)))) 0
  low_here i j l h =
      let n = steps-number in
      ap (λ k. get_or (record_of (steps_of bytes)) (suc (2 + (k + (field_width * i + 2 * j)))) 0) (sym n)
      ∙ record_low (steps_of bytes) i j (omega arith) h ∙ ap (λ a. a % 256) (argument-here i j l h) ∙ low_back (2 + (steps_in bytes + (field_width * i + 2 * j)))

  -- a byte of the fields is the high or the low one of an argument
  field_here : (q : ℕ) → q < field_width * steps_in bytes → get_or (record_of (steps_of bytes)) (2 + (steps_in bytes + q)) 0 ≡ get_or bytes (2 + (steps_in bytes + q)) 0
  field_here q l =
      let i : ℕ = q / field_width in
      let j : ℕ = q % field_width / 2 in
      let inside : i < steps_in bytes = omega arith in
      let small : j < most_arguments = omega arith in
      elim (cases_lt (q % 2) 1) [
        | inl e ↦ (let p : 2 + (steps_in bytes + (field_width * i + 2 * j)) ≡ 2 + (steps_in bytes + q) = omega arith in subst (λ k. get_or (record_of (steps_of bytes)) k 0 ≡ get_or bytes k 0) p (high_here i j inside small))
        | inr e ↦ (let p : suc (2 + (steps_in bytes + (field_width * i + 2 * j))) ≡ 2 + (steps_in bytes + q) = omega arith in subst (λ k. get_or (record_of (steps_of bytes)) k 0 ≡ get_or bytes k 0) p (low_here i j inside small))
      ]

  byte-here : (p : ℕ) → p < record_size (steps_in bytes) → get_or (record_of (steps_of bytes)) p 0 ≡ get_or bytes p 0
  byte-here zero l = first
  byte-here (suc zero) l = second
  byte-here (suc (suc p)) l = elim (cases_lt p (steps_in bytes)) [
    | inl h ↦ (let e : 2 + p ≡ suc (suc p) = omega arith in subst (λ k. get_or (record_of (steps_of bytes)) k 0 ≡ get_or bytes k 0) e (code_here p h))
    | inr h ↦ (let e : 2 + (steps_in bytes + (p - steps_in bytes)) ≡ suc (suc p) = omega arith in subst (λ k. get_or (record_of (steps_of bytes)) k 0 ≡ get_or bytes k 0) e (field_here (p - steps_in bytes) (omega arith)))
  ]

  pub writes_back : length bytes ≡ record_size (steps_in bytes) → record_of (steps_of bytes) ≡ bytes
  writes_back long =
      let n = steps-number in
      let size : length (record_of (steps_of bytes)) ≡ length bytes = record_length (steps_of bytes) ∙ ap record_size n ∙ sym long in
      ext_get_or 0 (record_of (steps_of bytes)) bytes size (λ p l. byte-here p (omega arith))
