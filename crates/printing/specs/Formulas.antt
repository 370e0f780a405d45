-- Formulas by their names, their texts, and the steps that stand for them.
use Rattle.std.specs.Prelude.{◌≡◌, ℕ, suc, ◌+◌, ◌-◌, ◌^◌, ◌<◌, ◌≤◌, cond, ◌⊎◌, List, [], ◌∷◌, ◌++◌, length, take, Some, None, Ok, Err, Option, Result, nat_lt, slice_index_or}
use Rattle.refusals.specs.Numbers.{firmware_refusal}
use Rattle.refusals.specs.declared.firmware.FirmwareRefusal.{FirmwareRefusal}
use Rattle.printing.specs.declared.pieces.Piece.{Piece}
use Rattle.lent.specs.Puts.{Put}

-- a name over its arguments; over none, it is a channel or an operator of arity 0
mutual
  pub data Formula : Type 0 where
    over : List ℕ → Formulas → Formula

  pub data Formulas : Type 0 where
    nil : Formulas
    cons : Formula → Formulas → Formulas

abbrev pub count : Formulas → ℕ
count nil = 0
count (cons f fs) = suc (count fs)

-- the text: 40 opens a bracket, 44 is a comma and 41 closes the bracket
abbrev mutual
  pub printed : Formula → List ℕ
  printed (over name fs) = name ++ bracketed fs

  pub bracketed : Formulas → List ℕ
  bracketed nil = []
  bracketed (cons f fs) = 40 ∷ (printed f ++ others fs)

  pub others : Formulas → List ℕ
  others nil = 41 ∷ []
  others (cons f fs) = 44 ∷ (printed f ++ others fs)

-- what is read past the end of a list of steps
abbrev pub blank : Piece
blank = record { label = record { ref_ptr = (0, 0); now = [] }; arity = 0; args = [] }

-- step k of ps
abbrev pub at : List Piece → ℕ → Piece
at ps k = slice_index_or ps k blank

-- step k of ps stands for the formula: it has its name and as many arguments as its arity says, each an earlier step that stands for that argument
abbrev mutual
  pub Denotes : List Piece → ℕ → Formula → Type 0
  Denotes ps k (over name fs) =
      (k < length ps) × ((at ps k).label.now ≡ name) × (count fs ≡ (at ps k).arity)
      × Arguments ps k (take (at ps k).arity (at ps k).args) fs

  pub Arguments : List Piece → ℕ → List ℕ → Formulas → Type 0
  Arguments ps k [] nil = Unit {0}
  Arguments ps k [] (cons f fs) = ⊥
  Arguments ps k (j ∷ js) nil = ⊥
  Arguments ps k (j ∷ js) (cons f fs) = (j < k) × Denotes ps j f × Arguments ps k js fs

-- a length that is not too long to count
abbrev pub counted : ℕ → Option ℕ
counted n = cond (nat_lt n (2 ^ 64)) (Some n) None

abbrev pub added : ℕ → Option ℕ → Option ℕ
added n None = None
added n (Some m) = counted (n + m)

-- the size of the text of step k: exact, and none where the step stands for no formula or the text is too long to count
pub record Sized (ps : List Piece) (k : ℕ) (size : Option ℕ) : Type 0 where
  pub exact : (f : Formula) → Denotes ps k f → size ≡ counted (length (printed f))
  pub stands : (n : ℕ) → size ≡ Some n → (f : Formula) × Denotes ps k f

-- so for each of the first n steps
abbrev pub Sizes : List Piece → ℕ → List (Option ℕ) → Type 0
Sizes ps n sizes = (k : ℕ) → k < n → Sized ps k (slice_index_or sizes k None)

-- the steps are at most as many as a formula has, and the last one stands for the formula
pub record Last (ps : List Piece) (f : Formula) : Type 0 where
  pub few : length ps ≤ 513
  pub denotes : Denotes ps (length ps - 1) f

-- the last step stands for a formula, whose text stands in the front of the buffer; the rest of the buffer is as it was
pub record Printed (ps : List Piece) (s t : List ℕ) (n : ℕ) : Type 0 where
  pub stands : (f : Formula) × Last ps f
  pub text : (f : Formula) → Last ps f → Put s t 0 n (printed f)

-- there are no steps; or there are, and the buffer is too small for each formula that they stand for
abbrev pub Refused : List Piece → List ℕ → ℕ × ℕ → Type 0
Refused ps s refusal =
    ((refusal ≡ (8, 0)) × (length ps ≡ 0))
    ⊎ ((refusal ≡ (9, 0)) × (0 < length ps) × ((f : Formula) → Last ps f → length s < length (printed f)))

-- what the answer says of the buffer, s before and t after; a refusal leaves it as it was
abbrev pub Prints : List Piece → List ℕ → List ℕ → Result ℕ FirmwareRefusal → Type 0
Prints ps s t (Ok n) = Printed ps s t n
Prints ps s t (Err e) = (t ≡ s) × Refused ps s (firmware_refusal e)
