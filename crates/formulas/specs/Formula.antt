-- What a formula is: which are well formed, the band at a reading, the column over rows, the weight, the parts.
use Rattle.std.specs.Prelude.{◌≡◌, ℕ, suc, ◌<◌, ◌↔◌, List, [], ◌∷◌, ◌++◌, map, length, slice_index_or}
use Rattle.std.proofs.Math.Decide.{ℕ_discrete}
use Rattle.operators.specs.Bands.{mark, SetMeaning}
use Rattle.measures.specs.Measures.{MeasureMeaning}
use Rattle.measures.specs.Lists.{In}
use Rattle.rows.specs.Rows.{StandingRow, wanted_of}
use Rattle.formulas.specs.Setting.{Setting}

-- a channel, or an operator over formulas
mutual
  pub data Formula : Type 0 where
    channel : ℕ → Formula
    operator : ℕ → Formulas → Formula
    deriving Discrete as Formula-discrete-over

  pub data Formulas : Type 0 where
    nil : Formulas
    cons : Formula → Formulas → Formulas

unfoldable pub Formula-discrete : Discrete Formula
Formula-discrete = Formula-discrete-over ℕ_discrete

abbrev pub count : Formulas → ℕ
count nil = 0
count (cons f fs) = suc (count fs)

-- the formulas as a list
abbrev pub formulas_in : Formulas → List Formula
formulas_in nil = []
formulas_in (cons f fs) = f ∷ formulas_in fs

-- with the operators m and so many channels: a channel that is there, or an operator that is offered over as many well-formed
-- formulas as its arity
abbrev mutual
  pub WellFormed : SetMeaning → ℕ → Formula → Type 0
  WellFormed m channels (channel i) = i < channels
  WellFormed m channels (operator k fs) = (k < m.count) × (count fs ≡ m.arity k) × AllFormed m channels fs

  pub AllFormed : SetMeaning → ℕ → Formulas → Type 0
  AllFormed m channels nil = Unit {0}
  AllFormed m channels (cons f fs) = WellFormed m channels f × AllFormed m channels fs

-- the band at a reading: a channel's is the one that was read, the mark where there is none
abbrev mutual
  pub band : SetMeaning → List ℕ → Formula → ℕ
  band m reading (channel i) = slice_index_or reading i mark
  band m reading (operator k fs) = m.band k (bands m reading fs)

  pub bands : SetMeaning → List ℕ → Formulas → List ℕ
  bands m reading nil = []
  bands m reading (cons f fs) = band m reading f ∷ bands m reading fs

-- the weight under a measure
abbrev mutual
  pub weighed : MeasureMeaning → Formula → ℕ
  weighed v (channel i) = v.channel i
  weighed v (operator k fs) = v.operator k (all_weighed v fs)

  pub all_weighed : MeasureMeaning → Formulas → List ℕ
  all_weighed v nil = []
  all_weighed v (cons f fs) = weighed v f ∷ all_weighed v fs

-- ── over a setting ──

abbrev pub Formed : Setting → Formula → Type 0
Formed E f = WellFormed E.set E.channels f

abbrev pub value : Setting → List ℕ → Formula → ℕ
value E reading f = band E.set reading f

abbrev pub weight : Setting → Formula → ℕ
weight E f = weighed E.measure f

-- a formula's bands, one for each row
abbrev pub column : Setting → List StandingRow → Formula → List ℕ
column E rows f = map (λ (r : StandingRow). value E r.bands f) rows

-- the column is the wanted one
abbrev pub Wanted : List StandingRow → List ℕ → Type 0
Wanted rows col = col ≡ wanted_of rows

abbrev pub Fits : Setting → List StandingRow → Formula → Type 0
Fits E rows f = column E rows f ≡ wanted_of rows

-- ── the parts of a formula ──

-- the formula itself and what it is made of, over and over
abbrev mutual
  pub parts : Formula → List Formula
  parts (channel i) = channel i ∷ []
  parts (operator k fs) = operator k fs ∷ parts_of fs

  pub parts_of : Formulas → List Formula
  parts_of nil = []
  parts_of (cons f fs) = parts f ++ parts_of fs

-- no two of the list are equal
abbrev pub Apart : {A : Type 0} → List A → Type 0
Apart [] = Unit {0}
Apart (x ∷ xs) = (In x xs → ⊥) × Apart xs

-- the formula has n different parts
pub record StepsNumber (f : Formula) (n : ℕ) : Type 0 where
  pub named : List Formula
  pub apart : Apart named
  pub exactly : (g : Formula) → In g named ↔ In g (parts f)
  pub number : length named ≡ n
