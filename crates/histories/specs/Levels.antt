-- What a search level by level is true of: for any kind of formulas that are looked at (today the well-formed ones), any kind of
-- key of a formula (today its column) and any goal that goes by the key (today that it is the wanted column). Here are the bar,
-- the levels, and what one advance answers.
use Rattle.std.specs.Prelude.{◌≡◌, ℕ, ◌<◌, ◌≤◌, List, length}
use Rattle.measures.specs.Lists.{In}
use Rattle.formulas.specs.Setting.{Setting}
use Rattle.formulas.specs.Formula.{Formula, weight, Apart}
use Rattle.formulas.specs.Steps.{most_places}
use Rattle.histories.specs.History.{Outcome, level, found, none, full}

-- ── the bar: the limit, or the weight of the lightest fitting formula if that is lower ──

-- w is lower than the bar
pub record UnderBar {K : Type 0} (E : Setting) (Ok : Formula → Type 0) (key : Formula → K) (Goal : K → Type 0) (bound w : ℕ) : Type 0 where
  pub limited : w < bound
  pub lighter : (g : Formula) → Ok g → Goal (key g) → w < weight E g

-- the key is that of a formula that is lighter than the bar
pub record Light {K : Type 0} (E : Setting) (Ok : Formula → Type 0) (key : Formula → K) (Goal : K → Type 0) (bound : ℕ) (x : K) : Type 0 where
  pub by : Formula
  pub formed : Ok by
  pub is : key by ≡ x
  pub under : UnderBar E Ok key Goal bound (weight E by)

-- over 512 different keys have formulas lighter than the bar
pub record Over {K : Type 0} (E : Setting) (Ok : Formula → Type 0) (key : Formula → K) (Goal : K → Type 0) (bound : ℕ) : Type 0 where
  pub keys : List K
  pub many : most_places < length keys
  pub apart : Apart keys
  pub light : (x : K) → In x keys → Light E Ok key Goal bound x

-- a fitting formula is within the limit
pub record Within {K : Type 0} (E : Setting) (Ok : Formula → Type 0) (key : Formula → K) (Goal : K → Type 0) (bound : ℕ) : Type 0 where
  pub by : Formula
  pub formed : Ok by
  pub fits : Goal (key by)
  pub within : weight E by ≤ bound

-- ── levels ──

-- a formula whose key is that of no formula that weighs at most v
pub record New {K : Type 0} (E : Setting) (Ok : Formula → Type 0) (key : Formula → K) (v : ℕ) (g : Formula) : Type 0 where
  pub formed : Ok g
  pub heavier : (f : Formula) → Ok f → key f ≡ key g → v < weight E f

-- w is the least weight of a formula whose key is that of none that weighs at most v
pub record NextLevel {K : Type 0} (E : Setting) (Ok : Formula → Type 0) (key : Formula → K) (v w : ℕ) : Type 0 where
  pub by : Formula
  pub new : New E Ok key v by
  pub weighs : weight E by ≡ w
  pub least : (g : Formula) → New E Ok key v g → w ≤ weight E g

-- the key is that of a formula that weighs at most w
pub record ReachedBy {K : Type 0} (E : Setting) (Ok : Formula → Type 0) (key : Formula → K) (w : ℕ) (x : K) : Type 0 where
  pub by : Formula
  pub formed : Ok by
  pub is : key by ≡ x
  pub light : weight E by ≤ w

-- exactly c different keys have formulas that weigh at most w
pub record KeysNumber {K : Type 0} (E : Setting) (Ok : Formula → Type 0) (key : Formula → K) (w c : ℕ) : Type 0 where
  pub keys : List K
  pub number : length keys ≡ c
  pub apart : Apart keys
  pub light : (x : K) → In x keys → ReachedBy E Ok key w x
  pub all : (g : Formula) → Ok g → weight E g ≤ w → In (key g) keys

-- ── one advance ──

-- An advance that gives a level, v being the level before it: the least weight above it that a new key has, below the bar, with
-- the number of keys up to it, at most 512.
pub record LevelTrue {K : Type 0} (E : Setting) (Ok : Formula → Type 0) (key : Formula → K) (Goal : K → Type 0) (bound v w c : ℕ) : Type 0 where
  pub next : NextLevel E Ok key v w
  pub under : UnderBar E Ok key Goal bound w
  pub keys : KeysNumber E Ok key w c
  pub room : c ≤ most_places

-- one that settles the sheet as Full: the next level is below the bar and has over 512 keys up to it
pub record FullTrue {K : Type 0} (E : Setting) (Ok : Formula → Type 0) (key : Formula → K) (Goal : K → Type 0) (bound v : ℕ) : Type 0 where
  pub weight : ℕ
  pub number : ℕ
  pub next : NextLevel E Ok key v weight
  pub under : UnderBar E Ok key Goal bound weight
  pub keys : KeysNumber E Ok key weight number
  pub many : most_places < number

-- an accepted advance goes up by one level, v being the last: Found's weight is the next level; None says that every formula
-- with a new key weighs at least the limit
abbrev pub OutcomeTrue : {K : Type 0} → Setting → (Formula → Type 0) → (Formula → K) → (K → Type 0) → ℕ → ℕ → Outcome → Type 0
OutcomeTrue E Ok key Goal bound v (level w c) = LevelTrue E Ok key Goal bound v w c
OutcomeTrue E Ok key Goal bound v (found w s) = NextLevel E Ok key v w
OutcomeTrue E Ok key Goal bound v none = (g : Formula) → New E Ok key v g → bound ≤ weight E g
OutcomeTrue E Ok key Goal bound v full = FullTrue E Ok key Goal bound v
