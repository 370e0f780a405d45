-- The search over stored places: a candidate's column and weight are worked out from the rows, or from the columns and the
-- weights that stand at the places of its arguments.
use Rattle.std.specs.Prelude.{◌≡◌, ℕ, ◌<◌, Bool, true, false, List, [], ◌∷◌, ◌++◌, map, length, get_or, Some, None, Option, slice_index_or}
use Rattle.std.proofs.Math.Decide.{dec_lt, ℕ_discrete}
use Rattle.measures.specs.Measures.{beyond}
use Rattle.formulas.specs.Setting.{Setting}
use Rattle.rows.specs.Rows.{StandingRow, wanted_of}
use Rattle.search.specs.Lists.{In, choose, dec_in, dec_both, numbers, bands_discrete}
use Rattle.search.specs.Places.{Candidate, of_channel, of_operator, Place, candidates, bands_at, weights_at}

-- how many places the bank has
abbrev pub most_places : ℕ
most_places = 512

-- what stands past the last row and the last place
abbrev pub no_row : StandingRow
no_row = record { wanted = 0; bands = [] }

abbrev pub no_place : Place
no_place = record { top = of_channel 0; column = []; weight = 1 }

-- ── a candidate ──

-- its band in row j: the channel's, or what the operator gives for the bands of its arguments' columns
abbrev pub band_of : Setting → List StandingRow → List Place → Candidate → ℕ → ℕ
band_of E rows places (of_channel i) j = slice_index_or (get_or rows j no_row).bands i 15
band_of E rows places (of_operator k is) j = E.set.band k (bands_at places no_place j is)

unfoldable pub column_of : Setting → List StandingRow → List Place → Candidate → List ℕ
column_of E rows places t = map (band_of E rows places t) (numbers (length rows))

abbrev pub weight_of : Setting → List Place → Candidate → ℕ
weight_of E places (of_channel i) = E.measure.channel i
weight_of E places (of_operator k is) = E.measure.operator k (weights_at places no_place is)

abbrev pub place_of : Setting → List StandingRow → List Place → Candidate → Place
place_of E rows places t = record { top = t; column = column_of E rows places t; weight = weight_of E places t }

-- the columns in the bank
abbrev pub columns_in : List Place → List (List ℕ)
columns_in places = map (λ (p : Place). p.column) places

abbrev pub Known : Setting → List StandingRow → List Place → Candidate → Type 0
Known E rows places t = In (column_of E rows places t) (columns_in places)

unfoldable pub dec_known : (E : Setting) (rows : List StandingRow) (places : List Place) (t : Candidate) → Dec (Known E rows places t)
dec_known E rows places t = dec_in bands_discrete (column_of E rows places t) (columns_in places)

-- what the bank answers where it is asked for a column: a place that has it, or none
abbrev pub Looked : List (List ℕ) → List ℕ → Option ℕ → Type 0
Looked columns x (Some i) = (i < length columns) × (slice_index_or columns i [] ≡ x)
Looked columns x None = In x columns → ⊥

-- ── the level ──

-- the weight at the last place, 0 where there is none
abbrev pub last_weight : List Place → ℕ
last_weight [] = 0
last_weight (p ∷ []) = p.weight
last_weight (p ∷ q ∷ ps) = last_weight (q ∷ ps)

-- the lower of b and the weight of t, if that is above the last place's and its column is not in the bank
unfoldable pub lower : Setting → List StandingRow → List Place → ℕ → Candidate → ℕ
lower E rows places b t =
    choose (dec_lt (last_weight places) (weight_of E places t))
    (choose (dec_lt (weight_of E places t) b) (choose (dec_known E rows places t) b (weight_of E places t)) b)
    b

-- the least of the weights of such candidates
abbrev pub lowest : Setting → List StandingRow → List Place → ℕ → List Candidate → ℕ
lowest E rows places b [] = b
lowest E rows places b (t ∷ ts) = lowest E rows places (lower E rows places b t) ts

-- the level: the least weight of a candidate whose column is not in the bank, beyond where there is none
abbrev pub level_at : Setting → List StandingRow → List Place → ℕ
level_at E rows places = lowest E rows places beyond (candidates E (length places))

-- ── the building of a level ──

-- the bank with what the level has put behind it so far, and whether a column found no place
pub record Held : Type 0 where
  pub places : List Place
  pub over : Bool

-- the candidate has the weight and the wanted column
abbrev pub Fit : Setting → List StandingRow → ℕ → List Place → Candidate → Type 0
Fit E rows w places t = (weight_of E places t ≡ w) × (column_of E rows places t ≡ wanted_of rows)

unfoldable pub dec_fit : (E : Setting) (rows : List StandingRow) (w : ℕ) (places : List Place) (t : Candidate) → Dec (Fit E rows w places t)
dec_fit E rows w places t = dec_both (ℕ_discrete (weight_of E places t) w) (bands_discrete (column_of E rows places t) (wanted_of rows))

-- one place more, if there is room
abbrev pub grown : Held → Place → Held
grown h p = choose (dec_lt (length h.places) most_places) (record { places = h.places ++ (p ∷ []); over = h.over }) (record { places = h.places; over = true })

-- a candidate of the weight is kept, if its column is new
unfoldable pub kept : Setting → List StandingRow → ℕ → Held → Candidate → Held
kept E rows w h t =
    choose (ℕ_discrete (weight_of E h.places t) w)
    (choose (dec_known E rows h.places t) h (grown h (place_of E rows h.places t)))
    h

-- whether a candidate fits, and what is then held
unfoldable pub offered : Setting → List StandingRow → ℕ → Held → Candidate → Bool × Held
offered E rows w h t = choose (dec_fit E rows w h.places t) (true, h) (false, kept E rows w h t)

-- the first candidate that fits, and what those before it leave
abbrev pub build : Setting → List StandingRow → ℕ → Held → List Candidate → Option Candidate × Held
build E rows w h [] = (None, h)
build E rows w h (t ∷ ts) = choose (dec_fit E rows w h.places t) (Some t, h) (build E rows w (kept E rows w h t) ts)

abbrev pub built : Setting → List StandingRow → ℕ → List Place → Option Candidate × Held
built E rows w places = build E rows w (record { places = places; over = false }) (candidates E (length places))
