-- The places that a candidate's formula uses, by marks, and the formula's steps: the used places in order, and it itself last.
use Rattle.std.specs.Prelude.{ℕ, zero, suc, ◌+◌, Bool, true, false, cond, List, [], ◌∷◌, ◌++◌, map, length, get_or, take, replicate, slice_index_or, slice_set}
use Rattle.search.specs.Places.{Candidate, of_channel, of_operator, Place}
use Rattle.search.specs.Stored.{most_places, no_place}

abbrev pub arguments_of : Candidate → List ℕ
arguments_of (of_channel i) = []
arguments_of (of_operator k is) = is

abbrev pub mark : List ℕ → List Bool → List Bool
mark [] u = u
mark (i ∷ is) u = mark is (slice_set u i true)

-- from the last of i places down, the arguments of each that is marked
abbrev pub marks : List Place → ℕ → List Bool → List Bool
marks ps zero u = u
marks ps (suc i) u = marks ps i (cond (slice_index_or u i false) (mark (arguments_of (get_or ps i no_place).top) u) u)

-- how many are marked
abbrev pub tally : List Bool → ℕ
tally [] = 0
tally (b ∷ bs) = cond b (suc (tally bs)) (tally bs)

-- which places the formula of a candidate uses
unfoldable pub used_marks : List Place → Candidate → List Bool
used_marks ps t = marks ps (length ps) (mark (arguments_of t) (replicate most_places false))

-- how many steps it has: the places used, and itself
abbrev pub steps_at : List Place → Candidate → ℕ
steps_at ps t = tally (used_marks ps t) + 1

-- a place's number among those that are marked
abbrev pub rank : List Bool → ℕ → ℕ
rank u i = tally (take i u)

-- with step numbers for places
abbrev pub renumbered : List Bool → Candidate → Candidate
renumbered u (of_channel i) = of_channel i
renumbered u (of_operator k is) = of_operator k (map (rank u) is)

-- those of the places that are marked, in order, as steps
abbrev pub marked_steps : List Bool → List Bool → List Place → List Candidate
marked_steps u [] ps = []
marked_steps u (b ∷ v) [] = []
marked_steps u (b ∷ v) (p ∷ ps) = cond b (renumbered u p.top ∷ marked_steps u v ps) (marked_steps u v ps)

-- the steps of a candidate's formula
unfoldable pub steps_of : List Place → Candidate → List Candidate
steps_of ps t = marked_steps (used_marks ps t) (used_marks ps t) ps ++ (renumbered (used_marks ps t) t ∷ [])
