-- The words of a line.
use Rattle.std.specs.Prelude.{ℕ, not, ◌==◌, List, filter, length}
use Rattle.std.specs.List.{slice_split}

-- what spaces separate, without the parts that have no bytes
abbrev pub words_in : List ℕ → List (List ℕ)
words_in line = filter (λ word. not (length word == 0)) (slice_split (λ b. b == 32) line)
