-- The line of an answer of an advance.
use Rattle.std.specs.Prelude.{ℕ, List, ◌++◌, codes}
use Rattle.std.specs.Fmt.{decimal}
use Rattle.finder.specs.declared.state.Answer.{Answer}
use Rattle.finder.specs.declared.state.Answer.TheVariants.{Level, Found, None, Full}

abbrev pub answer_text : Answer → List ℕ
answer_text (Level weight places) = codes "level " ++ (decimal weight ++ (codes " " ++ decimal places))
answer_text (Found p) = codes "found " ++ (decimal p.0 ++ (codes " steps " ++ decimal p.1))
answer_text None = codes "none"
answer_text Full = codes "full"
