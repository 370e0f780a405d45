-- The loops go through the candidates in build order.
use Rattle.std.proofs.Common.{◌≡◌, ℕ, ◌≤◌, List, [], ◌++◌, length, Some, None, Option, sym, ap, ◌∙◌}
use Rattle.operators.specs.Bands.{SetMeaning}
use Rattle.measures.specs.Measures.{MeasureMeaning}
use Rattle.search.specs.Places.{Candidate, candidates}
use Rattle.search.specs.Order.{up_from, channel, block}
use Rattle.search.proofs.Nest.{nest_candidates}
use Rattle.std.proofs.lemmas.List.{append-nil}
use Rattle.formulas.specs.Setting.{Setting}
use Rattle.rows.specs.Rows.{StandingRow}
use Rattle.search.specs.Stored.{Held, build}
use Rattle.finder.specs.View.{setting, bank_seen, Builds}
use Rattle.finder.specs.declared.sheet.Sheet.{Sheet}
use Rattle.finder.specs.declared.bank.Bank.{Bank}
use Rattle.finder.proofs.Seen.{seen_length}

-- the candidates in the order of the loops are those in build order
pub ordered : (m : SetMeaning) (v : MeasureMeaning) (s : Sheet) (b : Bank) → ((op : ℕ) → m.arity op ≤ 2) →
    up_from channel s.channels.value 0 ++ up_from (block m.arity b.places.count) m.count 0 ≡ candidates (setting m v s) (length (bank_seen m s.rows.count b))
ordered m v s b narrow = nest_candidates (setting m v s) b.places.count narrow ∙ ap (candidates (setting m v s)) (sym (seen_length m s.rows.count b))

-- where no candidate follows, what is found and held is what all give
pub builds_end : (E : Setting) (rows : List StandingRow) (w : ℕ) (before : Held) (cs : List Candidate) (r : Option Candidate) (after : Held) → Builds E rows w before cs r after → (r, after) ≡ build E rows w before cs
builds_end E rows w before cs (Some c) after h = h [] ∙ ap (build E rows w before) (append-nil cs)
builds_end E rows w before cs None after h = h [] ∙ ap (build E rows w before) (append-nil cs)
