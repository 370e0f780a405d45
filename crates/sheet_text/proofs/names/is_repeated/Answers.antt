use Rattle.std.proofs.Common.{length, subst, sym, ◌∙◌, rules}
use borrow.Author.Tests.{tests}
use Rattle.std.specs.Str.{bytes_eq}
use Rattle.std.proofs.ByRecursion.{All-get_or}
use Rattle.std.proofs.lemmas.Iterator.{YieldsList-from_slice}
use Rattle.std.proofs.lemmas.Iterator.Search.{any_from_yields_List}
use Rattle.std.proofs.lemmas.Iterator.Adapters.{serves_from_places}
use Rattle.sheet_text.specs.Spans.{InText, name_at}
use Rattle.sheet_text.proofs.Repeats.{repeats_any}
use Rattle.sheet_text.proofs.names.is_repeated.Goals as goal

pub any-requires-clause-callable : goal.any-requires-clause-callable
any-requires-clause-callable c =
    let within = InText (length c.args.text.now) in
    serves_from_places (YieldsList-from_slice c.args.names.now c.iter.ensures.rest) (λ x q k. search rules)
    (λ x k h e. let a : within x.now = subst within (sym e) (All-get_or within c.args.names.now k x.now h c.requires) in search rules)

pub returns : goal.returns
returns c =
    any_from_yields_List (λ s. bytes_eq (name_at c.args.text.now s) c.args.name.now) _ _ c.any.result c.any.ensures.ran
    (YieldsList-from_slice c.args.names.now c.iter.ensures.rest) (λ x b q k. search (rules, tests))
    ∙ repeats_any c.args.text.now c.args.names.now c.args.name.now
