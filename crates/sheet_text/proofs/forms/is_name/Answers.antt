use Rattle.std.proofs.Common.{sym, ◌∙◌, rules}
use borrow.Author.Tests.{tests}
use Rattle.std.proofs.lemmas.Iterator.{YieldsList-from_slice}
use Rattle.std.proofs.lemmas.Iterator.Search.{all_from_yields_List}
use Rattle.sheet_text.specs.Forms.{name_byte}
use Rattle.sheet_text.proofs.NameForms.{name_tail}
use Rattle.sheet_text.proofs.forms.is_name.Goals as goal

pub returns-then-rest-le3 : goal.returns-then-rest-le3
returns-then-rest-le3 c =
    name_tail c.args.word.now c.all.result (sym c.is_ascii_uppercase.ensures.value ∙ c.if-rest-le3.true.0) c.if-rest-le3.true.1
    (all_from_yields_List name_byte _ _ c.all.result c.all.ensures.ran (YieldsList-from_slice _ c.iter.ensures.rest) (λ x b q k. search (rules, tests)))
