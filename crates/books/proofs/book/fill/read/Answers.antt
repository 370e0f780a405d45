use Rattle.std.proofs.Common.{◌≡◌, ℕ, true, List, length, sym, subst, rules}
use Rattle.books.specs.Layout.{name_of}
use Rattle.books.specs.Refusal.{begins_name}
use Rattle.books.proofs.Sound.{sound, name_ok, arity_ok, table_ok}
use Rattle.books.proofs.book.fill.read.Goals as goal

pub invariant_of-result : goal.invariant_of-result
invariant_of-result c =
    let s = sound c.args.book.now c.requires.sound in
    let n = name_ok c.args.book.now c.args.op s c.requires.within in
    let a = arity_ok c.args.book.now c.args.op s c.requires.within in
    let t = table_ok c.args.book.now c.args.op s c.requires.within in
    let w : c.copy_from_slice.new.self ≡ name_of c.args.book.now c.args.op = search rules in
    let l : length c.copy_from_slice.new.self ≡ 4 = search rules in
    record { wide = l; spelt = subst (λ (xs : List ℕ). begins_name xs ≡ true) (sym w) n; narrow = a; banded = λ j. let u = t j in search rules }
