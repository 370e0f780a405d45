use Rattle.std.proofs.Common.{rules}
use Rattle.books.specs.Refusal.{bad_name, bad_arity, bad_cell}
use Rattle.books.proofs.book.check.check_bytes.Goals as goal

pub returns-in-Some : goal.returns-in-Some
returns-in-Some c =
    let name = c.first.ensures (bad_name c.args.book.now) (λ p b h k. search rules) in
    search rules

pub returns-in-Some-first : goal.returns-in-Some-first
returns-in-Some-first c =
    let name = c.first.ensures (bad_name c.args.book.now) (λ p b h k. search rules) in
    let arity = c.first-2.ensures (bad_arity c.args.book.now) (λ p b h k. search rules) in
    search rules

pub returns-in-Some-first-2 : goal.returns-in-Some-first-2
returns-in-Some-first-2 c =
    let name = c.first.ensures (bad_name c.args.book.now) (λ p b h k. search rules) in
    let arity = c.first-2.ensures (bad_arity c.args.book.now) (λ p b h k. search rules) in
    let cell = c.first-3.ensures (bad_cell c.args.book.now) (λ p b h k. search rules) in
    search rules

pub returns : goal.returns
returns c =
    let name = c.first.ensures (bad_name c.args.book.now) (λ p b h k. search rules) in
    let arity = c.first-2.ensures (bad_arity c.args.book.now) (λ p b h k. search rules) in
    let cell = c.first-3.ensures (bad_cell c.args.book.now) (λ p b h k. search rules) in
    search rules
