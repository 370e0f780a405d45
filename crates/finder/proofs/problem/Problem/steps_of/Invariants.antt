use Rattle.std.proofs.Common.{◌≡◌, ◌+◌, ◌≤◌, ◌++◌, map, length}
use Rattle.search.specs.Marks.{marked_steps, used_marks}
use Rattle.finder.specs.View.{bank_seen, candidate_seen, place_seen}
use Rattle.finder.specs.Whole.{steps_seen}
use Rattle.finder.proofs.problem.Problem.steps_of.Given as goal

-- the steps so far, and those of the places to come
abbrev pub invariant-loop-place : goal.invariant-loop-place
invariant-loop-place g l =
    let m = g.S.OperatorSet.meaning l.self.set in
    let n = l.self.sheet.rows.count in
    let ps = bank_seen m n l.bank in
    let u = used_marks ps (candidate_seen m l.candidate) in
    let places = l.place-iterator.a.rest.now in
    (l.steps.count + length places ≤ 512) × (steps_seen m l.steps ++ marked_steps u l.place-iterator.b.rest.now (map (place_seen m n) places) ≡ marked_steps u u ps)
