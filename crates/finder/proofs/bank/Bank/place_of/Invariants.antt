use Rattle.std.proofs.Common.{◌≡◌, take}
use Rattle.std.specs.List.{AllWithin}
use Rattle.finder.specs.declared.bank.Place.{Place}
use Rattle.finder.proofs.bank.Bank.place_of.Given as goal

abbrev pub invariant-loop-i : goal.invariant-loop-i
invariant-loop-i l = AllWithin (λ (p : Place). take l.n p.column.bands ≡ take l.n l.column.bands → ⊥) l.places 0 l.i
