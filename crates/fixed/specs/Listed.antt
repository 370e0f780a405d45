-- What a list in fixed memory holds.
use Rattle.std.specs.Prelude.{ℕ, List, take}
use Rattle.fixed.specs.declared.list.FixedList.{FixedList}

-- the values that stand
abbrev pub listed : {T : Type 0} {n : ℕ} → FixedList T n → List T
listed s = take s.count s.table
