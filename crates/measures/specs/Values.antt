-- The plain numbers of weights.
use Rattle.std.specs.Prelude.{ℕ, List, map}
use Rattle.measures.specs.declared.weight.Weight.{Weight}

abbrev pub values : List Weight → List ℕ
values ws = map (λ (w : Weight). w.value) ws
