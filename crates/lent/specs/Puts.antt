-- What writing into a buffer leaves in it.
use Rattle.std.specs.Prelude.{◌≡◌, ℕ, ◌+◌, ◌≤◌, List, ◌++◌, length, take, drop}
use Rattle.lent.specs.declared.front.Front.{Front}

-- t is s with the bytes written from i on, and r is the place behind them
pub record Put (s t : List ℕ) (i r : ℕ) (bytes : List ℕ) : Type 0 where
  pub behind : r ≡ i + length bytes
  pub front : take r t ≡ take i s ++ bytes
  pub rest : drop r t ≡ drop r s

-- the same, where there is room
abbrev pub Puts : List ℕ → List ℕ → ℕ → ℕ → List ℕ → Type 0
Puts s t i r bytes = i + length bytes ≤ length s → Put s t i r bytes

-- the bytes are written behind what is written, and the buffer is the one that was lent
pub record Behind (f g : Front) (bytes : List ℕ) : Type 0 where
  pub put : Puts f.out.now g.out.now f.at g.at bytes
  pub long : length g.out.now ≡ length f.out.now
  pub same : g.out.ghost_name ≡ f.out.ghost_name
