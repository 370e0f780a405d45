-- A row as bytes: the wanted band, then one band for each channel. A band is 0 to 14; 15 is the mark for no reading, which may
-- stand for any band but the wanted one.
use Rattle.std.specs.Prelude.{ℕ, ◌+◌, ◌-◌, Bool, cond, List, [], ◌∷◌, ◌++◌, length, replicate, ◌==◌, nat_le, nat_lt}
use Rattle.std.specs.List.{prefix_len}

abbrev pub band_or_mark : ℕ → Bool
band_or_mark b = nat_le b 15

-- how many bytes stand before the first that is neither a band nor the mark
abbrev pub sound_bands : List ℕ → ℕ
sound_bands bs = prefix_len band_or_mark bs

-- what the bytes of a row are: a wanted band with the channels' bands, or a refusal's number and place
pub data Judged : Type 0 where
  said : ℕ → List ℕ → Judged
  refused : ℕ → ℕ → Judged

-- 1 for a wrong length, then 2 at the first byte at fault
abbrev pub judged : ℕ → List ℕ → Judged
judged channels [] = refused 1 0
judged channels (wanted ∷ bands) =
    cond (length bands == channels)
    (cond (nat_lt 14 wanted) (refused 2 0)
    (cond (nat_lt (sound_bands bands) (length bands)) (refused 2 (sound_bands bands + 1)) (said wanted bands)))
    (refused 1 0)

-- the bands in a table of eight, with marks behind them
abbrev pub padded : List ℕ → List ℕ
padded bs = bs ++ replicate (8 - length bs) 15

-- a standing row: the wanted band and the channels' bands
pub record StandingRow : Type 0 where
  pub wanted : ℕ
  pub bands : List ℕ

abbrev pub wanted_of : List StandingRow → List ℕ
wanted_of [] = []
wanted_of (r ∷ rows) = r.wanted ∷ wanted_of rows
