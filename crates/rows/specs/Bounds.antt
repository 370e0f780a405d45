-- Which channel counts and limits are refused, with the refusal's number and place.
use Rattle.std.specs.Prelude.{ℕ, cond, ◌||◌, Some, None, Option, nat_lt}

-- how many rows a sheet has at most
abbrev pub most_rows : ℕ
most_rows = 16

-- more than eight channels
abbrev pub channels_refusal : ℕ → Option (ℕ × ℕ)
channels_refusal n = cond (nat_lt 8 n) (Some (6, 0)) None

-- a limit is 1 to 1,000,000
abbrev pub limit_refusal : ℕ → Option (ℕ × ℕ)
limit_refusal n = cond (nat_lt n 1 || nat_lt 1000000 n) (Some (5, 0)) None
