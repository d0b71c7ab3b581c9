-- How one number of a distribution learns.
use Rattle.std.specs.Prelude.{ℕ, ◌+◌, ◌-◌, ◌/◌, ◌^◌, nat_lt, if◌then◌else◌}

-- number k after symbol s: it rises towards 32768 where it comes before the symbol, and else falls
abbrev pub moved : ℕ → ℕ → ℕ → ℕ → ℕ
moved rate s k v = if nat_lt k s then v + (32768 - v) / 2 ^ rate else v - v / 2 ^ rate
