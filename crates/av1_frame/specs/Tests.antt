-- Words that rules are made of.
use Rattle.std.specs.Prelude.{ℕ, ℤ, Bool, true, false, not, ◌&&◌, ◌||◌, nat_le, int_le}

-- where the first holds, so does the second
abbrev pub implies : Bool → Bool → Bool
implies a b = not a || b

-- both hold, or none does
abbrev pub same : Bool → Bool → Bool
same true b = b
same false b = not b

-- a number is from the first to the second
abbrev pub within : ℕ → ℕ → ℕ → Bool
within low high n = nat_le low n && nat_le n high

abbrev pub int_within : ℤ → ℤ → ℤ → Bool
int_within low high z = int_le low z && int_le z high
