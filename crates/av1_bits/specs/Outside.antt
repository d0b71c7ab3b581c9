-- What a sink or a source does: bytes that move, and a count of faults.
use Rattle.std.specs.Prelude.{◌≡◌, ℕ, ◌+◌, ◌-◌, ◌^◌, ◌<◌, ◌≤◌, min, List, ◌++◌, length, take, drop, Option, Some, None, option_map}

-- a count after one more, which stays at its last value
abbrev pub next_count : ℕ → ℕ
next_count n = min (n + 1) (2 ^ 64 - 1)

-- a count rose, or stands at its last value
pub record Rose (old new : ℕ) : Type 0 where
  pub no_less : old ≤ new
  pub more : next_count old ≤ new

-- a count didn't rise, and isn't at its last value
pub record Still (old new : ℕ) : Type 0 where
  pub same : new ≡ old
  pub below : old < 2 ^ 64 - 1

-- what a sink holds, where it tells it, after these bytes
abbrev pub appended : Option (List ℕ) → List ℕ → Option (List ℕ)
appended held bytes = option_map (λ s. s ++ bytes) held

-- n bytes moved from the front of what was left to the front of a buffer
pub record Moves (n : ℕ) (bytes buf : List ℕ) (left : Option (List ℕ)) : Type 0 where
  pub there : n ≤ length bytes
  pub front : take n buf ≡ take n bytes
  pub rest : left ≡ Some (drop n bytes)

-- as many bytes as k moved, where the source told what was left
pub record Takes (k : ℕ) (old new : Option (List ℕ)) : Type 0 where
  pub told : (bytes : List ℕ) → old ≡ Some bytes → (k ≤ length bytes) × (new ≡ Some (drop k bytes))
  pub untold : old ≡ None → new ≡ None
