-- What a counter keeps: the range, and how many bits were shifted out.
use Rattle.std.specs.Prelude.{ℕ, ◌+◌, ◌^◌, ◌≤◌, None}
use Rattle.av1_ec.specs.Checkpoint.{reach}
use Rattle.av1_ec.specs.declared.storage.WriterCheckpoint.{WriterCheckpoint}
use Rattle.av1_model.specs.Interval.{IsInterval}
use Rattle.av1_model.specs.Position.{Position}

-- what is known of a counter
abbrev pub counter_position : ℕ → ℕ → ℕ → Position
counter_position range bits fake = record { range = range; shift = bits; fake = fake; low = None; tokens = None }

-- they are those of an interval, and there are no more bits than a writer may have
pub record IsCount (range bits : ℕ) : Type 0 where
  pub interval : IsInterval (record { low = 0; range = range; shift = bits })
  pub few : bits ≤ 2 ^ 28 + 2 ^ 24

-- a checkpoint of no more bits, which has the range and the bits of an interval
pub record IsCounted (bits : ℕ) (c : WriterCheckpoint) : Type 0 where
  pub there : reach c ≤ bits
  pub interval : IsInterval (record { low = 0; range = c.rng; shift = reach c })
