-- What a log undoes.
use Rattle.std.specs.Prelude.{◌≡◌, ℕ, ◌+◌, ◌≤◌, List, [], ◌∷◌, ◌++◌, nat_le, if◌then◌else◌, length, drop, min}
use Rattle.av1_cdf.specs.Part.{part_spare, undone_part, window}
use Rattle.av1_cdf.specs.declared.cdf_offset.CDFOffset.{CDFOffset}
use Rattle.av1_cdf.specs.declared.part.Save.{Save}
use Rattle.av1_cdf.specs.declared.log.CDFContextLog.{CDFContextLog}
use Rattle.av1_cdf.specs.declared.log.CDFContextCheckpoint.{CDFContextCheckpoint}

-- the saves of a log, the oldest first: those of 4 numbers, and those of 16
abbrev pub small_saves : CDFContextLog → List (Save 4)
small_saves log = log.small.saves.items

abbrev pub large_saves : CDFContextLog → List (Save 16)
large_saves log = log.large.saves.items

abbrev pub saves_of : CDFContextLog → List (Save 4) × List (Save 16)
saves_of log = (small_saves log, large_saves log)

-- the saves of a log to which that of a CDF is appended, in the part for its length
abbrev pub saves_after : CDFContextLog → List ℕ → CDFOffset → List (Save 4) × List (Save 16)
saves_after log context cdf =
    if nat_le cdf.len 4 then (small_saves log ++ window 4 context cdf.place ∷ [], large_saves log)
    else (small_saves log, large_saves log ++ window 16 context cdf.place ∷ [])

-- how many saves a log has
abbrev pub stored : CDFContextLog → ℕ
stored log = length (small_saves log) + length (large_saves log)

-- how many saves fit before more memory is needed, whichever they are
abbrev pub spare : CDFContextLog → ℕ
spare log = min (part_spare log.small) (part_spare log.large)

-- how many saves of a CDF of n numbers fit
abbrev pub spare_for : CDFContextLog → ℕ → ℕ
spare_for log n = if nat_le n 4 then part_spare log.small else part_spare log.large

-- a log still has the saves of a checkpoint
abbrev pub IsReached : CDFContextLog → CDFContextCheckpoint → Type 0
IsReached log c = (c.small ≤ length (small_saves log)) × (c.large ≤ length (large_saves log))

-- a checkpoint has no more saves than another
abbrev pub IsWithin : CDFContextCheckpoint → CDFContextCheckpoint → Type 0
IsWithin c d = (c.small ≤ d.small) × (c.large ≤ d.large)

-- the context in which each number that a save past the checkpoint has is that of the oldest such save
abbrev pub undone : CDFContextLog → List ℕ → CDFContextCheckpoint → List ℕ
undone log context c = undone_part 16 (drop c.large (large_saves log)) (undone_part 4 (drop c.small (small_saves log)) context)

-- no part has fewer saves, and each checkpoint that is reached is still reached and stands for the same context
pub record KeepsUndone (old new : CDFContextLog) (before after : List ℕ) : Type 0 where
  pub small : length (small_saves old) ≤ length (small_saves new)
  pub large : length (large_saves old) ≤ length (large_saves new)
  pub reached : (c : CDFContextCheckpoint) → IsReached old c → IsReached new c
  pub same : (c : CDFContextCheckpoint) → IsReached old c → undone new after c ≡ undone old before c
