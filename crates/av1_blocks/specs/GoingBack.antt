-- What it means to go back to what was kept of a superblock.
use Rattle.std.specs.Prelude.{ℕ, ◌+◌, ◌≤◌}
use Rattle.av1_blocks.specs.declared.block_context.BlockContext.{BlockContext}
use Rattle.av1_blocks.specs.declared.checkpoint.BlockContextCheckpoint.{BlockContextCheckpoint}
use Rattle.av1_blocks.specs.Edges.{with_edges, with_restored}
use Rattle.av1_blocks.specs.Saved.{Saved}

-- after `rollback` and `restore_sb`
abbrev pub gone_back : BlockContextCheckpoint → Saved → BlockContext → BlockContext
gone_back c s bc = with_restored s (with_edges c bc)

-- so many columns or rows from one on are within the 16 of a superblock
pub record IsWithin (sb from side : ℕ) : Type 0 where
  pub some : 1 ≤ side
  pub start : sb ≤ from
  pub end : from + side ≤ sb + 16
