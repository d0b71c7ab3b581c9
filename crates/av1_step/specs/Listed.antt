-- The candidates of the current block, as its state has them.
use Rattle.std.specs.Prelude.{ℕ, List, [], Bool}
use Rattle.std.specs.Option.{option_map_or}
use Rattle.av1_blocks.specs.Block.{has_second_ref}
use Rattle.av1_mvref.specs.declared.candidate.CandidateMV.{CandidateMV}
use Rattle.av1_step.specs.Tile.{Tile, CurrentBlock, grid_block}

-- a block has two references
abbrev pub is_compound : Tile → CurrentBlock → Bool
is_compound t b = has_second_ref (grid_block t b)

-- the candidates that were found: none where there are none
abbrev pub listed : Tile → List CandidateMV
listed t = option_map_or (λ c. c.list) t.cands []

abbrev pub listed_context : Tile → ℕ
listed_context t = option_map_or (λ c. c.context) t.cands 0
