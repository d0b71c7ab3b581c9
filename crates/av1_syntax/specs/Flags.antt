-- Flags: symbol 0 stands for no, symbol 1 for yes.
use Rattle.std.specs.Prelude.{ℕ, zero, suc, ◌∷◌, [], Bool, true, false, Option, Some, None, codes, if◌then◌else◌}
use Rattle.av1_blocks.specs.Grid.{Grid, skip_context}
use Rattle.av1_cdf.specs.Distribution.{Distribution}
use Rattle.av1_geometry.specs.declared.block_offset.BlockOffset.{BlockOffset}
use Rattle.av1_geometry.specs.declared.block_size.BlockSize.{BlockSize}
use Rattle.av1_geometry.specs.BlockSize.{number_of}
use Rattle.av1_model.specs.Element.{Element, symbol}
use Rattle.av1_syntax.specs.Calls.{adaptive}

abbrev pub flag_of : ℕ → Option Bool
flag_of zero = Some false
flag_of (suc zero) = Some true
flag_of (suc (suc s)) = None

abbrev pub flag_number : Bool → ℕ
flag_number on = if on then 1 else 0

abbrev pub flag : Distribution → Element Distribution Bool
flag q = symbol q flag_of flag_number

-- whether a block is skipped, by how many of the blocks above and to the left are
abbrev pub skip_element : Grid → BlockOffset → Element Distribution Bool
skip_element g bo = flag (adaptive (codes "skip_cdfs") (skip_context g bo ∷ []))

-- whether a block has filter intra, by its size
abbrev pub filter_intra_element : BlockSize → Element Distribution Bool
filter_intra_element size = flag (adaptive (codes "filter_intra_cdfs") (number_of size ∷ []))
