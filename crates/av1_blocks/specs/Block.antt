-- What the fields of a block say.
use Rattle.std.specs.Prelude.{Bool, nat_le, ◌&&◌, slice_index_or}
use Rattle.av1_geometry.specs.PredictionMode.{prediction_mode_number}
use Rattle.av1_geometry.specs.RefType.{reference_number}
use Rattle.av1_geometry.specs.declared.ref_type.RefType.TheVariants.{NONE_FRAME}
use Rattle.av1_blocks.specs.declared.block.Block.{Block}

-- predicted from other frames
abbrev pub is_inter : Block → Bool
is_inter b = nat_le 14 (prediction_mode_number b.mode)

-- the second reference is one of the seven
abbrev pub has_second_ref : Block → Bool
has_second_ref b = let second = reference_number (slice_index_or b.ref_frames 1 NONE_FRAME) in nat_le 1 second && nat_le second 7
