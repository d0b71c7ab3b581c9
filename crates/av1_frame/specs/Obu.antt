-- The numbers of the kinds of OBUs.
use Rattle.std.specs.Prelude.{ℕ}
use Rattle.av1_frame.specs.declared.obu.ObuType.{ObuType}
use Rattle.av1_frame.specs.declared.obu.ObuType.TheVariants.{OBU_SEQUENCE_HEADER, OBU_TEMPORAL_DELIMITER, OBU_FRAME_HEADER, OBU_TILE_GROUP}
use Rattle.av1_frame.specs.declared.obu.ObuType.TheVariants.{OBU_METADATA, OBU_FRAME, OBU_REDUNDANT_FRAME_HEADER, OBU_TILE_LIST, OBU_PADDING}
use Rattle.av1_frame.specs.declared.obu.ObuMetaType.{ObuMetaType}
use Rattle.av1_frame.specs.declared.obu.ObuMetaType.TheVariants.{OBU_META_HDR_CLL, OBU_META_HDR_MDCV}
use Rattle.av1_frame.specs.declared.obu.ObuMetaType.TheVariants.{OBU_META_SCALABILITY, OBU_META_ITUT_T35, OBU_META_TIMECODE}

-- obu_type
abbrev pub obu_type_number : ObuType → ℕ
obu_type_number OBU_SEQUENCE_HEADER = 1
obu_type_number OBU_TEMPORAL_DELIMITER = 2
obu_type_number OBU_FRAME_HEADER = 3
obu_type_number OBU_TILE_GROUP = 4
obu_type_number OBU_METADATA = 5
obu_type_number OBU_FRAME = 6
obu_type_number OBU_REDUNDANT_FRAME_HEADER = 7
obu_type_number OBU_TILE_LIST = 8
obu_type_number OBU_PADDING = 15

-- metadata_type
abbrev pub obu_meta_type_number : ObuMetaType → ℕ
obu_meta_type_number OBU_META_HDR_CLL = 1
obu_meta_type_number OBU_META_HDR_MDCV = 2
obu_meta_type_number OBU_META_SCALABILITY = 3
obu_meta_type_number OBU_META_ITUT_T35 = 4
obu_meta_type_number OBU_META_TIMECODE = 5
