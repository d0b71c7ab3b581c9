-- The header of an OBU is one byte, and numbers in bytes are read back.
use Rattle.std.proofs.Common.{◌≡◌, ℕ, suc, zero, ◌+◌, ◌*◌, ◌<◌, [], ◌∷◌, All, length, refl, arith}
use Rattle.std.specs.Int.{byte_at, bytes_low_first}
use Rattle.std.proofs.lemmas.List.Elements.{All-cons}
use Rattle.av1_frame.specs.Obu.{obu_type_number}
use Rattle.av1_frame.specs.declared.obu.ObuType.{ObuType}
use Rattle.av1_frame.specs.declared.obu.ObuType.TheVariants.{OBU_FRAME, OBU_FRAME_HEADER, OBU_METADATA, OBU_PADDING, OBU_REDUNDANT_FRAME_HEADER, OBU_SEQUENCE_HEADER, OBU_TEMPORAL_DELIMITER, OBU_TILE_GROUP, OBU_TILE_LIST}
use Rattle.av1_header.specs.Metadata.{obu_header}
use Rattle.av1_header.specs.Rows.{number_or, ◌>>=◌}
use Rattle.av1_model.specs.Bits.{bits_of}
use Rattle.av1_model.specs.WholeBytes.{to_bytes}
use Rattle.av1_unit.specs.Framing.{bits_of_rows}

pub length-header : (kind : ObuType) → length (bits_of_rows obu_header kind) ≡ 8
unfolding obu_header number_or ◌>>=◌ bits_of
length-header OBU_SEQUENCE_HEADER = refl
length-header OBU_TEMPORAL_DELIMITER = refl
length-header OBU_FRAME_HEADER = refl
length-header OBU_TILE_GROUP = refl
length-header OBU_METADATA = refl
length-header OBU_FRAME = refl
length-header OBU_REDUNDANT_FRAME_HEADER = refl
length-header OBU_TILE_LIST = refl
length-header OBU_PADDING = refl

-- the kind, and a bit that says that the length follows
pub header_byte : (kind : ObuType) → to_bytes (bits_of_rows obu_header kind) ≡ (8 * obu_type_number kind + 2) ∷ []
unfolding obu_header number_or ◌>>=◌ bits_of
header_byte OBU_SEQUENCE_HEADER = refl
header_byte OBU_TEMPORAL_DELIMITER = refl
header_byte OBU_FRAME_HEADER = refl
header_byte OBU_TILE_GROUP = refl
header_byte OBU_METADATA = refl
header_byte OBU_FRAME = refl
header_byte OBU_REDUNDANT_FRAME_HEADER = refl
header_byte OBU_TILE_LIST = refl
header_byte OBU_PADDING = refl

small_byte : (i n : ℕ) → byte_at i n < 256
small_byte zero n = omega arith
small_byte (suc i) n = omega arith

pub low_bytes : (i k n : ℕ) → All (λ b. b < 256) (bytes_low_first i k n)
low_bytes i zero n = λ k d within. absurd (omega (arith, within))
low_bytes i (suc k) n = All-cons (λ b. b < 256) (byte_at i n) (bytes_low_first (suc i) k n) (small_byte i n) (low_bytes (suc i) k n)
