-- The bytes of a unit: OBUs, of which each has a header, the length of its payload and the payload (AV1 specification 5.3).
use Rattle.std.specs.Prelude.{ℕ, ◌+◌, ◌-◌, ◌^◌, ◌++◌, List, [], ◌∷◌, Bool, true, max, map, take, length, nat_lt, slice_index_or, if◌then◌else◌}
use Rattle.std.specs.Int.{bytes_low_first}
use Rattle.std.specs.List.{flat_map}
use Rattle.av1_frame.specs.FrameKind.{is_key}
use Rattle.av1_frame.specs.Message.{Message}
use Rattle.av1_frame.specs.declared.metadata.Metadata.{Metadata}
use Rattle.av1_frame.specs.declared.metadata.Metadata.TheVariants.{Cll, Mdcv, T35}
use Rattle.av1_frame.specs.declared.obu.ObuMetaType.{ObuMetaType}
use Rattle.av1_frame.specs.declared.obu.ObuMetaType.TheVariants.{OBU_META_HDR_CLL, OBU_META_HDR_MDCV}
use Rattle.av1_frame.specs.declared.obu.ObuType.{ObuType}
use Rattle.av1_frame.specs.declared.obu.ObuType.TheVariants.{OBU_FRAME, OBU_METADATA, OBU_SEQUENCE_HEADER, OBU_TEMPORAL_DELIMITER}
use Rattle.av1_frame.specs.declared.sequence.Sequence.{Sequence}
use Rattle.av1_frame.specs.Obu.{obu_meta_type_number}
use Rattle.av1_header.specs.FrameHeader.{Frame, frame_of, header_of}
use Rattle.av1_header.specs.Metadata.{message_bytes, message_of, obu_header, sequence_metadata, t35_front, t35_metadata}
use Rattle.av1_header.specs.Rows.{Rows, joined, words}
use Rattle.av1_header.specs.SequenceHeader.{sequence_header}
use Rattle.av1_model.specs.Bits.{byte_aligned}
use Rattle.av1_model.specs.Codes.{leb128}
use Rattle.av1_model.specs.WholeBytes.{to_bytes}
use Rattle.av1_step.specs.Given.{Given}

-- an OBU of a kind: how many bytes its payload has, and all its bytes
pub record Obu : Type 0 where
  pub kind : ObuType
  pub size : ℕ
  pub bytes : List ℕ

-- the bits of the rows of a header
abbrev pub bits_of_rows : {S A : Type 0} → Rows S A → S → List Bool
bits_of_rows rows values = joined (words rows values)

-- the header of an OBU, and the length of its payload
unfoldable pub obu_head : ObuType → ℕ → List ℕ
obu_head kind size = to_bytes (bits_of_rows obu_header kind) ++ leb128 size

abbrev pub with_payload : ObuType → List ℕ → Obu
with_payload kind payload = record { kind = kind; size = length payload; bytes = obu_head kind (length payload) ++ payload }

-- the rows of a sequence header, a one bit, and zero bits up to a whole byte
unfoldable pub sequence_payload : Given → List ℕ
sequence_payload g = to_bytes (byte_aligned (bits_of_rows sequence_header g.fi ++ true ∷ []))

-- a metadata OBU, whose rows are those of its header, of the length of its payload and of its payload, up to a whole byte
abbrev pub of_rows : {S A : Type 0} → ℕ → Rows S A → S → Obu
of_rows size rows values = record { kind = OBU_METADATA; size = size; bytes = to_bytes (byte_aligned (bits_of_rows rows values)) }

-- the light or the display of a sequence
abbrev pub sequence_message : ObuMetaType → Sequence → Obu
sequence_message kind seq = of_rows (message_bytes (obu_meta_type_number kind) + 2) sequence_metadata (message_of kind seq)

abbrev pub t35_message : Message → Obu
t35_message m = of_rows (length m.payload + t35_front m.country_code) t35_metadata m

unfoldable pub message_obu : Sequence → Metadata → Obu
message_obu seq Cll = sequence_message OBU_META_HDR_CLL seq
message_obu seq Mdcv = sequence_message OBU_META_HDR_MDCV seq
message_obu seq (T35 m) = t35_message m

-- what a frame header is made from, where the size of a tile has so many bytes
abbrev pub frame_with : Given → ℕ → Frame
frame_with g size_bytes = frame_of g.fi (record g.fs { max_tile_size_bytes = size_bytes }) g.refs

-- the rows of a frame header, up to a whole byte
unfoldable pub frame_header : Given → ℕ → List ℕ
frame_header g size_bytes = to_bytes (byte_aligned (bits_of_rows (header_of g.fi) (frame_with g size_bytes)))

-- all but the last
abbrev pub but_last : {X : Type 0} → List X → List X
but_last xs = take (length xs - 1) xs

-- the greatest of numbers, or 0
abbrev pub greatest : List ℕ → ℕ
greatest [] = 0
greatest (n ∷ ns) = max n (greatest ns)

-- the least of 1 to 4 bytes that hold a number
abbrev pub bytes_for : ℕ → ℕ
bytes_for n = if nat_lt n (2 ^ 8) then 1 else if nat_lt n (2 ^ 16) then 2 else if nat_lt n (2 ^ 24) then 3 else 4

-- the size that is said of a tile of this length
abbrev pub size_of : ℕ → ℕ
size_of len = len - 1

-- how many bytes each size has, where tiles have these lengths: those for the greatest size, which is said of all but the last
unfoldable pub size_bytes : List ℕ → ℕ
size_bytes lens = bytes_for (greatest (map size_of (but_last lens)))

-- a tile behind its size, the lowest byte first
abbrev pub sized : ℕ → List ℕ → List ℕ
sized bytes tile = bytes_low_first 0 bytes (size_of (length tile)) ++ tile

-- one tile; or several, each but the last behind its size, and all behind a zero bit that fills a byte
unfoldable pub tile_group : ℕ → List (List ℕ) → List ℕ
tile_group bytes tiles =
    (if nat_lt 1 (length tiles) then 0 ∷ [] else [])
    ++ flat_map (sized bytes) (but_last tiles)
    ++ slice_index_or tiles (length tiles - 1) []

abbrev pub lengths_of : List (List ℕ) → List ℕ
lengths_of tiles = map (λ tile. length tile) tiles

-- the frame header, and then the tiles
abbrev pub frame_of_tiles : Given → ℕ → List (List ℕ) → List ℕ
frame_of_tiles g bytes tiles = frame_header g bytes ++ tile_group bytes tiles

unfoldable pub frame_payload : Given → List (List ℕ) → List ℕ
frame_payload g tiles = frame_of_tiles g (size_bytes (lengths_of tiles)) tiles

-- an OBU that is there on a condition
abbrev pub where_true : Bool → Obu → List Obu
where_true there obu = if there then obu ∷ [] else []

-- a temporal delimiter, where one is asked for
abbrev pub delimiter_obus : Given → List Obu
delimiter_obus g = where_true g.delimiter (with_payload OBU_TEMPORAL_DELIMITER [])

-- the sequence header, on a key frame
abbrev pub sequence_obus : Given → List Obu
sequence_obus g = where_true (is_key g.fi.frame_type) (with_payload OBU_SEQUENCE_HEADER (sequence_payload g))

-- the metadata in order
abbrev pub messages_of : Sequence → List Metadata → List Obu
messages_of seq messages = map (message_obu seq) messages

abbrev pub message_obus : Given → List Obu
message_obus g = messages_of g.fi.sequence g.metadata

abbrev pub frame_obus : Given → List (List ℕ) → List Obu
frame_obus g tiles = with_payload OBU_FRAME (frame_payload g tiles) ∷ []

-- the OBUs of a unit, of which the frame with its tiles is the last
unfoldable pub obus : Given → List (List ℕ) → List Obu
obus g tiles = delimiter_obus g ++ sequence_obus g ++ message_obus g ++ frame_obus g tiles

-- the bytes of OBUs, one after another
abbrev pub bytes_of_obus : List Obu → List ℕ
bytes_of_obus os = flat_map (λ o. o.bytes) os

unfoldable pub framed : Given → List (List ℕ) → List ℕ
framed g tiles = bytes_of_obus (obus g tiles)
