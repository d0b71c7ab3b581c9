-- What the headers of a unit say is read back from their bytes, value by value.
use Rattle.std.specs.Prelude.{◌≡◌, true, List, ℕ, All, Bool, Some}
use Rattle.av1_frame.specs.FrameKind.{is_key}
use Rattle.av1_frame.specs.declared.metadata.Metadata.{Metadata}
use Rattle.av1_frame.specs.declared.metadata.Metadata.TheVariants.{Cll, Mdcv, T35}
use Rattle.av1_frame.specs.declared.obu.ObuMetaType.TheVariants.{OBU_META_HDR_CLL, OBU_META_HDR_MDCV}
use Rattle.av1_frame.specs.declared.sequence.Sequence.{Sequence}
use Rattle.av1_header.specs.FrameHeader.{header_of}
use Rattle.av1_header.specs.Metadata.{message_of, sequence_metadata, t35_metadata}
use Rattle.av1_header.specs.RowReading.{read, values}
use Rattle.av1_header.specs.Rows.{Rows, told}
use Rattle.av1_header.specs.SequenceHeader.{sequence_header}
use Rattle.av1_model.specs.Bits.{bits_of_bytes}
use Rattle.av1_step.specs.Given.{Given}
use Rattle.av1_unit.specs.Framing.{frame_payload, frame_with, lengths_of, message_obu, sequence_payload, size_bytes}

-- bytes begin with a header: reading by its rows gives the value of each row that is there, and what the header tells
abbrev pub BeginWith : {S A : Type 0} → Rows S A → S → List ℕ → Type 0
BeginWith rows s bytes = (rest : List Bool) × (read rows (bits_of_bytes bytes) ≡ Some (record { values = values rows s; told = told rows s; rest = rest }))

-- the rows of a metadata OBU are those of its header, its length and its message
abbrev pub IsMessageIn : List ℕ → Sequence → Metadata → Type 0
IsMessageIn bytes seq Cll = BeginWith sequence_metadata (message_of OBU_META_HDR_CLL seq) bytes
IsMessageIn bytes seq Mdcv = BeginWith sequence_metadata (message_of OBU_META_HDR_MDCV seq) bytes
IsMessageIn bytes seq (T35 m) = BeginWith t35_metadata m bytes

abbrev pub IsMessageRead : Sequence → Metadata → Type 0
IsMessageRead seq m = IsMessageIn (message_obu seq m).bytes seq m

abbrev pub IsSequenceRead : Given → Type 0
IsSequenceRead g = BeginWith sequence_header g.fi (sequence_payload g)

-- the header says how many bytes the sizes of these tiles have
abbrev pub IsFrameRead : Given → List (List ℕ) → Type 0
IsFrameRead g tiles = BeginWith (header_of g.fi) (frame_with g (size_bytes (lengths_of tiles))) (frame_payload g tiles)

-- the sequence header, if there is one, each metadata OBU, and the frame header
pub record HeadersAreRead (g : Given) (tiles : List (List ℕ)) : Type 0 where
  pub sequence : is_key g.fi.frame_type ≡ true → IsSequenceRead g
  pub messages : All (IsMessageRead g.fi.sequence) g.metadata
  pub frame : IsFrameRead g tiles
