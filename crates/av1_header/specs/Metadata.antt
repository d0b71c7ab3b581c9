-- The rows of OBU headers and of metadata OBUs of the AV1 specification (5.3.2, 5.8).
use Rattle.std.specs.Prelude.{◌≡◌, ◌⊎◌, IsSome, ℕ, ◌+◌, ◌-◌, List, [], ◌∷◌, Bool, ◌==◌, if◌then◌else◌, unwrap_or, codes, length, slice_index_or}
use Rattle.av1_frame.specs.Message.{Message}
use Rattle.av1_frame.specs.Obu.{obu_type_number, obu_meta_type_number}
use Rattle.av1_frame.specs.declared.obu.ObuType.{ObuType}
use Rattle.av1_frame.specs.declared.obu.ObuType.TheVariants.{OBU_METADATA}
use Rattle.av1_frame.specs.declared.obu.ObuMetaType.{ObuMetaType}
use Rattle.av1_frame.specs.declared.sequence.Sequence.{Sequence}
use Rattle.av1_frame.specs.declared.sequence.ContentLight.{ContentLight}
use Rattle.av1_frame.specs.declared.sequence.MasteringDisplay.{MasteringDisplay}
use Rattle.av1_frame.specs.declared.sequence.ChromaticityPoint.{ChromaticityPoint}
use Rattle.av1_header.specs.Rows.{Rows, f, leb, number, number_if, fixed, on, each, ◌>>=◌}
use Rattle.av1_header.specs.Rows.Rows.{Done}

-- obu_header(), of an OBU that says its size and has no extension
unfoldable pub obu_header : Rows ObuType ℕ
obu_header = do
  forbidden ← fixed (codes "obu_forbidden_bit") 1 0
  kind ← number (codes "obu_type") (f 4) (λ kind. obu_type_number kind)
  extension ← fixed (codes "obu_extension_flag") 1 0
  has_size ← fixed (codes "obu_has_size_field") 1 1
  fixed (codes "obu_reserved_1bit") 1 0

-- a metadata OBU of what a sequence says
pub record SequenceMessage : Type 0 where
  pub kind : ObuMetaType
  pub sequence : Sequence

abbrev pub point : ℕ → ℕ → ChromaticityPoint
point x y = record { x = x; y = y }

-- the light and the display that are written where a sequence has none
abbrev pub no_light : ContentLight
no_light = record { max_content_light_level = 0; max_frame_average_light_level = 0 }

abbrev pub no_display : MasteringDisplay
no_display = record { primaries = point 0 0 ∷ point 0 0 ∷ point 0 0 ∷ []; white_point = point 0 0; max_luminance = 0; min_luminance = 0 }

-- how many bytes the message has behind its kind
abbrev pub message_bytes : ℕ → ℕ
message_bytes kind = if kind == 1 then 4 else 24

-- metadata_hdr_cll(), where it is there
unfoldable pub content_light : Bool → Rows ContentLight ℕ
content_light there = do
  most ← number_if there (codes "max_cll") (f 16) (λ light. light.max_content_light_level)
  number_if there (codes "max_fall") (f 16) (λ light. light.max_frame_average_light_level)

unfoldable pub primary : Bool → Rows ChromaticityPoint (Unit {0})
primary there = do
  x ← number_if there (codes "primary_chromaticity_x") (f 16) (λ point. point.x)
  y ← number_if there (codes "primary_chromaticity_y") (f 16) (λ point. point.y)
  Done tt

unfoldable pub primaries : Bool → Rows MasteringDisplay (Unit {0})
primaries there = each 3 0 (λ i. on (λ display. slice_index_or display.primaries i (point 0 0)) (primary there))

-- metadata_hdr_mdcv(), where it is there
unfoldable pub mastering_display : Bool → Rows MasteringDisplay ℕ
mastering_display there = do
  colors ← primaries there
  x ← number_if there (codes "white_point_chromaticity_x") (f 16) (λ display. display.white_point.x)
  y ← number_if there (codes "white_point_chromaticity_y") (f 16) (λ display. display.white_point.y)
  most ← number_if there (codes "luminance_max") (f 32) (λ display. display.max_luminance)
  number_if there (codes "luminance_min") (f 32) (λ display. display.min_luminance)

-- metadata_obu() of the light or of the display, up to its alignment
unfoldable pub sequence_metadata : Rows SequenceMessage ℕ
sequence_metadata = do
  header ← on (λ _. OBU_METADATA) obu_header
  size ← number (codes "obu_size") leb (λ m. message_bytes (obu_meta_type_number m.kind) + 2)
  kind ← number (codes "metadata_type") leb (λ m. obu_meta_type_number m.kind)
  light ← on (λ m. unwrap_or m.sequence.content_light no_light) (content_light (kind == 1))
  display ← on (λ m. unwrap_or m.sequence.mastering_display no_display) (mastering_display (kind == 2))
  fixed (codes "trailing_one_bit") 1 1

-- the bytes of the OBU that are no payload: its kind, the country code and its extension, and the trailing bits
abbrev pub t35_front : ℕ → ℕ
t35_front country = if country == 255 then 4 else 3

unfoldable pub payload_byte : ℕ → Rows (List ℕ) (Unit {0})
payload_byte i = do
  byte ← number (codes "itu_t_t35_payload_byte") (f 8) (λ payload. slice_index_or payload i 0)
  Done tt

-- metadata_obu() of a message by ITU-T T.35, up to its alignment
unfoldable pub t35_metadata : Rows Message ℕ
t35_metadata = do
  header ← on (λ _. OBU_METADATA) obu_header
  size ← number (codes "obu_size") leb (λ m. length m.payload + t35_front m.country_code)
  kind ← number (codes "metadata_type") leb (λ _. 4)
  country ← number (codes "itu_t_t35_country_code") (f 8) (λ m. m.country_code)
  extension ← number_if (country == 255) (codes "itu_t_t35_country_code_extension_byte") (f 8) (λ m. m.country_code_extension_byte)
  bytes ← on (λ m. m.payload) (each (size - t35_front country) 0 payload_byte)
  fixed (codes "trailing_one_bit") 1 1

abbrev pub message_of : ObuMetaType → Sequence → SequenceMessage
message_of kind seq = record { kind = kind; sequence = seq }

-- the message is the light or the display, and the sequence says it
abbrev pub MessageFits : ℕ → Sequence → Type 0
MessageFits kind seq = (kind ≡ 1 × IsSome seq.content_light) ⊎ (kind ≡ 2 × IsSome seq.mastering_display)
