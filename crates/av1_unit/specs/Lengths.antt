-- How long the tiles of a unit are, by what is told of them, and what holds of bytes on their way.
use Rattle.std.specs.Prelude.{◌≡◌, ℕ, ◌*◌, ◌-◌, ◌^◌, ◌<◌, ◌≤◌, ◌+◌, [], List, Bool, map, length, slice_index_or, if◌then◌else◌}
use Rattle.av1_frame.specs.FrameKind.{is_key}
use Rattle.av1_model.specs.Bits.{IsByteAligned}
use Rattle.av1_model.specs.WholeBytes.{to_bytes}
use Rattle.av1_tile.specs.declared.report.TileReport.{TileReport}
use Rattle.av1_step.specs.Given.{Given}
use Rattle.av1_unit.specs.Framing.{Obu, lengths_of, size_bytes, size_of}

abbrev pub bytes_told : TileReport → ℕ
bytes_told told = told.bytes

-- tiles have the lengths that are told of them
abbrev pub HasLengths : List (List ℕ) → List TileReport → Type 0
HasLengths tiles told = lengths_of tiles ≡ map bytes_told told

-- how many bytes the sizes of these tiles have
abbrev pub width_of : List (List ℕ) → ℕ
width_of tiles = size_bytes (lengths_of tiles)

abbrev pub count_of : Bool → ℕ
count_of there = if there then 1 else 0

-- how many OBUs come before the frame
abbrev pub obus_before_frame : Given → ℕ
obus_before_frame g = count_of g.delimiter + count_of (is_key g.fi.frame_type) + length g.metadata

-- 1 to 4 bytes hold the size of each tile but the last
pub record SizesFit (bytes : ℕ) (tiles : List (List ℕ)) : Type 0 where
  pub some : 1 ≤ bytes
  pub few : bytes ≤ 4
  pub each : (k : ℕ) → k < length tiles - 1 → size_of (length (slice_index_or tiles k [])) < 2 ^ (8 * bytes)

-- the bits of an OBU, which are whole bytes
pub record IsMessage (bits : List Bool) (o : Obu) : Type 0 where
  pub whole : IsByteAligned bits
  pub is : to_bytes bits ≡ o.bytes
