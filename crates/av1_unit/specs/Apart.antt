-- Taking a unit apart, by nothing but its bytes: OBUs by their kinds and lengths, and tiles by their sizes.
use Rattle.std.specs.Prelude.{ℕ, zero, suc, ◌+◌, ◌*◌, ◌%◌, ◌/◌, ◌==◌, ◌&&◌, List, [], ◌∷◌, length, take, drop}
use Rattle.std.specs.Prelude.{nat_le, nat_lt, if◌then◌else◌, Option, Some, None, option_map, option_and_then}
use Rattle.av1_frame.specs.Obu.{obu_type_number}
use Rattle.av1_frame.specs.declared.obu.ObuType.TheVariants.{OBU_FRAME}
use Rattle.av1_model.specs.Codes.{leb128_read}
use Rattle.av1_unit.specs.Framing.{Obu, obu_head}

-- obu_header(), which is one byte where there is no extension: the kind of an OBU that says its length
abbrev pub kind_of_header : ℕ → Option ℕ
kind_of_header byte = if (byte % 8 == 2) && nat_lt byte 128 then Some (byte / 8) else None

-- what was taken from the front of bytes: the kind and the payload of an OBU, and the bytes behind it
pub record TakenObu : Type 0 where
  pub kind : ℕ
  pub payload : List ℕ
  pub rest : List ℕ

-- a payload of so many bytes, if there are so many
abbrev pub with_length : ℕ → ℕ × List ℕ → Option TakenObu
with_length kind r = if nat_le r.0 (length r.1) then Some (record { kind = kind; payload = take r.0 r.1; rest = drop r.0 r.1 }) else None

abbrev pub take_obu : List ℕ → Option TakenObu
take_obu [] = None
take_obu (byte ∷ bytes) = option_and_then (λ kind. option_and_then (with_length kind) (leb128_read bytes)) (kind_of_header byte)

-- the kinds and payloads of OBUs up to a frame, and the bytes behind it
pub record TakenUnit : Type 0 where
  pub obus : List (ℕ × List ℕ)
  pub rest : List ℕ

abbrev pub with_obu : ℕ × List ℕ → TakenUnit → TakenUnit
with_obu o u = record u { obus = o ∷ u.obus }

-- of so many OBUs at most
unfoldable pub take_unit : ℕ → List ℕ → Option TakenUnit
take_unit zero bytes = None
take_unit (suc n) bytes =
    option_and_then (λ o.
    if o.kind == obu_type_number OBU_FRAME then Some (record { obus = (o.kind, o.payload) ∷ []; rest = o.rest })
    else option_map (with_obu (o.kind, o.payload)) (take_unit n o.rest)) (take_obu bytes)

-- the payload of an OBU: what its header and length leave of its bytes
abbrev pub payload_of : Obu → List ℕ
payload_of o = drop (length (obu_head o.kind o.size)) o.bytes

abbrev pub kind_and_payload : Obu → ℕ × List ℕ
kind_and_payload o = (obu_type_number o.kind, payload_of o)

-- the number of bytes, the lowest first
abbrev pub low_first : List ℕ → ℕ
low_first [] = 0
low_first (b ∷ bs) = b + 256 * low_first bs

-- a tile of a size that stands before it in so many bytes, as its length less 1, and the bytes behind it
abbrev pub take_tile : ℕ → List ℕ → List ℕ × List ℕ
take_tile width bytes = let len = low_first (take width bytes) + 1 in (take len (drop width bytes), drop len (drop width bytes))

-- so many tiles, each but the last behind its size
abbrev pub take_tiles : ℕ → ℕ → List ℕ → List (List ℕ)
take_tiles width zero bytes = []
take_tiles width (suc zero) bytes = bytes ∷ []
take_tiles width (suc (suc n)) bytes = let r = take_tile width bytes in r.0 ∷ take_tiles width (suc n) r.1

-- the tiles of a tile group: the only one, or several behind a byte
abbrev pub tiles_in : ℕ → ℕ → List ℕ → List (List ℕ)
tiles_in width count bytes = take_tiles width count (drop (if nat_lt 1 count then 1 else 0) bytes)
