-- The segments of blocks, which are coded by their distance from a prediction.
use Rattle.std.specs.Prelude.{ℕ, ◌+◌, ◌-◌, ◌*◌, ◌/◌, ◌%◌, ◌≡◌, ◌≤◌, ◌==◌, ◌&&◌, ◌||◌, [], ◌∷◌, min}
use Rattle.std.specs.Prelude.{nat_eq, nat_le, nat_lt, Bool, true, false, if◌then◌else◌, Some, None, codes, Result}
use Rattle.av1_blocks.specs.declared.block_context.BlockContext.{BlockContext}
use Rattle.av1_blocks.specs.Grid.{Grid, block_at, over}
use Rattle.av1_cdf.specs.Distribution.{Distribution}
use Rattle.av1_geometry.specs.declared.block_offset.BlockOffset.{BlockOffset}
use Rattle.av1_geometry.specs.declared.block_size.BlockSize.{BlockSize}
use Rattle.av1_ec.specs.declared.known.Known.{Ghosts}
use Rattle.av1_model.specs.Element.{Element, known, symbol, choose}
use Rattle.av1_syntax.specs.Calls.{adaptive, Coded}
use Rattle.av1_syntax.specs.declared.context_writer.ContextWriter.{ContextWriter}

-- the number of x among the n from 0 on: those around r come first, above and below it in turn, and then the others, the nearest first
abbrev pub interleaved : ℕ → ℕ → ℕ → ℕ
interleaved n r x =
    if nat_le (x - r + (r - x)) (min r (n - 1 - r)) then (if nat_lt r x then 2 * (x - r) - 1 else 2 * (r - x))
    else if nat_lt (2 * r) n then x else n - 1 - x

-- the one with a number: neg_deinterleave() of the AV1 specification
abbrev pub deinterleaved : ℕ → ℕ → ℕ → ℕ
deinterleaved n r s =
    if nat_le s (2 * min r (n - 1 - r)) then (if nat_eq (s % 2) 1 then r + (s + 1) / 2 else r - s / 2)
    else if nat_lt (2 * r) n then s else n - 1 - s

-- a segment at an offset of columns and rows before a place
abbrev pub segment_before : Grid → BlockOffset → ℕ → ℕ → ℕ
segment_before g bo dx dy = (block_at g (bo.x - dx) (bo.y - dy)).segmentation_idx

-- what the segments above and to the left predict: the one above if it is that above and to the left too, else the one to the left
abbrev pub predicted_segment : Grid → BlockOffset → ℕ → ℕ
predicted_segment g bo last =
    let left = segment_before g bo 1 0 in
    let above = segment_before g bo 0 1 in
    min last
    (if bo.x == 0 then (if bo.y == 0 then 0 else above) else if bo.y == 0 then left else if nat_eq (segment_before g bo 1 1) above then above else left)

-- how many of the pairs of three segments agree, where three count as 2
abbrev pub agreement : ℕ → ℕ → ℕ → ℕ
agreement corner above left =
    if nat_eq corner above && nat_eq corner left then 2 else if nat_eq corner above || nat_eq corner left || nat_eq above left then 1 else 0

-- how far those above and to the left agree: 0 where one is missing
abbrev pub segment_context : Grid → BlockOffset → ℕ
segment_context g bo =
    if bo.x == 0 || bo.y == 0 then 0 else agreement (segment_before g bo 1 1) (segment_before g bo 0 1) (segment_before g bo 1 0)

-- the segment of a block, up to the last one that is used; of a skipped block it is the predicted one
abbrev pub segment_of : Grid → BlockOffset → Bool → ℕ → ℕ
segment_of g bo skip last = if skip then predicted_segment g bo last else (block_at g bo.x bo.y).segmentation_idx

abbrev pub segment_element : Grid → BlockOffset → Bool → ℕ → Element Distribution ℕ
segment_element g bo skip last =
    let r = predicted_segment g bo last in
    choose skip (known r)
    (symbol (adaptive (codes "spatial_segmentation_cdfs") (segment_context g bo ∷ []))
    (λ s. if nat_lt s (last + 1) then Some (deinterleaved (last + 1) r s) else None) (interleaved (last + 1) r))

-- they went the path of the segment of a block, or its beginning
abbrev pub SegmentCoded : {W U E : Type 0} → Ghosts W → Result U E → Grid → BlockOffset → Bool → ℕ → W → W → ContextWriter → ContextWriter → Type 0
SegmentCoded known r g bo skip last w u old new = Coded known r (segment_element g bo skip last) (segment_of g bo skip last) w u old new

-- a segment that a block may have
abbrev pub IsSegment : Grid → BlockOffset → Bool → ℕ → ℕ → Type 0
IsSegment g bo true last a = a ≡ predicted_segment g bo last
IsSegment g bo false last a = a ≤ last

-- a skipped block gets the predicted segment, over its part inside the tile
abbrev pub entered_segment : BlockOffset → BlockSize → Bool → ℕ → BlockContext → BlockContext
entered_segment bo size skip last bc =
    if skip then record bc { blocks = over bo size (λ b. record b { segmentation_idx = predicted_segment bc.blocks bo last }) bc.blocks }
    else bc
