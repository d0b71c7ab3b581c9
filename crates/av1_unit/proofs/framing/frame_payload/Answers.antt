use Rattle.std.proofs.Common.{◌++◌, List, ℕ, ap, ◌∙◌, subst}
use Rattle.av1_header.specs.FrameHeader.{header_of}
use Rattle.av1_step.specs.Given.{given_of}
use Rattle.av1_unit.specs.Framing.{frame_header, frame_payload, frame_with, tile_group}
use Rattle.av1_unit.specs.HeaderReading.{BeginWith}
use Rattle.av1_unit.proofs.HeaderBytes.{rows_read}
use Rattle.av1_unit.proofs.TileSizes.{short_tiles, sizes_fit, width_fits}
use Rattle.av1_unit.proofs.framing.frame_payload.Goals as goal

pub frame_header-requires-clause-width : goal.frame_header-requires-clause-width
frame_header-requires-clause-width c = width_fits c.args.width c.args.tiles.now c.requires.width

pub push_tiles-requires-clause-fits : goal.push_tiles-requires-clause-fits
push_tiles-requires-clause-fits c = sizes_fit c.args.width c.args.tiles.now c.requires.width (short_tiles (given_of c.args.unit.now) c.args.tiles.now c.requires.short)

pub returns-clause-is : goal.returns-clause-is
unfolding frame_payload
returns-clause-is c =
    let g = given_of c.args.unit.now in
    let tiles = c.args.tiles.now in
    c.in_ok-push_tiles.ensures ∙ ap (λ (l : List ℕ). l ++ tile_group c.args.width tiles) c.in_ok-bytes.ensures.is ∙ ap (λ w. frame_header g w ++ tile_group w tiles) c.requires.width

pub returns-clause-header : goal.returns-clause-header
unfolding frame_payload frame_header
returns-clause-header c =
    let g = given_of c.args.unit.now in
    let tiles = c.args.tiles.now in
    subst (λ w. BeginWith (header_of g.fi) (frame_with g w) (frame_header g w ++ tile_group w tiles)) c.requires.width
    (rows_read (header_of g.fi) (frame_with g c.args.width) (tile_group c.args.width tiles) c.in_ok-bytes.ensures.back)
