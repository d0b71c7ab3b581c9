-- The tiles of a valid unit are read back.
use Rattle.std.proofs.Common.{◌≡◌, ℕ, List, [], ◌∷◌, None, drop, length, refl, sym, ◌∙◌, ap, arith}
use Rattle.std.proofs.Math.Seq.{drop-append_seam}
use Rattle.std.proofs.lemmas.List.FromFn.{length-enumerate_from}
use Rattle.av1_model.proofs.Final.{length-final_bytes}
use Rattle.av1_step.specs.Given.{Given}
use Rattle.av1_tile.specs.TileBytes.{ending}
use Rattle.av1_unit.specs.Apart.{tiles_in}
use Rattle.av1_unit.specs.Coded.{Numbered, numbered, tiles_of}
use Rattle.av1_unit.specs.Findings.{first_refusal}
use Rattle.av1_unit.specs.Framing.{frame_header, frame_payload, tile_group}
use Rattle.av1_unit.specs.Lengths.{width_of}
use Rattle.av1_unit.specs.Plain.{PlainUnit}
use Rattle.av1_unit.proofs.Counts.{length-tiles}
use Rattle.av1_unit.proofs.ObuLengths.{short_frame}
use Rattle.av1_unit.proofs.TileGroups.{group_read, NoneEmpty}
use Rattle.av1_unit.proofs.TileSizes.{short_tiles, sizes_fit}
use Rattle.av1_unit.proofs.Written.{right_unit}

none_empty : (g : Given) (scripts : List Numbered) → NoneEmpty (tiles_of g scripts)
unfolding tiles_of
none_empty g [] = tt
none_empty g (s ∷ scripts) = (omega (arith, length-final_bytes (ending g s.0 s.1)), none_empty g scripts)

pub tiles_apart : (u : PlainUnit) → first_refusal u ≡ None → let tiles = tiles_of u.given (numbered u) in
    tiles_in (width_of tiles) (length u.scripts) (drop (length (frame_header u.given (width_of tiles))) (frame_payload u.given tiles)) ≡ tiles
unfolding frame_payload
tiles_apart u valid =
    let g = u.given in
    let tiles = tiles_of g (numbered u) in
    let width = width_of tiles in
    let right = right_unit u valid in
    let fit = sizes_fit width tiles refl (short_tiles g tiles (short_frame g tiles right.lengths)) in
    let count : length u.scripts ≡ length tiles = sym (length-tiles g (numbered u) ∙ length-enumerate_from 0 u.scripts) in
    ap (λ (l : List ℕ). tiles_in width (length u.scripts) l) (drop-append_seam (frame_header g width) (tile_group width tiles)) ∙ ap (λ n. tiles_in width n (tile_group width tiles)) count
    ∙ group_read width tiles (none_empty g (numbered u)) fit
