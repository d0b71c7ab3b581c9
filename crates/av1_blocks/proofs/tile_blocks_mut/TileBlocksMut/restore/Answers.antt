use Rattle.std.proofs.Common.{◌≡◌, ◌+◌, ◌-◌, ◌*◌, ◌/◌, ◌%◌, ℕ, List, get_or, if◌then◌else◌, min, sym, ap, ◌∙◌, arith}
use Rattle.av1_geometry.specs.declared.block_size.BlockSize.TheVariants.{BLOCK_64X64}
use Rattle.av1_blocks.specs.declared.area.Area.{Area}
use Rattle.av1_blocks.specs.declared.block.Block.{Block}
use Rattle.av1_blocks.specs.declared.block.TheConstants.Block.{DEFAULT}
use Rattle.av1_blocks.specs.Area.{area_of, put_area}
use Rattle.av1_blocks.specs.Grid.{Frame, Grid, covers, tile, with_blocks}
use Rattle.av1_blocks.specs.Places.{changed}
use Rattle.av1_blocks.specs.Saved.{Saved, with_saved}
use Rattle.av1_blocks.proofs.tile_blocks_mut.TileBlocksMut.restore.Goals as goal

pub returns : goal.returns
returns c =
    let i = c.self.inside in
    let g = tile i.frame i.x i.y i.cols i.rows in
    let cols = i.frame.frame_cols in
    let bo = c.saved.inside.place.0 in
    let items = c.saved.inside.blocks.items in
    let with_frame : Frame → Grid = λ f. tile f i.x i.y i.cols i.rows in
    let put : Area → List Block → Grid = λ a bs. with_frame (with_blocks (put_area a cols bs i.frame.blocks) i.frame) in
    let in_rows_of : ℕ → Grid = λ width. with_frame (with_blocks
    (changed (λ k b. if covers g bo BLOCK_64X64 k then get_or items ((k / cols - (i.y + bo.y)) * width + (k % cols - (i.x + bo.x))) DEFAULT else b) i.frame.blocks)
    i.frame) in
    let same : c.as_const.result ≡ g = let e = c.as_const.ensures in let v = c.self.view_is in cc in
    let area = c.area-area.ensures.value ∙ ap (λ (v : Grid). area_of v bo BLOCK_64X64) same in
    let columns = ap (λ (s : Saved). s.cols) c.saved.view_is ∙ c.requires.cols ∙ sym (ap (λ (v : Grid). v.cols) c.self.view_is) in
    let width : i.x + min (bo.x + 16) i.cols - (i.x + bo.x) ≡ min (c.saved.inside.cols - bo.x) 16 = omega (arith, columns) in
    ap with_frame c.put.ensures
    ∙ ap (λ (a : Area). put a c.deref.result.now) area
    ∙ ap (λ (bs : List Block). put (area_of g bo BLOCK_64X64) bs) c.deref.ensures.value
    ∙ ap in_rows_of width
    ∙ ap (λ (s : Saved). with_saved s g) c.saved.view_is
    ∙ ap (λ (v : Grid). with_saved c.args.saved.now v) c.self.view_is
