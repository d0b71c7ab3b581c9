-- The states after steps of the sizes of transforms.
use Rattle.std.proofs.Common.{◌≡◌, ℕ, ◌*◌, ◌/◌, ◌^◌, ◌≤◌, List, Bool, false, ◌&&◌, Some, Result, Ok, Err, refl, ap, subst, ◌∙◌, arith}
use Rattle.std.specs.Prelude.{IsErr}
use Rattle.av1_blocks.specs.declared.block.Block.{Block}
use Rattle.av1_blocks.specs.declared.block_context.BlockContext.{BlockContext}
use Rattle.av1_blocks.specs.Block.{is_inter}
use Rattle.av1_blocks.specs.Edges.{tx_width, tx_height, with_tx_sides}
use Rattle.av1_blocks.specs.GoingBack.{IsWithin}
use Rattle.av1_blocks.specs.Grid.{Grid, over}
use Rattle.av1_blocks.specs.Places.{sb_column}
use Rattle.av1_cdf.specs.Context.{AreCdfs}
use Rattle.av1_ec.specs.declared.known.Known.{Ghosts}
use Rattle.av1_geometry.specs.BlockSize.{width_log2, height_log2, width_mi}
use Rattle.av1_geometry.specs.BlockTables.{max_tx_size}
use Rattle.av1_geometry.specs.TxSize.{tx_width_log2, tx_height_log2}
use Rattle.av1_geometry.specs.declared.block_offset.BlockOffset.{BlockOffset}
use Rattle.av1_geometry.specs.declared.block_size.BlockSize.{BlockSize}
use Rattle.av1_geometry.specs.declared.tx_size.TxSize.{TxSize}
use Rattle.av1_syntax.specs.TransformSizes.{entered_split, IsPlaced}
use Rattle.av1_step.specs.declared.tile.TileState.{TileState}
use Rattle.av1_step.specs.declared.step.TileStep.TheVariants.{TxNote, TxIntra, TxInter}
use Rattle.av1_step.specs.Kept.{IsBlock}
use Rattle.av1_step.specs.State.{tile_of, log_of}
use Rattle.av1_step.specs.Step.{entered}
use Rattle.av1_step.specs.Tile.{Tile, CurrentBlock, place_of_block, size_of_block, with_numbers}
use Rattle.av1_step.specs.TransformSteps.{standing_at, note, tx_note_kind, tx_intra_kind, inter_tx_size, tx_inter_kind}
use Rattle.av1_step.specs.Writing.{Writes}
use Rattle.av1_step.proofs.Arms.{silent_wrote}
use Rattle.av1_step.proofs.Effects.{side_within}
use Rattle.av1_step.proofs.OfCurrent.{current_entered, of_current_named}
use Rattle.av1_step.proofs.Splitting.{whole_wide, whole_high}
use Rattle.av1_step.proofs.StepLaws.{IsAllowed}

-- the error of a refusal
pub err_of : {U E : Type 0} (r : Result U E) → IsErr r → (e : E) × (r ≡ Err e)
err_of (Ok u) h = let z : ⊥ = cc in absurd z
err_of (Err e) h = (e, refl)

-- the transforms of the block that stands at the current place are entered in the edges
pub note_entered : (t : Tile) (b : CurrentBlock) (x : Block) (whole : Bool) (bc : BlockContext) → t.current ≡ Some b → x ≡ standing_at t b → whole ≡ (x.skip && is_inter x) →
    bc ≡ with_tx_sides (place_of_block b) (size_of_block b) (tx_width (size_of_block b) x.txsize whole) (tx_height (size_of_block b) x.txsize whole) t.bc → record t { bc = bc } ≡ entered TxNote t
note_entered t b x whole bc current is skipped sides =
    let bo = place_of_block b in
    let size = size_of_block b in
    ap (λ (c : BlockContext). record t { bc = c })
    (sides
    ∙ ap (λ (d : Bool). with_tx_sides bo size (tx_width size x.txsize d) (tx_height size x.txsize d) t.bc) skipped
    ∙ ap (λ (y : Block). with_tx_sides bo size (tx_width size y.txsize (y.skip && is_inter y)) (tx_height size y.txsize (y.skip && is_inter y)) t.bc) is)
    ∙ current_entered note (tx_note_kind t) t.current b current t tt

-- nothing is coded of it
pub note_wrote : {W E : Type 0} (writer : Ghosts W) (w : W) (old new : TileState) → IsAllowed TxNote (tile_of old) → tile_of new ≡ entered TxNote (tile_of old) → log_of new ≡ log_of old → AreCdfs (tile_of old).numbers →
    Writes {U = Unit {0}} {E = E} writer (Ok tt) TxNote w w old new
note_wrote writer w old new allowed tile log cdfs =
    let t = tile_of old in
    silent_wrote writer TxNote note (tx_note_kind t) w old new refl (of_current_named note (tx_note_kind t) t.current (λ b. refl) tt) (λ b. refl) allowed tile log cdfs

-- the size of an intra block's transforms is entered in the grid and in the edges
pub tx_intra_entered : (t : Tile) (fc : List ℕ) (b : CurrentBlock) (tx : TxSize) (bc edges : BlockContext) (grid : Grid) → t.current ≡ Some b → bc ≡ t.bc → grid ≡ over (place_of_block b) (size_of_block b) (λ x. record x { txsize = tx }) bc.blocks →
    edges ≡ with_tx_sides (place_of_block b) (size_of_block b) (tx_width (size_of_block b) tx false) (tx_height (size_of_block b) tx false) (record bc { blocks = grid }) → record t { numbers = fc; bc = edges } ≡ entered (TxIntra tx) (with_numbers fc t)
tx_intra_entered t fc b tx bc edges grid current rest set sides =
    let u = with_numbers fc t in
    let bo = place_of_block b in
    let size = size_of_block b in
    let f = λ (x : Block). record x { txsize = tx } in
    let with_sides = λ (c : BlockContext). with_tx_sides bo size (2 ^ tx_width_log2 tx) (2 ^ tx_height_log2 tx) c in
    ap (λ (c : BlockContext). record t { numbers = fc; bc = c })
    (sides ∙ ap (λ (g : Grid). with_sides (record bc { blocks = g })) set ∙ ap (λ (c : BlockContext). with_sides (record c { blocks = over bo size f c.blocks })) rest)
    ∙ current_entered TxIntra (tx_intra_kind u) u.current b current u tx

-- those of an inter block are
pub tx_inter_entered : (t : Tile) (fc : List ℕ) (b : CurrentBlock) (split : Bool) (tx : TxSize) (bc : BlockContext) (grid : Grid) → t.current ≡ Some b → tx ≡ inter_tx_size (size_of_block b) split →
    bc ≡ entered_split (place_of_block b) (size_of_block b) (max_tx_size (size_of_block b)) split t.bc → grid ≡ over (place_of_block b) (size_of_block b) (λ x. record x { txsize = tx }) bc.blocks →
    record t { numbers = fc; bc = record bc { blocks = grid } } ≡ entered (TxInter split) (with_numbers fc t)
tx_inter_entered t fc b split tx bc grid current is split_is set =
    let u = with_numbers fc t in
    let bo = place_of_block b in
    let size = size_of_block b in
    ap (λ (c : BlockContext). record t { numbers = fc; bc = c })
    (ap (λ (g : Grid). record bc { blocks = g }) set
    ∙ ap (λ (s : TxSize). record bc { blocks = over bo size (λ (x : Block). record x { txsize = s }) bc.blocks }) is
    ∙ ap (λ (c : BlockContext). record c { blocks = over bo size (λ (x : Block). record x { txsize = inter_tx_size size split }) c.blocks }) split_is)
    ∙ current_entered TxInter (tx_inter_kind u) u.current b current u split

-- a block and its largest transform are in one superblock
pub block_placed : (cols rows : ℕ) (bo : BlockOffset) (size : BlockSize) → IsBlock cols rows bo size → IsPlaced bo (max_tx_size size)
block_placed cols rows bo size b =
    let x = side_within (width_log2 size) bo.x bo.x b.width b.aligned.0 refl in
    let y = side_within (height_log2 size) bo.y bo.y b.height b.aligned.1 refl in
    let wide = whole_wide size in
    let high = whole_high size in
    record { column = omega (arith, x.start, x.end, wide); row = omega (arith, y.start, y.end, high) }

pub block_column : (cols rows : ℕ) (bo : BlockOffset) (size : BlockSize) → cols ≤ 1024 → IsBlock cols rows bo size → IsWithin (sb_column (sb_column bo.x)) bo.x (width_mi size)
block_column cols rows bo size few b =
    let once : 16 * (bo.x / 16) ≡ sb_column bo.x = omega (arith, b.column, few) in
    let twice : sb_column bo.x ≡ sb_column (sb_column bo.x) = omega arith in
    subst (λ k. IsWithin k bo.x (width_mi size)) (once ∙ twice) (side_within (width_log2 size) bo.x bo.x b.width b.aligned.0 refl)
