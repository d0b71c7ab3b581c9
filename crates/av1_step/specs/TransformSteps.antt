-- The steps of the sizes of transforms.
use Rattle.std.specs.Prelude.{◌^◌, ◌&&◌, [], ◌∷◌, Bool, not, nat_le, if◌then◌else◌}
use Rattle.av1_blocks.specs.declared.block.Block.{Block}
use Rattle.av1_blocks.specs.Block.{is_inter}
use Rattle.av1_blocks.specs.Edges.{tx_width, tx_height}
use Rattle.av1_blocks.specs.Grid.{block_at}
use Rattle.av1_geometry.specs.BlockSize.{number_of}
use Rattle.av1_geometry.specs.BlockTables.{max_tx_size}
use Rattle.av1_geometry.specs.Rules.{rule}
use Rattle.av1_geometry.specs.TxSize.{tx_width_log2, tx_height_log2}
use Rattle.av1_geometry.specs.declared.block_size.BlockSize.{BlockSize}
use Rattle.av1_geometry.specs.declared.tx_size.TxSize.{TxSize}
use Rattle.av1_model.specs.Element.{known}
use Rattle.av1_syntax.specs.TransformSizes.{halved, is_offered, tx_size_element, split_element}
use Rattle.av1_step.specs.declared.step.TileStep.{TileStep}
use Rattle.av1_step.specs.declared.step.TileStep.TheVariants.{TxNote, TxIntra, TxInter}
use Rattle.av1_step.specs.Effect.{Effect, Over, Transformed, SplitTransform}
use Rattle.av1_step.specs.IntraSteps.{is_intra}
use Rattle.av1_step.specs.Kind.{Kind, of_block}
use Rattle.av1_step.specs.Tile.{Tile, CurrentBlock, place_of_block, size_of_block}

-- what stands in the grid at the place of a block
abbrev pub standing_at : Tile → CurrentBlock → Block
standing_at t b = block_at t.bc.blocks (place_of_block b).x (place_of_block b).y

-- the edges get the sides of a block's transforms, or the block's own where it is an inter block without coefficients
abbrev pub noted : CurrentBlock → Block → Effect
noted b x =
    let whole = x.skip && is_inter x in
    Transformed (place_of_block b) (size_of_block b) (tx_width (size_of_block b) x.txsize whole) (tx_height (size_of_block b) x.txsize whole)

abbrev pub note : Unit {0} → TileStep
note a = TxNote

-- the transforms of a block are entered in the edges; nothing is coded
abbrev pub tx_note_kind : Tile → CurrentBlock → Kind (Unit {0})
tx_note_kind t b = of_block b [] (λ a. []) (known tt) (λ a. noted b (standing_at t b) ∷ []) note

-- the frame leaves it to blocks of this size how large their transforms are
abbrev pub has_tx_choice : Tile → BlockSize → Bool
has_tx_choice t size = t.given.fi.tx_mode_select && nat_le 1 (number_of size)

-- a block gets a size of transforms
abbrev pub gets_tx_size : CurrentBlock → TxSize → Effect
gets_tx_size b tx = Over (place_of_block b) (size_of_block b) (λ x. record x { txsize = tx })

-- the size of the transforms of an intra block
abbrev pub tx_intra_kind : Tile → CurrentBlock → Kind TxSize
tx_intra_kind t b =
    let bo = place_of_block b in
    let size = size_of_block b in
    of_block b (rule 66 (is_intra t b) ∷ rule 76 (has_tx_choice t size) ∷ []) (λ tx. rule 76 (is_offered (max_tx_size size) tx) ∷ [])
    (tx_size_element t.bc bo size)
    (λ tx. gets_tx_size b tx ∷ Transformed bo size (2 ^ tx_width_log2 tx) (2 ^ tx_height_log2 tx) ∷ []) TxIntra

-- the size of an inter block's transforms: the largest, or half of that where it is split
abbrev pub inter_tx_size : BlockSize → Bool → TxSize
inter_tx_size size split = if split then halved 1 (max_tx_size size) else max_tx_size size

-- whether the largest transform of an inter block is split
abbrev pub tx_inter_kind : Tile → CurrentBlock → Kind Bool
tx_inter_kind t b =
    let bo = place_of_block b in
    let size = size_of_block b in
    of_block b (rule 65 (not t.given.fi.intra_only) ∷ rule 66 (not (is_intra t b)) ∷ rule 76 (has_tx_choice t size && not (standing_at t b).skip) ∷ [])
    (λ split. []) (split_element t.bc bo size 0 0)
    (λ split. SplitTransform bo size split ∷ gets_tx_size b (inter_tx_size size split) ∷ []) TxInter
