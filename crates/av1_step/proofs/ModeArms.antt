-- The states after steps of the modes of inter blocks.
use Rattle.std.proofs.Common.{◌≡◌, ℕ, List, Bool, true, false, if◌then◌else◌, refl, ap, ◌∙◌}
use Rattle.av1_blocks.specs.declared.block.Block.{Block}
use Rattle.av1_blocks.specs.declared.block_context.BlockContext.{BlockContext}
use Rattle.av1_blocks.specs.Grid.{Grid, covers, over}
use Rattle.av1_blocks.proofs.Places.{same, twice}
use Rattle.av1_geometry.specs.declared.block_offset.BlockOffset.{BlockOffset}
use Rattle.av1_geometry.specs.declared.block_size.BlockSize.{BlockSize}
use Rattle.av1_geometry.specs.declared.motion_vector.MotionVector.{MotionVector}
use Rattle.av1_geometry.specs.declared.prediction_mode.PredictionMode.{PredictionMode}
use Rattle.av1_step.specs.Effect.{changed_by_all}
use Rattle.av1_step.specs.Listed.{listed}
use Rattle.av1_step.specs.ModeSteps.{takes, vectors_of}
use Rattle.av1_step.specs.Tile.{Tile, CurrentBlock, place_of_block, size_of_block, with_numbers}

both_steps : (f h : Block → Block) (c : Bool) (x : Block) → (if c then h (if c then f x else x) else (if c then f x else x)) ≡ (if c then h (f x) else x)
both_steps f h true x = refl
both_steps f h false x = refl

-- a change over another of the same area
pub over_both : (bo : BlockOffset) (size : BlockSize) (f h : Block → Block) (g : Grid) → over bo size h (over bo size f g) ≡ over bo size (λ x. h (f x)) g
over_both bo size f h g =
    let first = λ (k : ℕ) (x : Block). if covers g bo size k then f x else x in
    let second = λ (k : ℕ) (x : Block). if covers g bo size k then h x else x in
    let all = λ (k : ℕ) (x : Block). if covers g bo size k then h (f x) else x in
    ap (λ (l : List Block). record g { frame = record g.frame { blocks = l } })
    (twice second first g.frame.blocks ∙ same (λ k x. second k (first k x)) all g.frame.blocks (λ k x. both_steps f h (covers g bo size k) x))

-- a mode, its vectors and the number of its candidate are entered
pub takes_entered : (t : Tile) (fc : List ℕ) (b : CurrentBlock) (m n : PredictionMode) (pick p : ℕ) (mvs : List MotionVector) (bc : BlockContext) (grid : Grid) → m ≡ n → pick ≡ p → mvs ≡ vectors_of (listed t) m pick → bc ≡ t.bc →
    grid ≡ over (place_of_block b) (size_of_block b) (λ x. record x { mode = m; mv = mvs }) bc.blocks →
    record t { numbers = fc; bc = record bc { blocks = grid }; pick = pick } ≡ changed_by_all (takes t b n p) (with_numbers fc t)
takes_entered t fc b m n pick p mvs bc grid mode is vectors rest set =
    let bo = place_of_block b in
    let size = size_of_block b in
    ap (λ (g : Grid). record t { numbers = fc; bc = record bc { blocks = g }; pick = pick }) set
    ∙ ap (λ (c : BlockContext). record t { numbers = fc; bc = record c { blocks = over bo size (λ (x : Block). record x { mode = m; mv = mvs }) c.blocks }; pick = pick }) rest
    ∙ ap (λ (v : List MotionVector). record t { numbers = fc; bc = record t.bc { blocks = over bo size (λ (x : Block). record x { mode = m; mv = v }) t.bc.blocks }; pick = pick }) vectors
    ∙ ap (λ (q : PredictionMode). changed_by_all (takes t b q pick) (with_numbers fc t)) mode
    ∙ ap (λ q. changed_by_all (takes t b n q) (with_numbers fc t)) is
