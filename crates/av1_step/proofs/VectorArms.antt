-- The states after steps of the vectors of inter blocks.
use Rattle.std.proofs.Common.{◌≡◌, ℕ, ◌<◌, ◌==◌, ◌⊎◌, inl, inr, List, Bool, true, false, ◌&&◌, ◌||◌, Some, Ok, set, refl, ap, ◌∙◌, arith}
use Rattle.std.proofs.lemmas.Bool.Decides.{nat_tests}
use Rattle.av1_blocks.specs.declared.block.Block.{Block}
use Rattle.av1_blocks.specs.declared.block_context.BlockContext.{BlockContext}
use Rattle.av1_blocks.specs.Block.{has_second_ref}
use Rattle.av1_blocks.specs.Grid.{Grid, over}
use Rattle.av1_cdf.specs.Context.{AreCdfs}
use Rattle.av1_ec.specs.declared.known.Known.{Ghosts}
use Rattle.av1_geometry.specs.declared.motion_vector.MotionVector.{MotionVector}
use Rattle.av1_geometry.specs.declared.prediction_mode.PredictionMode.{PredictionMode}
use Rattle.av1_mvref.specs.ExtraSearch.{Candidates, candidates}
use Rattle.av1_syntax.specs.InterModes.{is_among}
use Rattle.av1_step.specs.declared.tile.TileState.{TileState}
use Rattle.av1_step.specs.declared.step.TileStep.TheVariants.{MvRefs, Mv}
use Rattle.av1_step.specs.State.{tile_of, log_of}
use Rattle.av1_step.specs.Step.{entered}
use Rattle.av1_step.specs.Tile.{Tile, CurrentBlock, grid_block, place_of_block, size_of_block, with_numbers}
use Rattle.av1_step.specs.VectorSteps.{codes_first, codes_second, find, is_coded_list, mv_kind, mv_refs_kind, with_vector}
use Rattle.av1_step.specs.Writing.{Writes}
use Rattle.av1_step.proofs.Arms.{silent_wrote}
use Rattle.av1_step.proofs.OfCurrent.{current_entered, of_current_named}
use Rattle.av1_step.proofs.StepLaws.{IsAllowed}

-- the candidates are those that the references of the block at the current place give
pub refs_entered : (has_tr : Bool) (t : Tile) (b : CurrentBlock) (x : Block) (compound : Bool) (c : Candidates) → t.current ≡ Some b → x ≡ grid_block t b → compound ≡ has_second_ref x →
    c ≡ candidates t.bc.blocks (place_of_block b) (size_of_block b) x.ref_frames compound has_tr t.given.fi.ref_frame_sign_bias → record t { cands = Some c } ≡ entered (MvRefs has_tr) t
refs_entered has_tr t b x compound c current is pair found =
    let of = λ (y : Block) (two : Bool). candidates t.bc.blocks (place_of_block b) (size_of_block b) y.ref_frames two has_tr t.given.fi.ref_frame_sign_bias in
    ap (λ (d : Candidates). record t { cands = Some d }) (found ∙ ap (of x) pair ∙ ap (λ (y : Block). of y (has_second_ref y)) is)
    ∙ current_entered (find has_tr) (mv_refs_kind has_tr t) t.current b current t tt

-- nothing is coded of them
pub refs_wrote : {W E : Type 0} (writer : Ghosts W) (has_tr : Bool) (w : W) (old new : TileState) → IsAllowed (MvRefs has_tr) (tile_of old) → tile_of new ≡ entered (MvRefs has_tr) (tile_of old) → log_of new ≡ log_of old → AreCdfs (tile_of old).numbers →
    Writes {U = Unit {0}} {E = E} writer (Ok tt) (MvRefs has_tr) w w old new
refs_wrote writer has_tr w old new allowed tile log cdfs =
    let t = tile_of old in
    silent_wrote writer (MvRefs has_tr) (find has_tr) (mv_refs_kind has_tr t) w old new refl (of_current_named (find has_tr) (mv_refs_kind has_tr t) t.current (λ b. refl) tt) (λ b. refl) allowed tile log cdfs

-- there are two lists
one_of : (x y a b : Bool) → ((x && a) || (y && b)) ≡ true → (x ≡ true) ⊎ (y ≡ true)
one_of true y a b h = inl refl
one_of false true a b h = inr refl
one_of false false a b h = absurd cc

pub coded_list : (list : ℕ) (m : PredictionMode) → is_coded_list list m ≡ true → list < 2
coded_list list m h = elim (one_of (list == 0) (list == 1) (is_among codes_first m) (is_among codes_second m) h) [ inl e ↦ grind (arith, nat_tests) | inr e ↦ grind (arith, nat_tests) ]

-- a vector is entered over the block
pub mv_entered : (list : ℕ) (t : Tile) (fc : List ℕ) (b : CurrentBlock) (mv : MotionVector) (x : Block) (bc : BlockContext) (grid : Grid) → t.current ≡ Some b → x ≡ grid_block t b → bc ≡ t.bc →
    grid ≡ over (place_of_block b) (size_of_block b) (λ y. record y { mv = set x.mv list mv }) bc.blocks → record t { numbers = fc; bc = record bc { blocks = grid } } ≡ entered (Mv list mv) (with_numbers fc t)
mv_entered list t fc b mv x bc grid current is rest put =
    let u = with_numbers fc t in
    let bo = place_of_block b in
    let size = size_of_block b in
    ap (λ (c : BlockContext). record t { numbers = fc; bc = c })
    (ap (λ (g : Grid). record bc { blocks = g }) put
    ∙ ap (λ (z : Block). record bc { blocks = over bo size (λ y. record y { mv = set z.mv list mv }) bc.blocks }) is
    ∙ ap (λ (c : BlockContext). record c { blocks = over bo size (λ y. record y { mv = with_vector list t b mv }) c.blocks }) rest)
    ∙ current_entered (Mv list) (mv_kind list u) u.current b current u mv
