-- The states after steps for filters, segments and palettes.
use Rattle.std.proofs.Common.{◌≡◌, ℕ, ◌^◌, ◌≤◌, List, Bool, true, false, Some, None, Result, Ok, Err, refl, sym, ap, subst, ◌∙◌}
use Rattle.av1_blocks.specs.declared.block.Block.{Block}
use Rattle.av1_blocks.specs.declared.block_context.BlockContext.{BlockContext}
use Rattle.av1_blocks.specs.Grid.{Grid, over}
use Rattle.av1_ec.specs.declared.known.Known.{Ghosts}
use Rattle.av1_geometry.specs.Rules.{first_broken}
use Rattle.av1_geometry.specs.declared.block_size.BlockSize.{BlockSize}
use Rattle.av1_model.specs.Comes.{Standing, Wrote}
use Rattle.av1_syntax.specs.Palette.{palette_element}
use Rattle.av1_syntax.specs.Calls.{Context, Moving, coded_in, context_of, learnt_in, stands}
use Rattle.av1_step.specs.declared.tile.TileState.{TileState}
use Rattle.av1_step.specs.declared.step.TileStep.{TileStep}
use Rattle.av1_step.specs.declared.step.TileStep.TheVariants.{Cdef}
use Rattle.av1_step.specs.Effect.{Effect, changed_by_all}
use Rattle.av1_step.specs.FilterSteps.{cdef_kind}
use Rattle.av1_step.specs.Kind.{Kind, steps, rules_of}
use Rattle.av1_step.specs.State.{tile_of, log_of}
use Rattle.av1_step.specs.Step.{entered, question_of, syntax_of}
use Rattle.av1_step.specs.Tile.{Tile, CurrentBlock, place_of_block, size_of_block, with_numbers}
use Rattle.av1_step.specs.Writing.{Writes}
use Rattle.av1_step.proofs.Arms.{writes_whole, writes_front}
use Rattle.av1_step.proofs.OfCurrent.{current_effects}

-- an index of the filter is entered over the block, and it is known that the superblock has one
pub cdef_entered : (t : Tile) (fc : List ℕ) (b : CurrentBlock) (i : ℕ) (bc : BlockContext) (grid : Grid) → t.current ≡ Some b → bc ≡ t.bc → grid ≡ over (place_of_block b) (size_of_block b) (λ (x : Block). record x { cdef_index = i }) bc.blocks →
    record t { numbers = fc; bc = record bc { blocks = grid; cdef_coded = true } } ≡ entered (Cdef i) (with_numbers fc t)
cdef_entered t fc b i bc grid current rest set =
    let u = with_numbers fc t in
    let f = λ (x : Block). record x { cdef_index = i } in
    ap (λ (g : Grid). record t { numbers = fc; bc = record bc { blocks = g; cdef_coded = true } }) set
    ∙ ap (λ (c : BlockContext). record t { numbers = fc; bc = record c { blocks = over (place_of_block b) (size_of_block b) f c.blocks; cdef_coded = true } }) rest
    ∙ sym (ap (λ (es : List Effect). changed_by_all es u) (current_effects Cdef (cdef_kind u) u.current b i current))

-- where only the numbers changed
pub only_numbers : (t : Tile) (fc : List ℕ) (bc : BlockContext) → bc ≡ t.bc → record t { numbers = fc; bc = bc } ≡ with_numbers fc t
only_numbers t fc bc rest = ap (λ (c : BlockContext). record t { numbers = fc; bc = c }) rest

-- a step that changes nothing is written, or refused
pub writes_same : {W A U E : Type 0} (writer : Ghosts W) (r : Result U E) (step : TileStep) (k : Kind A) (a : A) (w later : W) (old new : TileState) (most : ℕ) → steps k ≡ syntax_of (question_of step) (tile_of old) → k.step a ≡ step
    → first_broken (rules_of k a) ≡ None → Wrote coded_in learnt_in r k.element.tree a (stands writer w old.cw) (stands writer later new.cw)
    → tile_of new ≡ with_numbers (tile_of new).numbers (tile_of old) → entered step (with_numbers (tile_of new).numbers (tile_of old)) ≡ with_numbers (tile_of new).numbers (tile_of old)
    → most ≤ 2 ^ 24 → Moving writer most w later (log_of old) (log_of new) (context_of old.cw) (context_of new.cw) → Writes writer r step w later old new
writes_same writer (Ok v) step k a w later old new most tree named allowed wrote tile none few moves =
    writes_whole writer (Ok v) v refl step k a w later old new most tree named allowed wrote (tile ∙ sym none) few moves
writes_same writer (Err e) step k a w later old new most tree named allowed wrote tile none few moves =
    writes_front writer (Err e) e refl step k a w later old new most tree named allowed wrote tile few moves

-- a palette that was not coded, by other names of what is asked
pub palette_as : {U E : Type 0} (r : Result U E) (size : BlockSize) (luma chroma l h on : Bool) (from to : Standing Context) → luma ≡ l → chroma ≡ h → on ≡ false → Wrote coded_in learnt_in r (palette_element luma chroma size).tree false from to →
    Wrote coded_in learnt_in r (palette_element l h size).tree on from to
palette_as r size luma chroma l h on from to first second none w =
    subst (λ x. Wrote coded_in learnt_in r (palette_element l h size).tree x from to) (sym none)
    (subst (λ x. Wrote coded_in learnt_in r (palette_element l x size).tree false from to) second (subst (λ x. Wrote coded_in learnt_in r (palette_element x chroma size).tree false from to) first w))
