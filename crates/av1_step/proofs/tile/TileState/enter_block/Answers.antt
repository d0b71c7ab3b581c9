use Rattle.std.proofs.Common.{◌≡◌, Some, None, sym, ap, subst, ◌∙◌, is_none}
use Rattle.av1_blocks.specs.declared.block.Block.{Block as GridBlock}
use Rattle.av1_blocks.specs.Grid.{Grid, over}
use Rattle.av1_geometry.specs.declared.block_offset.BlockOffset.{BlockOffset}
use Rattle.av1_step.specs.declared.step.TileStep.TheVariants.{Block}
use Rattle.av1_step.specs.Kept.{IsKept}
use Rattle.av1_step.specs.State.{tile_of}
use Rattle.av1_step.specs.Step.{entered}
use Rattle.av1_step.proofs.StepLaws.{block_fits, kept_after}
use Rattle.av1_step.proofs.tile.TileState.enter_block.Goals as goal

pub set_block-requires : goal.set_block-requires
set_block-requires c =
    let b = block_fits record { x = c.args.x; y = c.args.y } c.args.size (tile_of c.args.self.now) (ap is_none c.requires) in
    record { column = b.column; row = b.row }

pub returns-clause-tile : goal.returns-clause-tile
returns-clause-tile c =
    let t = tile_of c.args.self.now in
    let bo : BlockOffset = record { x = c.args.x; y = c.args.y } in
    ap (λ (g : Grid). record t { bc = record t.bc { blocks = g }; current = Some (record { 0 = bo }, c.args.size); uv = None; cands = None; pick = 0 })
    (c.set_block.ensures ∙ ap (λ (b : GridBlock). over bo c.args.size (λ _. b) t.bc.blocks) c.new_block.ensures)

pub invariant_of-self : goal.invariant_of-self
invariant_of-self c =
    let t = tile_of c.args.self.now in
    let bo : BlockOffset = record { x = c.args.x; y = c.args.y } in
    let e : record t { bc = record t.bc { blocks = c.set_block.new.self }; current = Some (record { 0 = bo }, c.args.size); uv = None; cands = None; pick = 0 } ≡ entered (Block c.args.x c.args.y c.args.size) t =
    ap (λ (g : Grid). record t { bc = record t.bc { blocks = g }; current = Some (record { 0 = bo }, c.args.size); uv = None; cands = None; pick = 0 })
    (c.set_block.ensures ∙ ap (λ (b : GridBlock). over bo c.args.size (λ _. b) t.bc.blocks) c.new_block.ensures) in
    record { cdfs = c.args.self.now.cdfs; kept = subst IsKept (sym e) (kept_after (Block c.args.x c.args.y c.args.size) t.numbers t c.args.self.now.cdfs c.args.self.now.kept c.requires); switches = c.args.self.now.switches }
