use Rattle.std.proofs.Common.{◌≡◌, refl, sym, ap, subst, ◌∙◌}
use Rattle.av1_blocks.specs.declared.block_context.BlockContext.{BlockContext}
use Rattle.av1_blocks.specs.Edges.{with_left_reset}
use Rattle.av1_step.specs.declared.step.TileStep.TheVariants.{RowStart}
use Rattle.av1_step.specs.Kept.{IsKept}
use Rattle.av1_step.specs.State.{tile_of}
use Rattle.av1_step.specs.Step.{entered}
use Rattle.av1_step.proofs.StepLaws.{kept_after}
use Rattle.av1_step.proofs.tile.TileState.enter_row.Goals as goal

pub invariant_of-self : goal.invariant_of-self
invariant_of-self c =
    let t = tile_of c.args.self.now in
    let e : record t { bc = c.reset_left_contexts.new.self } ≡ entered RowStart t = ap (λ (bc : BlockContext). record t { bc = bc }) (c.reset_left_contexts.ensures ∙ ap (λ n. with_left_reset n t.bc) c.planes-planes.ensures) in
    record { cdfs = c.args.self.now.cdfs; kept = subst IsKept (sym e) (kept_after RowStart t.numbers t c.args.self.now.cdfs c.args.self.now.kept refl); switches = c.args.self.now.switches }
