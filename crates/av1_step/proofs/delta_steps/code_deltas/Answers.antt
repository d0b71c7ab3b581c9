use Rattle.std.proofs.Common.{◌≡◌, sym, ap, subst}
use Rattle.av1_blocks.specs.declared.block.Block.{Block}
use Rattle.av1_blocks.specs.Grid.{block_at}
use Rattle.av1_syntax.specs.Deltas.{delta_count, AreDeltas}
use Rattle.av1_step.proofs.DeltaSteps.{as_before, deltas_here, deltas_wrote}
use Rattle.av1_step.proofs.delta_steps.code_deltas.Goals as goal

pub write_block_deblock_deltas-coded-requires-clause-deltas : goal.write_block_deblock_deltas-coded-requires-clause-deltas
write_block_deblock_deltas-coded-requires-clause-deltas g c =
    let grid = c.args.cw.now.bc.blocks in
    let bo = c.args.bo.0 in
    subst (AreDeltas 63 (delta_count c.args.multi c.args.planes)) (sym (deltas_here grid c.set_deblock_deltas.new.self bo c.args.deltas c.requires.whole c.requires.inside c.set_deblock_deltas.ensures)) c.requires.deltas

pub returns-clause-wrote : goal.returns-clause-wrote
returns-clause-wrote g c =
    let grid = c.args.cw.now.bc.blocks in
    let bo = c.args.bo.0 in
    deltas_wrote _ c.args.multi c.args.planes _ c.args.deltas _ _ (deltas_here grid c.set_deblock_deltas.new.self bo c.args.deltas c.requires.whole c.requires.inside c.set_deblock_deltas.ensures) c.write_block_deblock_deltas-coded.ensures.wrote

pub returns-clause-rest : goal.returns-clause-rest
returns-clause-rest g c =
    let old = c.args.cw.now.bc in
    let bo = c.args.bo.0 in
    let b = block_at old.blocks bo.x bo.y in
    let ds = c.at.result.now.deblock_deltas in
    let same : ds ≡ b.deblock_deltas = ap (λ (x : Block). x.deblock_deltas) c.at.ensures in
    as_before old c.write_block_deblock_deltas-coded.new.self.bc bo (λ x. record x { deblock_deltas = c.args.deltas }) (λ x. record x { deblock_deltas = ds }) c.set_deblock_deltas.new.self c.set_deblock_deltas-2.new.self
    c.requires.whole c.requires.inside c.set_deblock_deltas.ensures c.write_block_deblock_deltas-coded.ensures.rest c.set_deblock_deltas-2.ensures (ap (λ m. record b { deblock_deltas = m }) same)
