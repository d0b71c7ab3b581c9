use Rattle.std.proofs.Common.{◌+◌, ◌*◌, ◌/◌, ◌%◌, ◌<◌, ◌∙◌, length, take, drop, false, ap, sym, subst, arith}
use Rattle.av1_blocks.specs.Grid.{Grid}
use Rattle.av1_blocks.specs.declared.block_context.BlockContext.{BlockContext}
use Rattle.av1_geometry.specs.declared.block_offset.BlockOffset.{BlockOffset}
use Rattle.av1_model.specs.Comes.{Comes, Writes, Begins}
use Rattle.av1_model.proofs.ComesLaws.{wrote_err}
use Rattle.av1_syntax.specs.Calls.{stands, coded_in, learnt_in}
use Rattle.av1_syntax.specs.TransformSizes.{parts_of, part_element, parts_element, entered_tx, IsPlaced}
use Rattle.av1_syntax.proofs.Splits.{columns_are, rows_are, parts_long, part_at, part_placed, parts_step, parts_begun, entered_step, parts_end, entered_end, entered_blocks, parts_few_as, on_err}
use Rattle.av1_syntax.proofs.Moving.{moves_then, moves_as}
use Rattle.av1_syntax.proofs.context_writer.ContextWriter.write_parts.Goals as goal

pub write_part-requires-clause-few : goal.write_part-requires-clause-few
write_part-requires-clause-few g c =
    let e = ap (λ (bc : BlockContext). bc.blocks.cols) c.loop-k.invariant.entered ∙ ap (λ (g : Grid). g.cols) (entered_blocks c.args.bo.0 c.args.part (take c.loop-k.k (parts_of c.args.bsize c.args.part)) c.args.self.now.bc) in
    omega (arith, e, c.requires.few)

pub write_part-requires-clause-placed : goal.write_part-requires-clause-placed
write_part-requires-clause-placed g c inside =
    let size = c.args.bsize in
    let part = c.args.part in
    let bo = c.args.bo.0 in
    let ps = parts_of size part in
    let counts = c.part_counts-columns in
    let m = counts.result.0 in
    let n = counts.result.1 in
    subst (λ (b : BlockOffset). IsPlaced b part) (sym c.part_place-place.ensures) (part_placed size part c.requires.size c.requires.width c.requires.height m n counts.ensures.columns counts.ensures.rows c.loop-k.k c.loop-k-test.true bo c.requires.placed)

pub write_part-requires-clause-shift : goal.write_part-requires-clause-shift
write_part-requires-clause-shift g c =
    let size = c.args.bsize in
    let part = c.args.part in
    let bo = c.args.bo.0 in
    let ps = parts_of size part in
    let counts = c.part_counts-columns in
    let m = counts.result.0 in
    let n = counts.result.1 in
    let long = counts.ensures.all in
    let few = counts.ensures.few in
    let near = c.loop-k.invariant.moves.near in
    omega (arith, few, near, c.loop-k-test.true, c.requires.shift)

pub loop-k-preserved : goal.loop-k-preserved
loop-k-preserved g c =
    let size = c.args.bsize in
    let part = c.args.part in
    let bo = c.args.bo.0 in
    let ps = parts_of size part in
    let counts = c.part_counts-columns in
    let m = counts.result.0 in
    let n = counts.result.1 in
    let k = c.loop-k.k in
    let at = part_at size part c.requires.size c.requires.width c.requires.height m n counts.ensures.columns counts.ensures.rows k c.loop-k-test.true in
    let long = counts.ensures.all in
    let before : k < length ps = omega (arith, long, c.loop-k-test.true) in
    let place = c.part_place-place.ensures in
    let old = stands g.W.Known c.args.w.now c.args.self.now in
    let mid = stands g.W.Known c.loop-k.w c.loop-k.self in
    let new = stands g.W.Known c.write_part.new.w c.write_part.new.self in
    let bc = c.loop-k.self.bc in
    let wrote = subst (λ (b : BlockOffset). Writes coded_in learnt_in (part_element bc b size part (k % m) (k / m)).tree false mid new) place c.in_ok-write_part.ensures.wrote in
    let came = parts_step bo size part ps k (k % m, k / m) at before (parts_element bo size part ps c.args.self.now.bc).tree bc old mid new c.loop-k.invariant.came wrote in
    let entered = c.in_ok-write_part.ensures.entered ∙ ap (λ (b : BlockOffset). entered_tx b part bc) place in
    record {
      came = subst (λ (x : BlockContext). Comes coded_in learnt_in (parts_element bo size part ps c.args.self.now.bc).tree (parts_element bo size part (drop (k + 1) ps) x).tree old new) (sym entered) came;
      moves = moves_then g.W.Known (13 * k) 13 (13 * (k + 1)) _ _ _ _ _ _ _ _ _ (omega arith) c.loop-k.invariant.moves c.in_ok-write_part.ensures.moves;
      entered = entered ∙ entered_step bo size part ps k (k % m, k / m) at before (parts_element bo size part ps c.args.self.now.bc).tree bc old mid new c.loop-k.invariant.came c.args.self.now.bc c.loop-k.invariant.entered;
    }

pub returns-in_err-write_part-clause-wrote : goal.returns-in_err-write_part-clause-wrote
returns-in_err-write_part-clause-wrote g c =
    let size = c.args.bsize in
    let part = c.args.part in
    let bo = c.args.bo.0 in
    let ps = parts_of size part in
    let counts = c.part_counts-columns in
    let m = counts.result.0 in
    let n = counts.result.1 in
    let k = c.loop-k.k in
    let at = part_at size part c.requires.size c.requires.width c.requires.height m n counts.ensures.columns counts.ensures.rows k c.loop-k-test.true in
    let long = counts.ensures.all in
    let before : k < length ps = omega (arith, long, c.loop-k-test.true) in
    let place = c.part_place-place.ensures in
    let old = stands g.W.Known c.args.w.now c.args.self.now in
    let mid = stands g.W.Known c.loop-k.w c.loop-k.self in
    let new = stands g.W.Known c.write_part.new.w c.write_part.new.self in
    let bc = c.loop-k.self.bc in
    let begun = subst (λ (b : BlockOffset). Begins coded_in learnt_in (part_element bc b size part (k % m) (k / m)).tree false mid new) place c.in_err-write_part.ensures.wrote in
    wrote_err coded_in learnt_in c.from_residual.result _ _ old new c.from_residual.ensures.0
    (parts_begun bo size part ps k (k % m, k / m) at before (parts_element bo size part ps c.args.self.now.bc).tree bc old mid new c.loop-k.invariant.came c.requires.size c.requires.larger begun)

pub returns-in_err-write_part-clause-moves : goal.returns-in_err-write_part-clause-moves
returns-in_err-write_part-clause-moves g c =
    let size = c.args.bsize in
    let part = c.args.part in
    let bo = c.args.bo.0 in
    let ps = parts_of size part in
    let counts = c.part_counts-columns in
    let m = counts.result.0 in
    let n = counts.result.1 in
    let long = counts.ensures.all in
    let few = counts.ensures.few in
    moves_then g.W.Known (13 * c.loop-k.k) 13 52 _ _ _ _ _ _ _ _ _ (omega (arith, few, c.loop-k-test.true)) c.loop-k.invariant.moves c.in_err-write_part.ensures.moves

pub returns-in_err-write_part-clause-refused : goal.returns-in_err-write_part-clause-refused
returns-in_err-write_part-clause-refused g c =
    let size = c.args.bsize in
    let part = c.args.part in
    let bo = c.args.bo.0 in
    let ps = parts_of size part in
    let counts = c.part_counts-columns in
    let m = counts.result.0 in
    let n = counts.result.1 in
    let long = counts.ensures.all in
    on_err c.from_residual.result _ c.from_residual.ensures.0 (c.loop-k.k, omega (arith, long, c.loop-k-test.true), c.in_err-write_part.ensures.refused ∙ c.loop-k.invariant.entered)

pub returns-clause-wrote : goal.returns-clause-wrote
returns-clause-wrote g c =
    let size = c.args.bsize in
    let part = c.args.part in
    let bo = c.args.bo.0 in
    let ps = parts_of size part in
    let counts = c.part_counts-columns in
    let m = counts.result.0 in
    let n = counts.result.1 in
    let old = stands g.W.Known c.args.w.now c.args.self.now in
    let new = stands g.W.Known c.loop-k.w c.loop-k.self in
    let long = counts.ensures.all in
    parts_end bo size part ps c.loop-k.k (parts_element bo size part ps c.args.self.now.bc).tree c.loop-k.self.bc old new (omega (arith, long, c.loop-k-test.false, c.loop-k.auto.k-end)) c.loop-k.invariant.came

pub returns-clause-moves : goal.returns-clause-moves
returns-clause-moves g c =
    let size = c.args.bsize in
    let part = c.args.part in
    let bo = c.args.bo.0 in
    let ps = parts_of size part in
    let counts = c.part_counts-columns in
    let m = counts.result.0 in
    let n = counts.result.1 in
    let long = counts.ensures.all in
    let few = counts.ensures.few in
    moves_as g.W.Known (13 * c.loop-k.k) 52 _ _ _ _ _ _ (omega (arith, few, c.loop-k.auto.k-end)) c.loop-k.invariant.moves

pub returns-clause-entered : goal.returns-clause-entered
returns-clause-entered g c =
    let size = c.args.bsize in
    let part = c.args.part in
    let bo = c.args.bo.0 in
    let ps = parts_of size part in
    let counts = c.part_counts-columns in
    let m = counts.result.0 in
    let n = counts.result.1 in
    let long = counts.ensures.all in
    entered_end bo part ps c.loop-k.k c.args.self.now.bc c.loop-k.self.bc (omega (arith, long, c.loop-k-test.false, c.loop-k.auto.k-end)) c.loop-k.invariant.entered
