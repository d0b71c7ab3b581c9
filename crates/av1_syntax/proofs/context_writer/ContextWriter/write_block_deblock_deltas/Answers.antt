use Rattle.std.proofs.Common.{◌≡◌, ◌+◌, ◌-◌, ◌*◌, [], take, Ok, ℤ, w8, sym, subst, ap, ◌∙◌, arith}
use Rattle.av1_blocks.specs.declared.block.Block.{Block}
use Rattle.av1_cdf.specs.Distribution.{Distribution}
use Rattle.std.proofs.lemmas.Int.{to_z-of_z}
use Rattle.av1_cdf.specs.Distribution.Distribution.{Adaptive}
use Rattle.av1_cdf.specs.Slots.{slot_of}
use Rattle.av1_model.specs.Comes.{Comes, Writes, Begins}
use Rattle.av1_model.proofs.ComesLaws.{wrote_err}
use Rattle.av1_syntax.specs.Calls.{stands, coded_in, learnt_in}
use Rattle.av1_syntax.specs.Deltas.{delta_at, delta_slot, delta_count, delta_element, deltas_after, AreDeltas}
use Rattle.av1_syntax.proofs.DeltaReads.{slot_four}
use Rattle.av1_syntax.proofs.DeltaWrites.{deltas_step, deltas_begun, deltas_end, deltas_512, deltas_as, small_fits}
use Rattle.av1_syntax.proofs.Moving.{moves_then}
use Rattle.av1_syntax.proofs.context_writer.ContextWriter.write_block_deblock_deltas.Goals as goal

pub loop-k-preserved : goal.loop-k-preserved
loop-k-preserved g c =
    let q = delta_slot c.args.multi in
    let count = c.delta_count-count.result in
    let ds = c.at.result.now.deblock_deltas in
    let k = c.loop-k.k in
    let old = stands g.W.Known c.args.w.now c.args.self.now in
    let mid = stands g.W.Known c.loop-k.w c.loop-k.self in
    let new = stands g.W.Known c.write_delta.new.w c.write_delta.new.self in
    let small = subst (λ n. AreDeltas 63 n ds) (sym c.delta_count-count.ensures.value) (subst (λ (b : Block). AreDeltas 63 (delta_count c.args.multi c.args.planes) b.deblock_deltas) (sym c.at.ensures) c.requires.deltas) in
    let are = deltas_512 count ds small in
    let same = to_z-of_z w8 (delta_at ds k) (small_fits (delta_at ds k) (small.small k c.loop-k-test.true)) in
    let w = subst (λ (x : Distribution). Writes coded_in learnt_in (delta_element x).tree (delta_at ds k) mid new) c.delta_slot.ensures.is
    (subst (λ (d : ℤ). Writes coded_in learnt_in (delta_element (Adaptive (slot_of c.delta_slot.result))).tree d mid new) same c.in_ok-write_delta.ensures.wrote) in
    record {
      came = deltas_step q count ds are c.delta_count-count.ensures.few k c.loop-k-test.true (deltas_after q [] count).tree old mid new c.loop-k.invariant.came w;
      moves = moves_then g.W.Known (130 * k) 130 (130 * (k + 1)) _ _ _ _ _ _ _ _ _ (omega arith) c.loop-k.invariant.moves c.in_ok-write_delta.ensures.moves;
      rest = c.write_delta.ensures.rest ∙ c.loop-k.invariant.rest;
    }

pub returns-in_err-write_delta-clause-wrote : goal.returns-in_err-write_delta-clause-wrote
returns-in_err-write_delta-clause-wrote g c =
    let q = delta_slot c.args.multi in
    let count = c.delta_count-count.result in
    let ds = c.at.result.now.deblock_deltas in
    let k = c.loop-k.k in
    let old = stands g.W.Known c.args.w.now c.args.self.now in
    let mid = stands g.W.Known c.loop-k.w c.loop-k.self in
    let new = stands g.W.Known c.write_delta.new.w c.write_delta.new.self in
    let small = subst (λ n. AreDeltas 63 n ds) (sym c.delta_count-count.ensures.value) (subst (λ (b : Block). AreDeltas 63 (delta_count c.args.multi c.args.planes) b.deblock_deltas) (sym c.at.ensures) c.requires.deltas) in
    let are = deltas_512 count ds small in
    let same = to_z-of_z w8 (delta_at ds k) (small_fits (delta_at ds k) (small.small k c.loop-k-test.true)) in
    let b = subst (λ (x : Distribution). Begins coded_in learnt_in (delta_element x).tree (delta_at ds k) mid new) c.delta_slot.ensures.is
    (subst (λ (d : ℤ). Begins coded_in learnt_in (delta_element (Adaptive (slot_of c.delta_slot.result))).tree d mid new) same c.in_err-write_delta.ensures.wrote) in
    deltas_as c.from_residual.result c.args.multi c.args.planes count ds _ old new c.delta_count-count.ensures.value (ap (λ (b : Block). b.deblock_deltas) c.at.ensures)
    (wrote_err coded_in learnt_in c.from_residual.result (deltas_after q [] count).tree ds old new c.from_residual.ensures.0
    (deltas_begun q count ds are c.delta_count-count.ensures.few k c.loop-k-test.true (deltas_after q [] count).tree old mid new c.loop-k.invariant.came (slot_four c.args.multi) b))

pub returns-in_err-write_delta-clause-moves : goal.returns-in_err-write_delta-clause-moves
returns-in_err-write_delta-clause-moves g c =
    moves_then g.W.Known (130 * c.loop-k.k) 130 520 _ _ _ _ _ _ _ _ _ (omega (arith, c.loop-k-test.true, c.delta_count-count.ensures.few)) c.loop-k.invariant.moves c.in_err-write_delta.ensures.moves

pub returns-clause-wrote : goal.returns-clause-wrote
returns-clause-wrote g c =
    let q = delta_slot c.args.multi in
    let count = c.delta_count-count.result in
    let ds = c.at.result.now.deblock_deltas in
    let old = stands g.W.Known c.args.w.now c.args.self.now in
    let new = stands g.W.Known c.loop-k.w c.loop-k.self in
    let small = subst (λ n. AreDeltas 63 n ds) (sym c.delta_count-count.ensures.value) (subst (λ (b : Block). AreDeltas 63 (delta_count c.args.multi c.args.planes) b.deblock_deltas) (sym c.at.ensures) c.requires.deltas) in
    let are = deltas_512 count ds small in
    let end : c.loop-k.k ≡ count = omega (arith, c.loop-k-test.false, c.loop-k.auto.k-end) in
    let came = subst (λ k. Comes coded_in learnt_in (deltas_after q [] count).tree (deltas_after q (take k ds) (count - k)).tree old new) end c.loop-k.invariant.came in
    deltas_as {U = Unit {0}} {E = Unit {0}} (Ok tt) c.args.multi c.args.planes count ds _ old new c.delta_count-count.ensures.value (ap (λ (b : Block). b.deblock_deltas) c.at.ensures)
    (deltas_end q count ds are c.delta_count-count.ensures.few (deltas_after q [] count).tree old new came)
