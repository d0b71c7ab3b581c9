use Rattle.std.proofs.Common.{◌<◌, length, arith}
use Rattle.av1_cdf.specs.Context.{contents}
use Rattle.av1_cdf.specs.Slots.{slot_of}
use Rattle.av1_cdf.proofs.Learning.{contents_long}
use Rattle.av1_bench.proofs.Contexts.{cdfs_after, reached_after, undone_after}
use Rattle.av1_bench.proofs.Steps.{symbol_shift, stored_shift}
use Rattle.av1_bench.proofs.learner.Learner.code.Goals as goal

pub symbol_with_update-requires-clause-cdf : goal.symbol_with_update-requires-clause-cdf
symbol_with_update-requires-clause-cdf g c = c.args.self.now.cdfs.valid (slot_of c.args.cdf) c.args.cdf.is_slot

pub symbol_with_update-requires-clause-shift : goal.symbol_with_update-requires-clause-shift
symbol_with_update-requires-clause-shift g c =
    let slot = slot_of c.args.cdf in
    let numbers = contents c.args.self.now.fc slot in
    let long = contents_long c.args.self.now.fc slot c.args.self.now.cdfs c.args.cdf.is_slot in
    let valid = c.args.self.now.cdfs.valid slot c.args.cdf.is_slot in
    let one_of : c.from.result < length numbers = omega (arith, long, c.requires.s) in
    omega (arith, c.requires.shift, symbol_shift (g.W.Known.position c.args.w.now) numbers c.from.result (g.met.W.Writer.valid c.args.w.now) valid one_of)

pub invariant_of-self-clause-cdfs : goal.invariant_of-self-clause-cdfs
invariant_of-self-clause-cdfs g c =
    cdfs_after c.symbol_with_update.result c.args.self.now.fc _ (slot_of c.args.cdf) c.from.result c.args.self.now.cdfs c.args.cdf.is_slot c.symbol_with_update.ensures.adapted c.symbol_with_update.ensures.same

pub invariant_of-self-clause-reached : goal.invariant_of-self-clause-reached
invariant_of-self-clause-reached g c =
    reached_after c.symbol_with_update.result c.args.self.now.log _ _ _ c.args.self.now.log_mark c.args.self.now.reached c.symbol_with_update.ensures.undone c.symbol_with_update.ensures.unsaved

pub invariant_of-self-clause-undone : goal.invariant_of-self-clause-undone
invariant_of-self-clause-undone g c =
    undone_after c.symbol_with_update.result c.args.self.now.log _ c.args.self.now.fc _ c.args.self.now.log_mark c.args.self.now.reached c.args.self.now.undone
    c.symbol_with_update.ensures.undone c.symbol_with_update.ensures.unsaved c.symbol_with_update.ensures.same

pub returns-clause-shift : goal.returns-clause-shift
returns-clause-shift g c =
    let slot = slot_of c.args.cdf in
    let numbers = contents c.args.self.now.fc slot in
    let long = contents_long c.args.self.now.fc slot c.args.self.now.cdfs c.args.cdf.is_slot in
    let valid = c.args.self.now.cdfs.valid slot c.args.cdf.is_slot in
    let one_of : c.from.result < length numbers = omega (arith, long, c.requires.s) in
    stored_shift c.symbol_with_update.result _ _ _ c.symbol_with_update.ensures.ok c.symbol_with_update.ensures.err (symbol_shift (g.W.Known.position c.args.w.now) numbers c.from.result (g.met.W.Writer.valid c.args.w.now) valid one_of)
