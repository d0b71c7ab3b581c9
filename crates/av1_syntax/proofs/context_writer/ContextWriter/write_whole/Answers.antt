use Rattle.std.proofs.Common.{◌∙◌, ◌≤◌, [], ◌∷◌, ap, codes, arith}
use Rattle.av1_cdf.specs.Layout.{Slot, slot}
use Rattle.av1_syntax.specs.TransformSizes.{longer}
use Rattle.av1_syntax.proofs.Splits.{part_few_as, part_wrote, txfm_partition_has}
use Rattle.av1_syntax.proofs.context_writer.ContextWriter.write_whole.Goals as goal

pub txfm_partition_cdf-requires : goal.txfm_partition_cdf-requires
txfm_partition_cdf-requires g c =
    let l : 3 ≤ longer c.args.part = omega (arith, c.if-longer-eq2.false, c.longer.ensures.value, c.longer.ensures.least) in
    let few = part_few_as c.args.self.now.bc c.args.bo.0 c.args.bsize c.args.part c.args.tbx c.args.tby c.requires.larger c.requires.size l in
    omega (arith, few, c.txfm_partition_context-context.ensures.value)

pub symbol-requires-clause-s : goal.symbol-requires-clause-s
symbol-requires-clause-s g c =
    let l : 3 ≤ longer c.args.part = omega (arith, c.if-longer-eq2.false, c.longer.ensures.value, c.longer.ensures.least) in
    let few = part_few_as c.args.self.now.bc c.args.bo.0 c.args.bsize c.args.part c.args.tbx c.args.tby c.requires.larger c.requires.size l in
    let two = ap (λ (s : Slot). s.len) c.txfm_partition_cdf.ensures ∙ (txfm_partition_has c.txfm_partition_context-context.result (omega (arith, few, c.txfm_partition_context-context.ensures.value))).1 in
    omega (arith, two)

pub returns-clause-wrote : goal.returns-clause-wrote
returns-clause-wrote g c =
    let l : 3 ≤ longer c.args.part = omega (arith, c.if-longer-eq2.false, c.longer.ensures.value, c.longer.ensures.least) in
    part_wrote c.symbol.result c.args.self.now.bc c.args.bo.0 c.args.bsize c.args.part c.args.tbx c.args.tby _ _ _ c.requires.inside l (c.txfm_partition_cdf.ensures ∙ ap (λ k. slot (codes "txfm_partition_cdf") (k ∷ [])) c.txfm_partition_context-context.ensures.value)
    c.symbol.ensures.ok c.symbol.ensures.err
