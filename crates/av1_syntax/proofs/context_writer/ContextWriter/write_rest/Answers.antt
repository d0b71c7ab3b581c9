use Rattle.std.proofs.Common.{◌≡◌, ◌+◌, ◌-◌, ◌*◌, ◌^◌, subst, arith}
use Rattle.av1_model.specs.Comes.{Writes, Begins}
use Rattle.av1_model.proofs.ComesLaws.{wrote_err}
use Rattle.av1_syntax.specs.Calls.{stands, coded_in, learnt_in}
use Rattle.av1_syntax.specs.Literals.{literal}
use Rattle.av1_syntax.proofs.DeltaWrites.{rest_begun, rest_wrote}
use Rattle.av1_syntax.proofs.Moving.{moves_then}
use Rattle.av1_syntax.proofs.context_writer.ContextWriter.write_rest.Goals as goal

pub returns-in_err-literal-clause-wrote : goal.returns-in_err-literal-clause-wrote
returns-in_err-literal-clause-wrote g c =
    let n = c.rem_bits-n.result.0 in
    let e = c.rem_bits-n.ensures.power in
    let old = stands g.W.Known c.args.w.now c.args.self.now in
    let new = stands g.W.Known c.literal.new.w c.args.self.now in
    wrote_err coded_in learnt_in c.from_residual.result _ _ old new c.from_residual.ensures.0
    (rest_begun n c.args.size old new (omega (arith, c.rem_bits-n.ensures.few)) (omega (arith, e, c.rem_bits-n.ensures.above), omega (arith, e, c.rem_bits-n.ensures.within))
    (subst (λ n. Begins coded_in learnt_in (literal 3).tree n old new) c.from.ensures c.in_err-literal.ensures.wrote))

pub returns-clause-wrote : goal.returns-clause-wrote
returns-clause-wrote g c =
    let n = c.rem_bits-n.result.0 in
    let power = c.rem_bits-n.result.1 in
    let e = c.rem_bits-n.ensures.power in
    let old = stands g.W.Known c.args.w.now c.args.self.now in
    let mid = stands g.W.Known c.literal.new.w c.args.self.now in
    let new = stands g.W.Known c.literal-2.new.w c.args.self.now in
    let sum : c.args.size - power - 1 + 2 ^ (n + 1) + 1 ≡ c.args.size = omega (arith, e, c.rem_bits-n.ensures.above) in
    rest_wrote c.literal-2.result n c.args.size (c.args.size - power - 1) old mid new sum (subst (λ n. Writes coded_in learnt_in (literal 3).tree n old mid) c.from.ensures c.in_ok-literal.ensures.wrote) c.literal-2.ensures.wrote

pub returns-clause-moves : goal.returns-clause-moves
returns-clause-moves g c = moves_then g.W.Known 39 (13 * (c.rem_bits-n.result.0 + 1)) 104 _ _ _ _ _ _ _ _ _ (omega (arith, c.rem_bits-n.ensures.few)) c.in_ok-literal.ensures.moves c.literal-2.ensures.moves
