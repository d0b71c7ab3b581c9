use Rattle.std.proofs.Common.{subst, arith}
use Rattle.av1_model.specs.Comes.{Writes, Begins}
use Rattle.av1_model.proofs.ComesLaws.{wrote_err}
use Rattle.av1_syntax.specs.Calls.{stands, coded_in, learnt_in}
use Rattle.av1_syntax.specs.Literals.{literal}
use Rattle.av1_syntax.proofs.FilterWrites.{sgrproj_begun, sgrproj_wrote}
use Rattle.av1_syntax.proofs.Moving.{moves_then}
use Rattle.av1_syntax.proofs.context_writer.ContextWriter.write_sgrproj.Goals as goal

pub returns-in_err-literal-clause-wrote : goal.returns-in_err-literal-clause-wrote
returns-in_err-literal-clause-wrote g c =
    let old = stands g.W.Known c.args.w.now c.args.self.now in
    let new = stands g.W.Known c.literal.new.w c.args.self.now in
    wrote_err coded_in learnt_in c.from_residual.result _ _ old new c.from_residual.ensures.0
    (sgrproj_begun c.args.refs c.args.set c.args.xqd old new c.requires.references c.requires.weights (subst (λ n. Begins coded_in learnt_in (literal 4).tree n old new) c.from.ensures c.in_err-literal.ensures.wrote))

pub returns-clause-wrote : goal.returns-clause-wrote
returns-clause-wrote g c =
    let old = stands g.W.Known c.args.w.now c.args.self.now in
    let mid = stands g.W.Known c.literal.new.w c.args.self.now in
    let new = stands g.W.Known c.write_weights.new.w c.args.self.now in
    sgrproj_wrote c.args.refs c.args.set c.args.xqd c.write_weights.result old mid new (subst (λ n. Writes coded_in learnt_in (literal 4).tree n old mid) c.from.ensures c.in_ok-literal.ensures.wrote) c.write_weights.ensures.wrote

pub returns-clause-moves : goal.returns-clause-moves
returns-clause-moves g c = moves_then g.W.Known 52 1274 1326 _ _ _ _ _ _ _ _ _ (omega arith) c.in_ok-literal.ensures.moves c.write_weights.ensures.moves
