use Rattle.std.proofs.Common.{arith}
use Rattle.av1_model.proofs.ComesLaws.{wrote_err}
use Rattle.av1_syntax.specs.Calls.{stands, coded_in, learnt_in}
use Rattle.av1_syntax.proofs.FilterWrites.{wiener_begun, wiener_both}
use Rattle.av1_syntax.proofs.Moving.{moves_then}
use Rattle.av1_syntax.proofs.context_writer.ContextWriter.write_wiener.Goals as goal

pub returns-in_err-write_taps-clause-wrote : goal.returns-in_err-write_taps-clause-wrote
returns-in_err-write_taps-clause-wrote g c =
    let old = stands g.W.Known c.args.w.now c.args.self.now in
    let new = stands g.W.Known c.write_taps.new.w c.args.self.now in
    wrote_err coded_in learnt_in c.from_residual.result _ _ old new c.from_residual.ensures.0
    (wiener_begun c.args.luma c.args.refs c.args.coeffs c.requires.references c.requires.taps old new c.in_err-write_taps.ensures.wrote)

pub returns-clause-wrote : goal.returns-clause-wrote
returns-clause-wrote g c =
    let old = stands g.W.Known c.args.w.now c.args.self.now in
    let mid = stands g.W.Known c.write_taps.new.w c.args.self.now in
    let new = stands g.W.Known c.write_taps-2.new.w c.args.self.now in
    wiener_both c.args.luma c.args.refs c.args.coeffs c.requires.references c.requires.taps c.write_taps-2.result old mid new c.in_ok-write_taps.ensures.wrote c.write_taps-2.ensures.wrote

pub returns-clause-moves : goal.returns-clause-moves
returns-clause-moves g c = moves_then g.W.Known 1911 1911 3822 _ _ _ _ _ _ _ _ _ (omega arith) c.in_ok-write_taps.ensures.moves c.write_taps-2.ensures.moves
