use Rattle.std.proofs.Common.{arith}
use Rattle.av1_cdf.specs.Distribution.Distribution.{Adaptive}
use Rattle.av1_cdf.specs.Slots.{slot_of}
use Rattle.av1_model.proofs.ComesLaws.{wrote_err}
use Rattle.av1_syntax.specs.Calls.{coded_in, learnt_in}
use Rattle.av1_syntax.proofs.DeltaWrites.{size_begun, size_small, size_wrote}
use Rattle.av1_syntax.proofs.Moving.{moves_then}
use Rattle.av1_syntax.proofs.context_writer.ContextWriter.write_size.Goals as goal

pub returns-in_err-symbol-clause-wrote : goal.returns-in_err-symbol-clause-wrote
returns-in_err-symbol-clause-wrote g c =
    wrote_err coded_in learnt_in c.from_residual.result _ _ _ _ c.from_residual.ensures.0
    (size_begun (Adaptive (slot_of c.args.cdf)) c.args.size _ _ (c.args.cdf.is_slot, c.requires.four) (omega (arith, c.requires.size)) c.in_err-symbol.ensures.err)

pub returns-then-size-lt3-clause-wrote : goal.returns-then-size-lt3-clause-wrote
returns-then-size-lt3-clause-wrote g c =
    size_small (Adaptive (slot_of c.args.cdf)) c.min.result c.args.size _ _ (omega (arith, c.min.ensures, c.if-size-lt3.true)) c.if-size-lt3.true c.in_ok-symbol.ensures.ok

pub returns-clause-wrote : goal.returns-clause-wrote
returns-clause-wrote g c =
    size_wrote c.write_rest.result (Adaptive (slot_of c.args.cdf)) c.min.result c.args.size _ _ _ (omega (arith, c.min.ensures, c.if-size-lt3.false)) c.in_ok-symbol.ensures.ok c.write_rest.ensures.wrote

pub returns-clause-moves : goal.returns-clause-moves
returns-clause-moves g c = moves_then g.W.Known 13 104 117 _ _ _ _ _ _ _ _ _ (omega arith) c.in_ok-symbol.ensures.moves c.write_rest.ensures.moves
