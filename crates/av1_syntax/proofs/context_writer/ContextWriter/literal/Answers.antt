use Rattle.std.proofs.Common.{ap, refl, arith}
use Rattle.av1_ec.proofs.MovesLaws.{nothing_saved}
use Rattle.av1_model.specs.Position.{Position}
use Rattle.av1_model.proofs.ComesLaws.{wrote_err}
use Rattle.av1_syntax.specs.Calls.{coded_in, context_of, learnt_in}
use Rattle.av1_syntax.proofs.Writing.{literal_near, literal_written, literal_begun}
use Rattle.av1_syntax.proofs.context_writer.ContextWriter.literal.Goals as goal

pub literal-requires-clause-shift : goal.literal-requires-clause-shift
literal-requires-clause-shift g c = omega (arith, literal_near (g.W.Known.position c.args.w.now) c.args.bits c.args.v (g.met.W.Writer.valid c.args.w.now).interval, c.requires.shift)

pub returns-clause-wrote : goal.returns-clause-wrote
returns-clause-wrote g c = literal_written c.args.bits c.args.v (g.W.Known.position c.args.w.now) (g.W.Known.position c.literal.new.self) (context_of c.args.self.now) c.requires.fits c.in_ok-literal.ensures.ok

pub returns-in_err-literal-clause-wrote : goal.returns-in_err-literal-clause-wrote
returns-in_err-literal-clause-wrote g c =
    wrote_err coded_in learnt_in c.from_residual.result _ _ _ _ c.from_residual.ensures.0
    (literal_begun c.args.bits c.args.v (g.W.Known.position c.args.w.now) (g.W.Known.position c.literal.new.self) (context_of c.args.self.now) c.requires.fits c.in_err-literal.ensures.err)

pub returns-clause-moves : goal.returns-clause-moves
returns-clause-moves g c =
    let near = literal_near (g.W.Known.position c.args.w.now) c.args.bits c.args.v (g.met.W.Writer.valid c.args.w.now).interval in
    record {
      cdfs = c.requires.cdfs;
      near = omega (arith, near, ap (λ (p : Position). p.shift) c.in_ok-literal.ensures.ok);
      kept = c.in_ok-literal.ensures.kept;
      undone = nothing_saved c.args.self.now.fc_log c.args.self.now.fc_log c.args.self.now.fc c.args.self.now.fc refl refl;
      adapt = refl;
      eob_by_coded = refl;
      unlogged = λ off. refl;
    }

pub returns-in_err-literal-clause-moves : goal.returns-in_err-literal-clause-moves
returns-in_err-literal-clause-moves g c =
    record {
      cdfs = c.requires.cdfs;
      near = omega (arith, ap (λ (p : Position). p.shift) c.in_err-literal.ensures.err);
      kept = c.in_err-literal.ensures.kept;
      undone = nothing_saved c.args.self.now.fc_log c.args.self.now.fc_log c.args.self.now.fc c.args.self.now.fc refl refl;
      adapt = refl;
      eob_by_coded = refl;
      unlogged = λ off. refl;
    }
