use Rattle.std.proofs.Common.{ap, refl, arith}
use Rattle.av1_ec.proofs.MovesLaws.{nothing_saved}
use Rattle.av1_model.specs.Position.{Position}
use Rattle.av1_model.proofs.ComesLaws.{wrote_err}
use Rattle.av1_syntax.specs.Calls.{coded_in, context_of, learnt_in}
use Rattle.av1_syntax.proofs.LevelWrites.{golomb_near, golomb_written, golomb_begun}
use Rattle.av1_syntax.proofs.context_writer.ContextWriter.write_golomb.Goals as goal

pub write_golomb-requires-clause-shift : goal.write_golomb-requires-clause-shift
write_golomb-requires-clause-shift g c = omega (arith, golomb_near (g.W.Known.position c.args.w.now) c.args.rest c.requires.few (g.met.W.Writer.valid c.args.w.now).interval, c.requires.shift)

pub returns-clause-wrote : goal.returns-clause-wrote
returns-clause-wrote g c = golomb_written c.args.rest (g.W.Known.position c.args.w.now) (g.W.Known.position c.write_golomb.new.self) (context_of c.args.self.now) c.requires.few c.in_ok-write_golomb.ensures.ok

pub returns-in_err-write_golomb-clause-wrote : goal.returns-in_err-write_golomb-clause-wrote
returns-in_err-write_golomb-clause-wrote g c =
    wrote_err coded_in learnt_in c.from_residual.result _ _ _ _ c.from_residual.ensures.0
    (golomb_begun c.args.rest (g.W.Known.position c.args.w.now) (g.W.Known.position c.write_golomb.new.self) (context_of c.args.self.now) c.requires.few c.in_err-write_golomb.ensures.err)

pub returns-clause-moves : goal.returns-clause-moves
returns-clause-moves g c =
    let near = golomb_near (g.W.Known.position c.args.w.now) c.args.rest c.requires.few (g.met.W.Writer.valid c.args.w.now).interval in
    record {
      cdfs = c.requires.cdfs;
      near = omega (arith, near, ap (λ (p : Position). p.shift) c.in_ok-write_golomb.ensures.ok);
      kept = c.in_ok-write_golomb.ensures.kept;
      undone = nothing_saved c.args.self.now.fc_log c.args.self.now.fc_log c.args.self.now.fc c.args.self.now.fc refl refl;
      adapt = refl;
      eob_by_coded = refl;
      unlogged = λ off. refl;
    }

pub returns-in_err-write_golomb-clause-moves : goal.returns-in_err-write_golomb-clause-moves
returns-in_err-write_golomb-clause-moves g c =
    record {
      cdfs = c.requires.cdfs;
      near = omega (arith, ap (λ (p : Position). p.shift) c.in_err-write_golomb.ensures.err);
      kept = c.in_err-write_golomb.ensures.kept;
      undone = nothing_saved c.args.self.now.fc_log c.args.self.now.fc_log c.args.self.now.fc c.args.self.now.fc refl refl;
      adapt = refl;
      eob_by_coded = refl;
      unlogged = λ off. refl;
    }
