use Rattle.std.proofs.Common.{ap, refl, arith}
use Rattle.av1_ec.proofs.MovesLaws.{nothing_saved}
use Rattle.av1_model.specs.Cdf.{token_of}
use Rattle.av1_model.specs.Comes.{standing}
use Rattle.av1_model.specs.Position.{Position}
use Rattle.av1_model.proofs.Positions.{advance_shift}
use Rattle.av1_model.proofs.Symbols.{token_valid}
use Rattle.av1_syntax.specs.Calls.{context_of}
use Rattle.av1_syntax.proofs.context_writer.ContextWriter.fixed_symbol.Goals as goal

pub symbol-requires-clause-shift : goal.symbol-requires-clause-shift
symbol-requires-clause-shift g c =
    omega (arith, advance_shift (g.W.Known.position c.args.w.now) (token_of c.args.cdf.now c.args.s) (g.met.W.Writer.valid c.args.w.now).interval (token_valid c.args.cdf.now c.args.s c.requires.cdf c.requires.s), c.requires.shift)

pub returns-clause-ok : goal.returns-clause-ok
returns-clause-ok g c = let p = c.in_ok-symbol.ensures.ok in record { valid = c.requires.cdf; one_of = c.requires.s; wrote = λ i. standing (p i) (context_of c.args.self.now) }

pub returns-clause-moves : goal.returns-clause-moves
returns-clause-moves g c =
    let near = advance_shift (g.W.Known.position c.args.w.now) (token_of c.args.cdf.now c.args.s) (g.met.W.Writer.valid c.args.w.now).interval (token_valid c.args.cdf.now c.args.s c.requires.cdf c.requires.s) in
    record {
      cdfs = c.requires.cdfs;
      near = omega (arith, near, ap (λ (p : Position). p.shift) c.in_ok-symbol.ensures.ok);
      kept = c.in_ok-symbol.ensures.kept;
      undone = nothing_saved c.args.self.now.fc_log c.args.self.now.fc_log c.args.self.now.fc c.args.self.now.fc refl refl;
      adapt = refl;
      eob_by_coded = refl;
      unlogged = λ off. refl;
    }

pub returns-in_err-symbol-clause-moves : goal.returns-in_err-symbol-clause-moves
returns-in_err-symbol-clause-moves g c =
    record {
      cdfs = c.requires.cdfs;
      near = omega (arith, ap (λ (p : Position). p.shift) c.in_err-symbol.ensures.err);
      kept = c.in_err-symbol.ensures.kept;
      undone = nothing_saved c.args.self.now.fc_log c.args.self.now.fc_log c.args.self.now.fc c.args.self.now.fc refl refl;
      adapt = refl;
      eob_by_coded = refl;
      unlogged = λ off. refl;
    }
