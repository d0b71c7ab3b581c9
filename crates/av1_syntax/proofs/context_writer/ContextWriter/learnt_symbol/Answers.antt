use Rattle.std.proofs.Common.{◌<◌, length, refl, sym, subst, ap, arith}
use Rattle.av1_cdf.specs.Context.{AreCdfs, contents}
use Rattle.av1_cdf.specs.Slots.{slot_of}
use Rattle.av1_cdf.proofs.Learning.{contents_long, cdfs_adapted}
use Rattle.av1_ec.proofs.MovesLaws.{nothing_saved}
use Rattle.av1_model.specs.Cdf.{token_of}
use Rattle.av1_model.specs.Comes.{standing}
use Rattle.av1_model.specs.Position.{Position}
use Rattle.av1_model.proofs.Positions.{advance_shift}
use Rattle.av1_model.proofs.Symbols.{token_valid}
use Rattle.av1_syntax.specs.Calls.{context_of}
use Rattle.av1_syntax.proofs.Switches.{learnt_is, on_off}
use Rattle.av1_syntax.proofs.context_writer.ContextWriter.learnt_symbol.Goals as goal

pub symbol_with_update-requires-clause-cdf : goal.symbol_with_update-requires-clause-cdf
symbol_with_update-requires-clause-cdf g c = c.requires.cdfs.valid (slot_of c.args.cdf) c.args.cdf.is_slot

pub symbol_with_update-requires-clause-shift : goal.symbol_with_update-requires-clause-shift
symbol_with_update-requires-clause-shift g c =
    let fc = c.args.self.now.fc in
    let numbers = contents fc (slot_of c.args.cdf) in
    let valid = c.requires.cdfs.valid (slot_of c.args.cdf) c.args.cdf.is_slot in
    let long = contents_long fc (slot_of c.args.cdf) c.requires.cdfs c.args.cdf.is_slot in
    let one_of : c.args.s < length numbers = omega (arith, c.requires.s, long) in
    omega (arith, advance_shift (g.W.Known.position c.args.w.now) (token_of numbers c.args.s) (g.met.W.Writer.valid c.args.w.now).interval (token_valid numbers c.args.s valid one_of), c.requires.shift)

pub returns-clause-ok : goal.returns-clause-ok
returns-clause-ok g c =
    let p = c.in_ok-symbol_with_update.ensures.ok in
    let old = context_of c.args.self.now in
    let d = learnt_is old (slot_of c.args.cdf) c.args.s c.symbol_with_update.new.fc c.requires.adapt c.in_ok-symbol_with_update.ensures.adapted in
    let long = contents_long c.args.self.now.fc (slot_of c.args.cdf) c.requires.cdfs c.args.cdf.is_slot in
    record { valid = c.requires.cdfs.valid (slot_of c.args.cdf) c.args.cdf.is_slot; one_of = omega (arith, c.requires.s, long); wrote = λ i. standing (p i) (record old { numbers = d i }) }

pub returns-clause-moves : goal.returns-clause-moves
returns-clause-moves g c =
    let fc = c.args.self.now.fc in
    let numbers = contents fc (slot_of c.args.cdf) in
    let valid = c.requires.cdfs.valid (slot_of c.args.cdf) c.args.cdf.is_slot in
    let long = contents_long fc (slot_of c.args.cdf) c.requires.cdfs c.args.cdf.is_slot in
    let one_of : c.args.s < length numbers = omega (arith, c.requires.s, long) in
    let near = advance_shift (g.W.Known.position c.args.w.now) (token_of numbers c.args.s) (g.met.W.Writer.valid c.args.w.now).interval (token_valid numbers c.args.s valid one_of) in
    record {
      cdfs = subst AreCdfs (sym c.in_ok-symbol_with_update.ensures.adapted) (cdfs_adapted fc (slot_of c.args.cdf) c.args.s c.requires.cdfs c.args.cdf.is_slot);
      near = omega (arith, near, ap (λ (p : Position). p.shift) c.in_ok-symbol_with_update.ensures.ok);
      kept = c.in_ok-symbol_with_update.ensures.kept;
      undone = c.in_ok-symbol_with_update.ensures.undone;
      adapt = refl;
      eob_by_coded = refl;
      unlogged = λ off. absurd (on_off c.args.self.now.adapt c.requires.adapt off);
    }

pub returns-in_err-symbol_with_update-clause-moves : goal.returns-in_err-symbol_with_update-clause-moves
returns-in_err-symbol_with_update-clause-moves g c =
    record {
      cdfs = subst AreCdfs (sym c.in_err-symbol_with_update.ensures.same) c.requires.cdfs;
      near = omega (arith, ap (λ (p : Position). p.shift) c.in_err-symbol_with_update.ensures.err);
      kept = c.in_err-symbol_with_update.ensures.kept;
      undone = nothing_saved c.args.self.now.fc_log c.symbol_with_update.new.log c.args.self.now.fc c.symbol_with_update.new.fc c.in_err-symbol_with_update.ensures.unsaved c.in_err-symbol_with_update.ensures.same;
      adapt = refl;
      eob_by_coded = refl;
      unlogged = λ off. c.in_err-symbol_with_update.ensures.unsaved;
    }
