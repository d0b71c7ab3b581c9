use Rattle.std.proofs.Common.{◌+◌, ◌^◌, ◌≤◌, ◌∙◌, List, Bool, ap, sym, subst, refl, arith}
use Rattle.av1_ec.proofs.MovesLaws.{nothing_saved}
use Rattle.av1_ec.specs.Flat.{flat_tokens}
use Rattle.av1_model.specs.Position.{Position, advance_all}
use Rattle.av1_model.proofs.ComesLaws.{wrote_err}
use Rattle.av1_syntax.specs.Calls.{coded_in, context_of, learnt_in}
use Rattle.av1_syntax.specs.Restoration.{near_word}
use Rattle.av1_syntax.proofs.FilterWrites.{word_near, near_word_is, near_short, near_written, near_begun}
use Rattle.av1_syntax.proofs.context_writer.ContextWriter.write_near.Goals as goal

pub write_signed_subexp_with_ref-requires-clause-shift : goal.write_signed_subexp_with_ref-requires-clause-shift
write_signed_subexp_with_ref-requires-clause-shift g c =
    let is = near_word_is c.args.least c.args.greatest c.args.reference c.args.v c.args.k c.ranges.least c.ranges.greatest c.ranges.reference c.ranges.v c.from.result c.from-2.result c.from-3.result c.from-4.result c.from.ensures c.from-2.ensures c.from-3.ensures c.from-4.ensures in
    let short = near_short c.args.least c.args.greatest c.args.reference c.args.v c.args.k c.ranges.least c.ranges.greatest c.ranges.reference c.ranges.v c.from.result c.from-2.result c.from-3.result c.from-4.result c.from.ensures c.from-2.ensures c.from-3.ensures c.from-4.ensures c.requires.reference c.requires.k in
    let p = g.W.Known.position c.args.w.now in
    let word = near_word c.args.least c.args.greatest c.args.k c.args.reference c.args.v in
    let near = word_near p word (g.met.W.Writer.valid c.args.w.now).interval short in
    subst (λ (bits : List Bool). (advance_all p (flat_tokens bits)).shift ≤ 2 ^ 28 + 2 ^ 24) (sym is) (omega (arith, near, c.requires.shift))

pub returns-in_err-write_signed_subexp_with_ref-clause-wrote : goal.returns-in_err-write_signed_subexp_with_ref-clause-wrote
returns-in_err-write_signed_subexp_with_ref-clause-wrote g c =
    wrote_err coded_in learnt_in c.from_residual.result _ _ _ _ c.from_residual.ensures.0
    (near_begun c.args.least c.args.greatest c.args.reference c.args.v c.args.k (g.W.Known.position c.args.w.now) (g.W.Known.position c.write_signed_subexp_with_ref.new.self) (context_of c.args.self.now) c.requires.reference c.requires.within c.in_err-write_signed_subexp_with_ref.ensures.err)

pub returns-in_err-write_signed_subexp_with_ref-clause-moves : goal.returns-in_err-write_signed_subexp_with_ref-clause-moves
returns-in_err-write_signed_subexp_with_ref-clause-moves g c =
    record {
      cdfs = c.requires.cdfs;
      near = omega (arith, ap (λ (p : Position). p.shift) c.in_err-write_signed_subexp_with_ref.ensures.err);
      kept = c.in_err-write_signed_subexp_with_ref.ensures.kept;
      undone = nothing_saved c.args.self.now.fc_log c.args.self.now.fc_log c.args.self.now.fc c.args.self.now.fc refl refl;
      adapt = refl;
      eob_by_coded = refl;
      unlogged = λ off. refl;
    }

pub returns-clause-wrote : goal.returns-clause-wrote
returns-clause-wrote g c =
    let is = near_word_is c.args.least c.args.greatest c.args.reference c.args.v c.args.k c.ranges.least c.ranges.greatest c.ranges.reference c.ranges.v c.from.result c.from-2.result c.from-3.result c.from-4.result c.from.ensures c.from-2.ensures c.from-3.ensures c.from-4.ensures in
    let short = near_short c.args.least c.args.greatest c.args.reference c.args.v c.args.k c.ranges.least c.ranges.greatest c.ranges.reference c.ranges.v c.from.result c.from-2.result c.from-3.result c.from-4.result c.from.ensures c.from-2.ensures c.from-3.ensures c.from-4.ensures c.requires.reference c.requires.k in
    let p = g.W.Known.position c.args.w.now in
    let word = near_word c.args.least c.args.greatest c.args.k c.args.reference c.args.v in
    near_written c.args.least c.args.greatest c.args.reference c.args.v c.args.k p (g.W.Known.position c.write_signed_subexp_with_ref.new.self) (context_of c.args.self.now) c.requires.reference c.requires.within
    (c.in_ok-write_signed_subexp_with_ref.ensures.ok ∙ ap (λ (bits : List Bool). advance_all p (flat_tokens bits)) is)

pub returns-clause-moves : goal.returns-clause-moves
returns-clause-moves g c =
    let is = near_word_is c.args.least c.args.greatest c.args.reference c.args.v c.args.k c.ranges.least c.ranges.greatest c.ranges.reference c.ranges.v c.from.result c.from-2.result c.from-3.result c.from-4.result c.from.ensures c.from-2.ensures c.from-3.ensures c.from-4.ensures in
    let short = near_short c.args.least c.args.greatest c.args.reference c.args.v c.args.k c.ranges.least c.ranges.greatest c.ranges.reference c.ranges.v c.from.result c.from-2.result c.from-3.result c.from-4.result c.from.ensures c.from-2.ensures c.from-3.ensures c.from-4.ensures c.requires.reference c.requires.k in
    let p = g.W.Known.position c.args.w.now in
    let word = near_word c.args.least c.args.greatest c.args.k c.args.reference c.args.v in
    let near = word_near p word (g.met.W.Writer.valid c.args.w.now).interval short in
    let e = c.in_ok-write_signed_subexp_with_ref.ensures.ok ∙ ap (λ (bits : List Bool). advance_all p (flat_tokens bits)) is in
    record {
      cdfs = c.requires.cdfs;
      near = omega (arith, near, ap (λ (p : Position). p.shift) e);
      kept = c.in_ok-write_signed_subexp_with_ref.ensures.kept;
      undone = nothing_saved c.args.self.now.fc_log c.args.self.now.fc_log c.args.self.now.fc c.args.self.now.fc refl refl;
      adapt = refl;
      eob_by_coded = refl;
      unlogged = λ off. refl;
    }
