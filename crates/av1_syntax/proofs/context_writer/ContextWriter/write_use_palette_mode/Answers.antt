use Rattle.std.proofs.Common.{[], ◌∷◌, ◌∙◌, ◌&&◌, Ok, Err, ap, codes, arith}
use Rattle.av1_cdf.specs.Distribution.Distribution.{Adaptive}
use Rattle.av1_cdf.specs.Layout.{slot}
use Rattle.av1_geometry.specs.Chroma.{has_chroma_at}
use Rattle.av1_model.proofs.ComesLaws.{wrote_err}
use Rattle.av1_syntax.specs.Calls.{stands, coded_in, learnt_in}
use Rattle.av1_syntax.specs.Palette.{is_dc, palette_size}
use Rattle.av1_syntax.proofs.Palettes.{off_as, palette_begun, palette_wrote}
use Rattle.av1_syntax.proofs.Moving.{moves_then}
use Rattle.av1_syntax.proofs.context_writer.ContextWriter.write_use_palette_mode.Goals as goal

pub returns-in_err-off_where-clause-wrote : goal.returns-in_err-off_where-clause-wrote
returns-in_err-off_where-clause-wrote g c =
    let old = stands g.W.Known c.args.w.now c.args.self.now in
    let new = stands g.W.Known c.off_where.new.w c.off_where.new.self in
    let first = slot (codes "palette_y_mode_cdfs") (palette_size c.args.bsize ∷ 0 ∷ []) in
    let second = slot (codes "palette_uv_mode_cdfs") (0 ∷ []) in
    let chroma = has_chroma_at c.args.bo.0.x c.args.bo.0.y c.args.bsize c.args.xdec c.args.ydec c.args.cs && is_dc c.args.chroma_mode in
    wrote_err coded_in learnt_in c.from_residual.result _ _ old new c.from_residual.ensures.0
    (palette_begun (is_dc c.args.luma_mode) chroma (Adaptive first) (Adaptive second) old new
    (off_as {U = Unit {0}} {E = Unit {0}} (Err tt) c.is_dc.result (is_dc c.args.luma_mode) _ first old new c.is_dc.ensures c.palette_y_slot.ensures c.in_err-off_where.ensures.wrote))

pub returns-clause-wrote : goal.returns-clause-wrote
returns-clause-wrote g c =
    let old = stands g.W.Known c.args.w.now c.args.self.now in
    let mid = stands g.W.Known c.off_where.new.w c.off_where.new.self in
    let new = stands g.W.Known c.off_where-2.new.w c.off_where-2.new.self in
    let first = slot (codes "palette_y_mode_cdfs") (palette_size c.args.bsize ∷ 0 ∷ []) in
    let second = slot (codes "palette_uv_mode_cdfs") (0 ∷ []) in
    let there = has_chroma_at c.args.bo.0.x c.args.bo.0.y c.args.bsize c.args.xdec c.args.ydec c.args.cs in
    let chroma = there && is_dc c.args.chroma_mode in
    palette_wrote c.off_where-2.result (is_dc c.args.luma_mode) chroma (Adaptive first) (Adaptive second) old mid new
    (off_as {U = Unit {0}} {E = Unit {0}} (Ok tt) c.is_dc.result (is_dc c.args.luma_mode) _ first old mid c.is_dc.ensures c.palette_y_slot.ensures c.in_ok-off_where.ensures.wrote)
    (off_as c.off_where-2.result c.asks_chroma_palette-chroma.result chroma _ second mid new (c.asks_chroma_palette-chroma.ensures ∙ ap (λ b. b && is_dc c.args.chroma_mode) c.has_chroma.ensures) c.palette_uv_mode_cdfs.ensures c.off_where-2.ensures.wrote)

pub returns-clause-moves : goal.returns-clause-moves
returns-clause-moves g c = moves_then g.W.Known 13 13 26 _ _ _ _ _ _ _ _ _ (omega arith) c.in_ok-off_where.ensures.moves c.off_where-2.ensures.moves
