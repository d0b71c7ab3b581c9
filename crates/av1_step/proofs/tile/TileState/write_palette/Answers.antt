use Rattle.std.proofs.Common.{◌≡◌, ◌&&◌, List, Some, refl, sym, ap, subst, ◌∙◌, arith, rules}
use Rattle.av1_geometry.specs.Chroma.{has_chroma_at}
use Rattle.av1_geometry.specs.ChromaSampling.{xdec_of}
use Rattle.av1_syntax.specs.Palette.{is_dc}
use Rattle.av1_step.specs.declared.step.TileStep.TheVariants.{Palette}
use Rattle.av1_step.specs.Effect.{Effect, changed_by_all}
use Rattle.av1_step.specs.FilterSteps.{palette_kind}
use Rattle.av1_step.specs.IntraSteps.{has_chroma}
use Rattle.av1_step.specs.Kept.{IsKept}
use Rattle.av1_step.specs.State.{tile_of}
use Rattle.av1_step.specs.Tile.{sampling, with_numbers}
use Rattle.av1_step.proofs.Effects.{numbers_kept}
use Rattle.av1_step.proofs.FilterArms.{only_numbers, palette_as, writes_same}
use Rattle.av1_step.proofs.FilterSteps.{palette_allowed}
use Rattle.av1_step.proofs.OfCurrent.{current_allowed, current_effects, current_tree}
use Rattle.av1_step.proofs.Switches.{switched}
use Rattle.av1_step.proofs.tile.TileState.write_palette.Goals as goal

pub write_use_palette_mode-requires-clause-off : goal.write_use_palette_mode-requires-clause-off
write_use_palette_mode-requires-clause-off g c =
    let t = tile_of c.args.self.now in
    let b = c.unwrap-size.result in
    let current : t.current ≡ Some b = search rules in
    (palette_allowed t b c.args.on (current_allowed Palette (palette_kind t) t.current b c.args.on current c.requires.rules)).0

pub write_use_palette_mode-requires-clause-size : goal.write_use_palette_mode-requires-clause-size
write_use_palette_mode-requires-clause-size g c =
    let t = tile_of c.args.self.now in
    let b = c.unwrap-size.result in
    let current : t.current ≡ Some b = search rules in
    (palette_allowed t b c.args.on (current_allowed Palette (palette_kind t) t.current b c.args.on current c.requires.rules)).1

pub write_use_palette_mode-requires-clause-width : goal.write_use_palette_mode-requires-clause-width
write_use_palette_mode-requires-clause-width g c =
    let current : c.args.self.now.current ≡ Some c.unwrap-size.result = search rules in
    (c.args.self.now.kept.current c.unwrap-size.result current).width

pub write_use_palette_mode-requires-clause-height : goal.write_use_palette_mode-requires-clause-height
write_use_palette_mode-requires-clause-height g c =
    let current : c.args.self.now.current ≡ Some c.unwrap-size.result = search rules in
    (c.args.self.now.kept.current c.unwrap-size.result current).height

pub invariant_of-self : goal.invariant_of-self
invariant_of-self g c =
    let t = tile_of c.args.self.now in
    let fc = c.write_use_palette_mode.new.self.fc in
    record { cdfs = c.write_use_palette_mode.ensures.moves.cdfs; kept = subst IsKept (sym (only_numbers t fc c.write_use_palette_mode.new.self.bc c.write_use_palette_mode.ensures.rest)) (numbers_kept fc t c.args.self.now.kept); switches = switched _ _ _ _ _ _ _ _ _ c.write_use_palette_mode.ensures.moves c.args.self.now.switches }

pub returns : goal.returns
returns g c =
    let t = tile_of c.args.self.now in
    let fc = c.write_use_palette_mode.new.self.fc in
    let u = with_numbers fc t in
    let b = c.unwrap-size.result in
    let on = c.args.on in
    let cs = sampling t in
    let current : t.current ≡ Some b = search rules in
    let allowed = current_allowed Palette (palette_kind t) t.current b on current c.requires.rules in
    let luma = ap is_dc c.mode_at-luma.ensures in
    let chroma = ap (λ n. has_chroma_at b.0.0.x b.0.0.y b.1 n c.ydec.result cs && is_dc c.chroma_mode-chroma.result) c.xdec.ensures
    ∙ ap (λ n. has_chroma_at b.0.0.x b.0.0.y b.1 (xdec_of cs) n cs && is_dc c.chroma_mode-chroma.result) c.ydec.ensures
    ∙ ap (λ d. has_chroma t b && d) c.chroma_mode-chroma.ensures in
    writes_same g.W.Known _ (Palette on) (palette_kind t b) on _ _ _ _ 26 (current_tree Palette (palette_kind t) t.current b current) refl
    allowed (palette_as _ b.1 _ _ _ _ on _ _ luma chroma (palette_allowed t b on allowed).0 c.write_use_palette_mode.ensures.wrote) (only_numbers t fc c.write_use_palette_mode.new.self.bc c.write_use_palette_mode.ensures.rest)
    (ap (λ (es : List Effect). changed_by_all es u) (current_effects Palette (palette_kind u) u.current b on current)) (omega arith) c.write_use_palette_mode.ensures.moves
