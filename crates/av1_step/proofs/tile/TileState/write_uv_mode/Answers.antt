use Rattle.std.proofs.Common.{◌≡◌, Some, refl, sym, ap, subst, ◌∙◌, arith, rules}
use Rattle.av1_blocks.specs.declared.block_context.BlockContext.{BlockContext}
use Rattle.av1_geometry.specs.PredictionMode.{prediction_mode_number}
use Rattle.av1_geometry.specs.declared.prediction_mode.PredictionMode.{PredictionMode}
use Rattle.av1_model.specs.Comes.{Writes as WritesAll, Begins}
use Rattle.av1_syntax.specs.IntraModes.{uv_mode_element}
use Rattle.av1_syntax.specs.Calls.{coded_in, learnt_in, stands}
use Rattle.av1_step.specs.declared.step.TileStep.TheVariants.{UvMode}
use Rattle.av1_step.specs.IntraSteps.{uv_mode_kind}
use Rattle.av1_step.specs.Kept.{IsKept}
use Rattle.av1_step.specs.State.{tile_of}
use Rattle.av1_step.specs.Step.{entered}
use Rattle.av1_step.specs.Tile.{with_numbers}
use Rattle.av1_step.proofs.Arms.{writes_whole, writes_front}
use Rattle.av1_step.proofs.OfCurrent.{current_there, current_allowed, current_tree, current_entered}
use Rattle.av1_step.proofs.Effects.{numbers_kept}
use Rattle.av1_step.proofs.IntraSteps.{luma_below, uv_mode_allowed}
use Rattle.av1_step.proofs.StepLaws.{kept_after}
use Rattle.av1_step.proofs.Switches.{switched}
use Rattle.av1_step.proofs.tile.TileState.write_uv_mode.Goals as goal

pub unwrap-b-requires : goal.unwrap-b-requires
unwrap-b-requires g c = let t = tile_of c.args.self.now in current_there UvMode (uv_mode_kind t) t.current c.args.mode c.requires.rules

pub mode_at-luma-requires : goal.mode_at-luma-requires
mode_at-luma-requires g c = search rules

pub write_intra_uv_mode-requires-clause-luma : goal.write_intra_uv_mode-requires-clause-luma
write_intra_uv_mode-requires-clause-luma g c =
    let t = tile_of c.args.self.now in
    let b = c.unwrap-b.result in
    let current : t.current ≡ Some b = search rules in
    let allowed = current_allowed UvMode (uv_mode_kind t) t.current b c.args.mode current c.requires.rules in
    let low = luma_below t b c.args.self.now.kept (c.args.self.now.kept.current b current) (uv_mode_allowed t b c.args.mode allowed).0 in
    omega (arith, low, ap prediction_mode_number c.mode_at-luma.ensures)

pub write_intra_uv_mode-requires-clause-chroma : goal.write_intra_uv_mode-requires-clause-chroma
write_intra_uv_mode-requires-clause-chroma g c =
    let t = tile_of c.args.self.now in
    let b = c.unwrap-b.result in
    let current : t.current ≡ Some b = search rules in
    (uv_mode_allowed t b c.args.mode (current_allowed UvMode (uv_mode_kind t) t.current b c.args.mode current c.requires.rules)).1

pub invariant_of-self : goal.invariant_of-self
invariant_of-self g c =
    let t = tile_of c.args.self.now in
    let fc = c.write_intra_uv_mode.new.self.fc in
    let e : record t { numbers = fc; bc = c.write_intra_uv_mode.new.self.bc } ≡ with_numbers fc t = ap (λ (bc : BlockContext). record t { numbers = fc; bc = bc }) c.write_intra_uv_mode.ensures.rest in
    record { cdfs = c.write_intra_uv_mode.ensures.moves.cdfs; kept = subst IsKept (sym e) (numbers_kept fc t c.args.self.now.kept); switches = switched _ _ _ _ _ _ _ _ _ c.write_intra_uv_mode.ensures.moves c.args.self.now.switches }

pub returns-in_err-write_intra_uv_mode : goal.returns-in_err-write_intra_uv_mode
returns-in_err-write_intra_uv_mode g c =
    let t = tile_of c.args.self.now in
    let fc = c.write_intra_uv_mode.new.self.fc in
    let b = c.unwrap-b.result in
    let m = c.args.mode in
    let kind = uv_mode_kind t in
    let current : t.current ≡ Some b = search rules in
    let allowed = current_allowed UvMode kind t.current b m current c.requires.rules in
    let e : record t { numbers = fc; bc = c.write_intra_uv_mode.new.self.bc } ≡ with_numbers fc t = ap (λ (bc : BlockContext). record t { numbers = fc; bc = bc }) c.in_err-write_intra_uv_mode.ensures.rest in
    let front = subst (λ (luma : PredictionMode). Begins coded_in learnt_in (uv_mode_element luma b.1).tree m (stands g.W.Known c.args.w.now c.args.self.now.cw) (stands g.W.Known c.write_intra_uv_mode.new.w c.write_intra_uv_mode.new.self)) c.mode_at-luma.ensures
    c.in_err-write_intra_uv_mode.ensures.wrote in
    writes_front g.W.Known c.from_residual.result c.in_err-write_intra_uv_mode.field-0.0 (search rules) (UvMode m) (kind b) m _ _ _ _ 13 (current_tree UvMode kind t.current b current) refl allowed
    front e (omega arith) c.in_err-write_intra_uv_mode.ensures.moves

pub invariant_of-self-2 : goal.invariant_of-self-2
invariant_of-self-2 g c =
    let t = tile_of c.args.self.now in
    let fc = c.write_intra_uv_mode.new.self.fc in
    let u = with_numbers fc t in
    let b = c.unwrap-b.result in
    let m = c.args.mode in
    let current : t.current ≡ Some b = search rules in
    let e : record t { numbers = fc; bc = c.write_intra_uv_mode.new.self.bc; uv = Some m } ≡ entered (UvMode m) u =
    ap (λ (bc : BlockContext). record t { numbers = fc; bc = bc; uv = Some m }) c.write_intra_uv_mode.ensures.rest ∙ current_entered UvMode (uv_mode_kind u) u.current b current u m in
    record { cdfs = c.write_intra_uv_mode.ensures.moves.cdfs; kept = subst IsKept (sym e) (kept_after (UvMode m) fc t c.write_intra_uv_mode.ensures.moves.cdfs c.args.self.now.kept c.requires.rules); switches = switched _ _ _ _ _ _ _ _ _ c.write_intra_uv_mode.ensures.moves c.args.self.now.switches }

pub returns : goal.returns
returns g c =
    let t = tile_of c.args.self.now in
    let fc = c.write_intra_uv_mode.new.self.fc in
    let u = with_numbers fc t in
    let b = c.unwrap-b.result in
    let m = c.args.mode in
    let kind = uv_mode_kind t in
    let current : t.current ≡ Some b = search rules in
    let allowed = current_allowed UvMode kind t.current b m current c.requires.rules in
    let e : record t { numbers = fc; bc = c.write_intra_uv_mode.new.self.bc; uv = Some m } ≡ entered (UvMode m) u =
    ap (λ (bc : BlockContext). record t { numbers = fc; bc = bc; uv = Some m }) c.in_ok-write_intra_uv_mode.ensures.rest ∙ current_entered UvMode (uv_mode_kind u) u.current b current u m in
    let whole = subst (λ (luma : PredictionMode). WritesAll coded_in learnt_in (uv_mode_element luma b.1).tree m (stands g.W.Known c.args.w.now c.args.self.now.cw) (stands g.W.Known c.write_intra_uv_mode.new.w c.write_intra_uv_mode.new.self)) c.mode_at-luma.ensures
    c.in_ok-write_intra_uv_mode.ensures.wrote in
    writes_whole g.W.Known _ tt refl (UvMode m) (kind b) m _ _ _ _ 13 (current_tree UvMode kind t.current b current) refl allowed
    whole e (omega arith) c.in_ok-write_intra_uv_mode.ensures.moves
