use Rattle.std.proofs.Common.{◌≡◌, Some, refl, sym, ap, subst, ◌∙◌, arith, rules}
use Rattle.av1_blocks.specs.declared.block_context.BlockContext.{BlockContext}
use Rattle.av1_blocks.specs.Grid.{IsInside}
use Rattle.av1_step.specs.declared.step.TileStep.TheVariants.{IntraModeKf}
use Rattle.av1_step.specs.IntraSteps.{intra_mode_kf_kind}
use Rattle.av1_step.specs.Kept.{IsKept}
use Rattle.av1_step.specs.State.{tile_of}
use Rattle.av1_step.specs.Step.{entered}
use Rattle.av1_step.specs.Tile.{with_numbers}
use Rattle.av1_step.proofs.Arms.{writes_whole, writes_front}
use Rattle.av1_step.proofs.OfCurrent.{current_there, current_allowed, current_tree, current_entered}
use Rattle.av1_step.proofs.Effects.{numbers_kept}
use Rattle.av1_step.proofs.IntraSteps.{intra_neighbours, intra_mode_kf_allowed, mode_entered}
use Rattle.av1_step.proofs.StepLaws.{kept_after}
use Rattle.av1_step.proofs.Switches.{switched}
use Rattle.av1_step.proofs.tile.TileState.write_intra_mode_kf.Goals as goal

pub unwrap-size-requires : goal.unwrap-size-requires
unwrap-size-requires g c = let t = tile_of c.args.self.now in current_there IntraModeKf (intra_mode_kf_kind t) t.current c.args.mode c.requires.rules

pub write_intra_mode_kf-requires-clause-inside : goal.write_intra_mode_kf-requires-clause-inside
write_intra_mode_kf-requires-clause-inside g c =
    let current : c.args.self.now.current ≡ Some c.unwrap-size.result = search rules in
    let b = c.args.self.now.kept.current c.unwrap-size.result current in
    record { column = b.column; row = b.row }

pub write_intra_mode_kf-requires-clause-neighbours : goal.write_intra_mode_kf-requires-clause-neighbours
write_intra_mode_kf-requires-clause-neighbours g c =
    let t = tile_of c.args.self.now in
    let b = c.unwrap-size.result in
    let current : t.current ≡ Some b = search rules in
    let allowed = current_allowed IntraModeKf (intra_mode_kf_kind t) t.current b c.args.mode current c.requires.rules in
    intra_neighbours t b c.args.self.now.kept (c.args.self.now.kept.current b current) (intra_mode_kf_allowed t b c.args.mode allowed).0

pub write_intra_mode_kf-requires-clause-luma : goal.write_intra_mode_kf-requires-clause-luma
write_intra_mode_kf-requires-clause-luma g c =
    let t = tile_of c.args.self.now in
    let b = c.unwrap-size.result in
    let current : t.current ≡ Some b = search rules in
    (intra_mode_kf_allowed t b c.args.mode (current_allowed IntraModeKf (intra_mode_kf_kind t) t.current b c.args.mode current c.requires.rules)).1

pub set_mode-requires : goal.set_mode-requires
set_mode-requires g c =
    let current : c.args.self.now.current ≡ Some c.unwrap-size.result = search rules in
    let b = c.args.self.now.kept.current c.unwrap-size.result current in
    subst (λ (bc : BlockContext). IsInside bc.blocks c.unwrap-size.result.0.0) (sym c.in_ok-write_intra_mode_kf.ensures.rest) (record { column = b.column; row = b.row })

pub invariant_of-self : goal.invariant_of-self
invariant_of-self g c =
    let t = tile_of c.args.self.now in
    let fc = c.write_intra_mode_kf.new.self.fc in
    let e : record t { numbers = fc; bc = c.write_intra_mode_kf.new.self.bc } ≡ with_numbers fc t = ap (λ (bc : BlockContext). record t { numbers = fc; bc = bc }) c.write_intra_mode_kf.ensures.rest in
    record { cdfs = c.write_intra_mode_kf.ensures.moves.cdfs; kept = subst IsKept (sym e) (numbers_kept fc t c.args.self.now.kept); switches = switched _ _ _ _ _ _ _ _ _ c.write_intra_mode_kf.ensures.moves c.args.self.now.switches }

pub returns-in_err-write_intra_mode_kf : goal.returns-in_err-write_intra_mode_kf
returns-in_err-write_intra_mode_kf g c =
    let t = tile_of c.args.self.now in
    let fc = c.write_intra_mode_kf.new.self.fc in
    let b = c.unwrap-size.result in
    let m = c.args.mode in
    let kind = intra_mode_kf_kind t in
    let current : t.current ≡ Some b = search rules in
    let allowed = current_allowed IntraModeKf kind t.current b m current c.requires.rules in
    let e : record t { numbers = fc; bc = c.write_intra_mode_kf.new.self.bc } ≡ with_numbers fc t = ap (λ (bc : BlockContext). record t { numbers = fc; bc = bc }) c.in_err-write_intra_mode_kf.ensures.rest in
    writes_front g.W.Known c.from_residual.result c.in_err-write_intra_mode_kf.field-0.0 (search rules) (IntraModeKf m) (kind b) m _ _ _ _ 13 (current_tree IntraModeKf kind t.current b current) refl allowed
    c.in_err-write_intra_mode_kf.ensures.wrote e (omega arith) c.in_err-write_intra_mode_kf.ensures.moves

pub invariant_of-self-2 : goal.invariant_of-self-2
invariant_of-self-2 g c =
    let t = tile_of c.args.self.now in
    let fc = c.write_intra_mode_kf.new.self.fc in
    let u = with_numbers fc t in
    let b = c.unwrap-size.result in
    let m = c.args.mode in
    let current : t.current ≡ Some b = search rules in
    let e : record t { numbers = fc; bc = record c.write_intra_mode_kf.new.self.bc { blocks = c.set_mode.new.self } } ≡ entered (IntraModeKf m) u =
    mode_entered t b m fc c.write_intra_mode_kf.new.self.bc c.set_mode.new.self c.write_intra_mode_kf.ensures.rest c.set_mode.ensures ∙ current_entered IntraModeKf (intra_mode_kf_kind u) u.current b current u m in
    record { cdfs = c.write_intra_mode_kf.ensures.moves.cdfs; kept = subst IsKept (sym e) (kept_after (IntraModeKf m) fc t c.write_intra_mode_kf.ensures.moves.cdfs c.args.self.now.kept c.requires.rules); switches = switched _ _ _ _ _ _ _ _ _ c.write_intra_mode_kf.ensures.moves c.args.self.now.switches }

pub returns : goal.returns
returns g c =
    let t = tile_of c.args.self.now in
    let fc = c.write_intra_mode_kf.new.self.fc in
    let u = with_numbers fc t in
    let b = c.unwrap-size.result in
    let m = c.args.mode in
    let kind = intra_mode_kf_kind t in
    let current : t.current ≡ Some b = search rules in
    let allowed = current_allowed IntraModeKf kind t.current b m current c.requires.rules in
    let e : record t { numbers = fc; bc = record c.write_intra_mode_kf.new.self.bc { blocks = c.set_mode.new.self } } ≡ entered (IntraModeKf m) u =
    mode_entered t b m fc c.write_intra_mode_kf.new.self.bc c.set_mode.new.self c.in_ok-write_intra_mode_kf.ensures.rest c.set_mode.ensures ∙ current_entered IntraModeKf (intra_mode_kf_kind u) u.current b current u m in
    writes_whole g.W.Known _ tt refl (IntraModeKf m) (kind b) m _ _ _ _ 13 (current_tree IntraModeKf kind t.current b current) refl allowed
    c.in_ok-write_intra_mode_kf.ensures.wrote e (omega arith) c.in_ok-write_intra_mode_kf.ensures.moves
