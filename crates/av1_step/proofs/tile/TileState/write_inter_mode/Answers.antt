use Rattle.std.proofs.Common.{◌≡◌, ◌≤◌, Some, refl, sym, subst, ◌∙◌, arith, rules}
use Rattle.av1_blocks.specs.declared.block_context.BlockContext.{BlockContext}
use Rattle.av1_blocks.specs.Grid.{IsInside}
use Rattle.av1_model.specs.Comes.{Writes as WritesAll, Begins}
use Rattle.av1_syntax.specs.Calls.{coded_in, learnt_in, stands}
use Rattle.av1_syntax.specs.InterModes.{inter_mode_element, new_context, ref_context}
use Rattle.av1_step.specs.declared.step.TileStep.TheVariants.{InterMode}
use Rattle.av1_step.specs.Kept.{IsKept}
use Rattle.av1_step.specs.ModeSteps.{first_pick, inter_mode_kind}
use Rattle.av1_step.specs.State.{tile_of}
use Rattle.av1_step.specs.Tile.{with_numbers}
use Rattle.av1_step.proofs.Arms.{writes_whole, writes_front}
use Rattle.av1_step.proofs.Effects.{numbers_kept}
use Rattle.av1_step.proofs.FilterArms.{only_numbers}
use Rattle.av1_step.proofs.ModeArms.{takes_entered}
use Rattle.av1_step.proofs.ModeSteps.{inter_mode_allowed, mode_contexts}
use Rattle.av1_step.proofs.OfCurrent.{current_there, current_allowed, current_entered, current_tree}
use Rattle.av1_step.proofs.StepLaws.{kept_after}
use Rattle.av1_step.proofs.TransformArms.{err_of}
use Rattle.av1_step.proofs.Switches.{switched}
use Rattle.av1_step.proofs.tile.TileState.write_inter_mode.Goals as goal

pub unwrap-size-requires : goal.unwrap-size-requires
unwrap-size-requires g c = let t = tile_of c.args.self.now in current_there InterMode (inter_mode_kind t) t.current c.args.mode c.requires.rules

pub write_inter_mode-requires-clause-mode : goal.write_inter_mode-requires-clause-mode
write_inter_mode-requires-clause-mode g c =
    let t = tile_of c.args.self.now in
    let b = c.unwrap-size.result in
    let current : t.current ≡ Some b = search rules in
    (inter_mode_allowed t b c.args.mode (current_allowed InterMode (inter_mode_kind t) t.current b c.args.mode current c.requires.rules)).2

pub write_inter_mode-requires-clause-new_context : goal.write_inter_mode-requires-clause-new_context
write_inter_mode-requires-clause-new_context g c =
    let t = tile_of c.args.self.now in
    subst (λ ctx. new_context ctx ≤ 5) (sym c.listed_context-ctx.ensures) (mode_contexts t c.args.self.now.kept).0

pub write_inter_mode-requires-clause-ref_context : goal.write_inter_mode-requires-clause-ref_context
write_inter_mode-requires-clause-ref_context g c =
    let t = tile_of c.args.self.now in
    subst (λ ctx. ref_context ctx ≤ 5) (sym c.listed_context-ctx.ensures) (mode_contexts t c.args.self.now.kept).1

pub enter_mode-requires : goal.enter_mode-requires
enter_mode-requires g c =
    let current : c.args.self.now.current ≡ Some c.unwrap-size.result = search rules in
    let b = c.args.self.now.kept.current c.unwrap-size.result current in
    subst (λ (bc : BlockContext). IsInside bc.blocks c.unwrap-size.result.0.0) (sym c.in_ok-write_inter_mode.ensures.rest) (record { column = b.column; row = b.row })

pub invariant_of-self : goal.invariant_of-self
invariant_of-self g c =
    let t = tile_of c.args.self.now in
    let fc = c.write_inter_mode.new.self.fc in
    record { cdfs = c.write_inter_mode.ensures.moves.cdfs; kept = subst IsKept (sym (only_numbers t fc c.write_inter_mode.new.self.bc c.write_inter_mode.ensures.rest)) (numbers_kept fc t c.args.self.now.kept); switches = switched _ _ _ _ _ _ _ _ _ c.write_inter_mode.ensures.moves c.args.self.now.switches }

pub returns-in_err-write_inter_mode : goal.returns-in_err-write_inter_mode
returns-in_err-write_inter_mode g c =
    let t = tile_of c.args.self.now in
    let fc = c.write_inter_mode.new.self.fc in
    let b = c.unwrap-size.result in
    let m = c.args.mode in
    let current : t.current ≡ Some b = search rules in
    let e = err_of c.from_residual.result c.from_residual.ensures.0 in
    let front = subst (λ ctx. Begins coded_in learnt_in (inter_mode_element ctx).tree m (stands g.W.Known c.args.w.now c.args.self.now.cw) (stands g.W.Known c.write_inter_mode.new.w c.write_inter_mode.new.self)) c.listed_context-ctx.ensures
    c.in_err-write_inter_mode.ensures.wrote in
    writes_front g.W.Known c.from_residual.result e.0 e.1 (InterMode m) (inter_mode_kind t b) m _ _ _ _ 39 (current_tree InterMode (inter_mode_kind t) t.current b current) refl
    (current_allowed InterMode (inter_mode_kind t) t.current b m current c.requires.rules)
    front (only_numbers t fc c.write_inter_mode.new.self.bc c.in_err-write_inter_mode.ensures.rest) (omega arith) c.in_err-write_inter_mode.ensures.moves

pub invariant_of-self-2 : goal.invariant_of-self-2
invariant_of-self-2 g c =
    let t = tile_of c.args.self.now in
    let fc = c.write_inter_mode.new.self.fc in
    let u = with_numbers fc t in
    let b = c.unwrap-size.result in
    let m = c.args.mode in
    let current : t.current ≡ Some b = search rules in
    let e = takes_entered t fc b m m c.first_pick-pick.result (first_pick m) c.vectors_of-mvs.result c.write_inter_mode.new.self.bc c.enter_mode.new.blocks refl c.first_pick-pick.ensures c.vectors_of-mvs.ensures c.write_inter_mode.ensures.rest c.enter_mode.ensures
    ∙ current_entered InterMode (inter_mode_kind u) u.current b current u m in
    record { cdfs = c.write_inter_mode.ensures.moves.cdfs; kept = subst IsKept (sym e) (kept_after (InterMode m) fc t c.write_inter_mode.ensures.moves.cdfs c.args.self.now.kept c.requires.rules); switches = switched _ _ _ _ _ _ _ _ _ c.write_inter_mode.ensures.moves c.args.self.now.switches }

pub returns : goal.returns
returns g c =
    let t = tile_of c.args.self.now in
    let fc = c.write_inter_mode.new.self.fc in
    let u = with_numbers fc t in
    let b = c.unwrap-size.result in
    let m = c.args.mode in
    let current : t.current ≡ Some b = search rules in
    let e = takes_entered t fc b m m c.first_pick-pick.result (first_pick m) c.vectors_of-mvs.result c.write_inter_mode.new.self.bc c.enter_mode.new.blocks refl c.first_pick-pick.ensures c.vectors_of-mvs.ensures c.in_ok-write_inter_mode.ensures.rest c.enter_mode.ensures
    ∙ current_entered InterMode (inter_mode_kind u) u.current b current u m in
    let whole = subst (λ ctx. WritesAll coded_in learnt_in (inter_mode_element ctx).tree m (stands g.W.Known c.args.w.now c.args.self.now.cw) (stands g.W.Known c.write_inter_mode.new.w c.write_inter_mode.new.self)) c.listed_context-ctx.ensures
    c.in_ok-write_inter_mode.ensures.wrote in
    writes_whole g.W.Known _ tt refl (InterMode m) (inter_mode_kind t b) m _ _ _ _ 39 (current_tree InterMode (inter_mode_kind t) t.current b current) refl
    (current_allowed InterMode (inter_mode_kind t) t.current b m current c.requires.rules)
    whole e (omega arith) c.in_ok-write_inter_mode.ensures.moves
