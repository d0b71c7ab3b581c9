use Rattle.std.proofs.Common.{◌≡◌, ◌<◌, ◌+◌, List, true, Some, length, refl, sym, ap, subst, ◌∙◌, arith, rules}
use Rattle.av1_blocks.specs.declared.block_context.BlockContext.{BlockContext}
use Rattle.av1_blocks.specs.Grid.{IsInside}
use Rattle.av1_geometry.specs.declared.prediction_mode.PredictionMode.{PredictionMode}
use Rattle.av1_model.specs.Comes.{Writes as WritesAll, Begins}
use Rattle.av1_mvref.specs.Candidates.{drl_context}
use Rattle.av1_mvref.specs.declared.candidate.CandidateMV.{CandidateMV}
use Rattle.av1_syntax.specs.Calls.{coded_in, learnt_in, stands}
use Rattle.av1_syntax.specs.InterModes.{drl_mode_element}
use Rattle.av1_step.specs.declared.step.TileStep.TheVariants.{Drl}
use Rattle.av1_step.specs.Effect.{changed_by_all}
use Rattle.av1_step.specs.IntraSteps.{mode_at}
use Rattle.av1_step.specs.Kept.{IsKept}
use Rattle.av1_step.specs.ModeSteps.{drl_kind, variant}
use Rattle.av1_step.specs.State.{tile_of}
use Rattle.av1_step.specs.Tile.{with_numbers}
use Rattle.av1_step.proofs.Arms.{writes_whole, writes_front}
use Rattle.av1_step.proofs.Effects.{numbers_kept}
use Rattle.av1_step.proofs.FilterArms.{only_numbers}
use Rattle.av1_step.proofs.ModeArms.{takes_entered}
use Rattle.av1_step.proofs.ModeSteps.{drl_allowed, small_index}
use Rattle.av1_step.proofs.OfCurrent.{current_there, current_allowed, current_entered, current_tree}
use Rattle.av1_step.proofs.StepLaws.{kept_after}
use Rattle.av1_step.proofs.TransformArms.{err_of}
use Rattle.av1_step.proofs.Switches.{switched}
use Rattle.av1_step.proofs.tile.TileState.write_drl.Goals as goal

pub unwrap-b-requires : goal.unwrap-b-requires
unwrap-b-requires g c = let t = tile_of c.args.self.now in current_there (Drl c.args.index) (drl_kind c.args.index t) t.current c.args.later c.requires.rules

pub mode_at-before-requires : goal.mode_at-before-requires
mode_at-before-requires g c = search rules

pub overflow_add-pick : goal.overflow_add-pick
overflow_add-pick g c =
    let t = tile_of c.args.self.now in
    let i = c.args.index in
    let b = c.unwrap-b.result in
    let current : t.current ≡ Some b = search rules in
    let may = drl_allowed i t b c.args.later (current_allowed (Drl i) (drl_kind i t) t.current b c.args.later current c.requires.rules) in
    omega (arith, small_index i _ _ may.mode)

pub drl_ctx-ctx-requires : goal.drl_ctx-ctx-requires
drl_ctx-ctx-requires g c =
    let t = tile_of c.args.self.now in
    let i = c.args.index in
    let b = c.unwrap-b.result in
    let current : t.current ≡ Some b = search rules in
    subst (λ (l : List CandidateMV). i + 1 < length l) (sym c.listed.ensures) (drl_allowed i t b c.args.later (current_allowed (Drl i) (drl_kind i t) t.current b c.args.later current c.requires.rules)).more

pub enter_mode-requires : goal.enter_mode-requires
enter_mode-requires g c =
    let current : c.args.self.now.current ≡ Some c.unwrap-b.result = search rules in
    let b = c.args.self.now.kept.current c.unwrap-b.result current in
    subst (λ (bc : BlockContext). IsInside bc.blocks c.unwrap-b.result.0.0) (sym c.in_ok-write_drl_mode.ensures.rest) (record { column = b.column; row = b.row })

pub invariant_of-self : goal.invariant_of-self
invariant_of-self g c =
    let t = tile_of c.args.self.now in
    let fc = c.write_drl_mode.new.self.fc in
    record { cdfs = c.write_drl_mode.ensures.moves.cdfs; kept = subst IsKept (sym (only_numbers t fc c.write_drl_mode.new.self.bc c.write_drl_mode.ensures.rest)) (numbers_kept fc t c.args.self.now.kept); switches = switched _ _ _ _ _ _ _ _ _ c.write_drl_mode.ensures.moves c.args.self.now.switches }

pub returns-in_err-write_drl_mode : goal.returns-in_err-write_drl_mode
returns-in_err-write_drl_mode g c =
    let t = tile_of c.args.self.now in
    let fc = c.write_drl_mode.new.self.fc in
    let i = c.args.index in
    let b = c.unwrap-b.result in
    let later = c.args.later in
    let current : t.current ≡ Some b = search rules in
    let e = err_of c.from_residual.result c.from_residual.ensures.0 in
    let ctx = c.drl_ctx-ctx.ensures.value ∙ ap (λ (l : List CandidateMV). drl_context l i) c.listed.ensures in
    let front = subst (λ n. Begins coded_in learnt_in (drl_mode_element n).tree later (stands g.W.Known c.args.w.now c.args.self.now.cw) (stands g.W.Known c.write_drl_mode.new.w c.write_drl_mode.new.self)) ctx
    c.in_err-write_drl_mode.ensures.wrote in
    writes_front g.W.Known c.from_residual.result e.0 e.1 (Drl i later) (drl_kind i t b) later _ _ _ _ 13 (current_tree (Drl i) (drl_kind i t) t.current b current) refl
    (current_allowed (Drl i) (drl_kind i t) t.current b later current c.requires.rules)
    front (only_numbers t fc c.write_drl_mode.new.self.bc c.in_err-write_drl_mode.ensures.rest) (omega arith) c.in_err-write_drl_mode.ensures.moves

pub invariant_of-self-then-later : goal.invariant_of-self-then-later
invariant_of-self-then-later g c =
    let t = tile_of c.args.self.now in
    let fc = c.write_drl_mode.new.self.fc in
    let u = with_numbers fc t in
    let i = c.args.index in
    let b = c.unwrap-b.result in
    let later = c.args.later in
    let current : t.current ≡ Some b = search rules in
    let mode : c.variant-mode.result ≡ variant i (mode_at t b) = c.variant-mode.ensures ∙ ap (λ (m : PredictionMode). variant i m) c.mode_at-before.ensures in
    let e = takes_entered t fc b c.variant-mode.result (variant i (mode_at t b)) (i + 1) (i + 1) c.vectors_of-mvs.result c.write_drl_mode.new.self.bc c.enter_mode.new.blocks mode refl c.vectors_of-mvs.ensures c.write_drl_mode.ensures.rest c.enter_mode.ensures
    ∙ ap (λ d. changed_by_all ((drl_kind i u b).effects d) u) (sym c.if-later.true)
    ∙ current_entered (Drl i) (drl_kind i u) u.current b current u later in
    record { cdfs = c.write_drl_mode.ensures.moves.cdfs; kept = subst IsKept (sym e) (kept_after (Drl i later) fc t c.write_drl_mode.ensures.moves.cdfs c.args.self.now.kept c.requires.rules); switches = switched _ _ _ _ _ _ _ _ _ c.write_drl_mode.ensures.moves c.args.self.now.switches }

pub returns-then-later : goal.returns-then-later
returns-then-later g c =
    let t = tile_of c.args.self.now in
    let fc = c.write_drl_mode.new.self.fc in
    let u = with_numbers fc t in
    let i = c.args.index in
    let b = c.unwrap-b.result in
    let later = c.args.later in
    let current : t.current ≡ Some b = search rules in
    let mode : c.variant-mode.result ≡ variant i (mode_at t b) = c.variant-mode.ensures ∙ ap (λ (m : PredictionMode). variant i m) c.mode_at-before.ensures in
    let e = takes_entered t fc b c.variant-mode.result (variant i (mode_at t b)) (i + 1) (i + 1) c.vectors_of-mvs.result c.write_drl_mode.new.self.bc c.enter_mode.new.blocks mode refl c.vectors_of-mvs.ensures c.in_ok-write_drl_mode.ensures.rest c.enter_mode.ensures
    ∙ ap (λ d. changed_by_all ((drl_kind i u b).effects d) u) (sym c.if-later.true)
    ∙ current_entered (Drl i) (drl_kind i u) u.current b current u later in
    let ctx = c.drl_ctx-ctx.ensures.value ∙ ap (λ (l : List CandidateMV). drl_context l i) c.listed.ensures in
    let whole = subst (λ n. WritesAll coded_in learnt_in (drl_mode_element n).tree later (stands g.W.Known c.args.w.now c.args.self.now.cw) (stands g.W.Known c.write_drl_mode.new.w c.write_drl_mode.new.self)) ctx
    c.in_ok-write_drl_mode.ensures.wrote in
    writes_whole g.W.Known _ tt refl (Drl i later) (drl_kind i t b) later _ _ _ _ 13 (current_tree (Drl i) (drl_kind i t) t.current b current) refl
    (current_allowed (Drl i) (drl_kind i t) t.current b later current c.requires.rules)
    whole e (omega arith) c.in_ok-write_drl_mode.ensures.moves

pub returns-else-later : goal.returns-else-later
returns-else-later g c =
    let t = tile_of c.args.self.now in
    let fc = c.write_drl_mode.new.self.fc in
    let u = with_numbers fc t in
    let i = c.args.index in
    let b = c.unwrap-b.result in
    let later = c.args.later in
    let current : t.current ≡ Some b = search rules in
    let e = only_numbers t fc c.write_drl_mode.new.self.bc c.in_ok-write_drl_mode.ensures.rest
    ∙ ap (λ d. changed_by_all ((drl_kind i u b).effects d) u) (sym c.if-later.false)
    ∙ current_entered (Drl i) (drl_kind i u) u.current b current u later in
    let ctx = c.drl_ctx-ctx.ensures.value ∙ ap (λ (l : List CandidateMV). drl_context l i) c.listed.ensures in
    let whole = subst (λ n. WritesAll coded_in learnt_in (drl_mode_element n).tree later (stands g.W.Known c.args.w.now c.args.self.now.cw) (stands g.W.Known c.write_drl_mode.new.w c.write_drl_mode.new.self)) ctx
    c.in_ok-write_drl_mode.ensures.wrote in
    writes_whole g.W.Known _ tt refl (Drl i later) (drl_kind i t b) later _ _ _ _ 13 (current_tree (Drl i) (drl_kind i t) t.current b current) refl
    (current_allowed (Drl i) (drl_kind i t) t.current b later current c.requires.rules)
    whole e (omega arith) c.in_ok-write_drl_mode.ensures.moves
