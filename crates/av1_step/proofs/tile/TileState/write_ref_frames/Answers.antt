use Rattle.std.proofs.Common.{◌≡◌, Some, refl, sym, subst, arith, rules}
use Rattle.av1_blocks.specs.declared.block_context.BlockContext.{BlockContext}
use Rattle.av1_blocks.specs.Grid.{Grid, IsInside}
use Rattle.av1_step.specs.declared.step.TileStep.TheVariants.{RefFrames}
use Rattle.av1_step.specs.InterSteps.{ref_frames_kind}
use Rattle.av1_step.specs.Kept.{IsKept}
use Rattle.av1_step.specs.State.{tile_of}
use Rattle.av1_step.proofs.Arms.{writes_whole, writes_front}
use Rattle.av1_step.proofs.DeltaSteps.{is_whole}
use Rattle.av1_step.proofs.Effects.{numbers_kept}
use Rattle.av1_step.proofs.FilterArms.{only_numbers}
use Rattle.av1_step.proofs.InterArms.{ref_frames_entered}
use Rattle.av1_step.proofs.InterSteps.{ref_frames_allowed}
use Rattle.av1_step.proofs.OfCurrent.{current_there, current_allowed, current_tree}
use Rattle.av1_step.proofs.Ready.{ready}
use Rattle.av1_step.proofs.StepLaws.{kept_after}
use Rattle.av1_step.proofs.TransformArms.{err_of}
use Rattle.av1_step.proofs.Switches.{switched}
use Rattle.av1_step.proofs.tile.TileState.write_ref_frames.Goals as goal

pub unwrap-size-requires : goal.unwrap-size-requires
unwrap-size-requires g c = let t = tile_of c.args.self.now in current_there RefFrames (ref_frames_kind t) t.current c.args.refs c.requires.rules

pub code_ref_frames-requires-clause-inside : goal.code_ref_frames-requires-clause-inside
code_ref_frames-requires-clause-inside g c =
    let current : c.args.self.now.current ≡ Some c.unwrap-size.result = search rules in
    let b = c.args.self.now.kept.current c.unwrap-size.result current in
    record { column = b.column; row = b.row }

pub code_ref_frames-requires-clause-whole : goal.code_ref_frames-requires-clause-whole
code_ref_frames-requires-clause-whole g c = is_whole (tile_of c.args.self.now) c.args.self.now.kept

pub code_ref_frames-requires-clause-ready : goal.code_ref_frames-requires-clause-ready
code_ref_frames-requires-clause-ready g c = ready (tile_of c.args.self.now) c.args.self.now.kept

pub code_ref_frames-requires-clause-refs : goal.code_ref_frames-requires-clause-refs
code_ref_frames-requires-clause-refs g c =
    let t = tile_of c.args.self.now in
    let b = c.unwrap-size.result in
    let current : t.current ≡ Some b = search rules in
    ref_frames_allowed t b c.args.refs (current_allowed RefFrames (ref_frames_kind t) t.current b c.args.refs current c.requires.rules)

pub note_counts-requires : goal.note_counts-requires
note_counts-requires g c =
    let current : c.args.self.now.current ≡ Some c.unwrap-size.result = search rules in
    let b = c.args.self.now.kept.current c.unwrap-size.result current in
    subst (λ (bc : BlockContext). IsInside bc.blocks c.unwrap-size.result.0.0) (sym c.in_ok-code_ref_frames.ensures.rest) (record { column = b.column; row = b.row })

pub enter_refs-requires : goal.enter_refs-requires
enter_refs-requires g c =
    let current : c.args.self.now.current ≡ Some c.unwrap-size.result = search rules in
    let b = c.args.self.now.kept.current c.unwrap-size.result current in
    let still : IsInside c.code_ref_frames.new.cw.bc.blocks c.unwrap-size.result.0.0 =
    subst (λ (bc : BlockContext). IsInside bc.blocks c.unwrap-size.result.0.0) (sym c.in_ok-code_ref_frames.ensures.rest) (record { column = b.column; row = b.row }) in
    subst (λ (grid : Grid). IsInside grid c.unwrap-size.result.0.0) (sym c.note_counts.ensures) (record { column = still.column; row = still.row })

pub invariant_of-self : goal.invariant_of-self
invariant_of-self g c =
    let t = tile_of c.args.self.now in
    let fc = c.code_ref_frames.new.cw.fc in
    record { cdfs = c.code_ref_frames.ensures.moves.cdfs; kept = subst IsKept (sym (only_numbers t fc c.code_ref_frames.new.cw.bc c.code_ref_frames.ensures.rest)) (numbers_kept fc t c.args.self.now.kept); switches = switched _ _ _ _ _ _ _ _ _ c.code_ref_frames.ensures.moves c.args.self.now.switches }

pub returns-in_err-code_ref_frames : goal.returns-in_err-code_ref_frames
returns-in_err-code_ref_frames g c =
    let t = tile_of c.args.self.now in
    let fc = c.code_ref_frames.new.cw.fc in
    let b = c.unwrap-size.result in
    let rs = c.args.refs in
    let current : t.current ≡ Some b = search rules in
    let e = err_of c.from_residual.result c.from_residual.ensures.0 in
    writes_front g.W.Known c.from_residual.result e.0 e.1 (RefFrames rs) (ref_frames_kind t b) rs _ _ _ _ 78 (current_tree RefFrames (ref_frames_kind t) t.current b current) refl
    (current_allowed RefFrames (ref_frames_kind t) t.current b rs current c.requires.rules) c.in_err-code_ref_frames.ensures.wrote
    (only_numbers t fc c.code_ref_frames.new.cw.bc c.in_err-code_ref_frames.ensures.rest) (omega arith) c.in_err-code_ref_frames.ensures.moves

pub invariant_of-self-2 : goal.invariant_of-self-2
invariant_of-self-2 g c =
    let t = tile_of c.args.self.now in
    let fc = c.code_ref_frames.new.cw.fc in
    let b = c.unwrap-size.result in
    let rs = c.args.refs in
    let current : t.current ≡ Some b = search rules in
    let e = ref_frames_entered t fc b rs c.mode_of_refs.result c.code_ref_frames.new.cw.bc c.note_counts.new.blocks c.enter_refs.new.blocks current c.code_ref_frames.ensures.rest c.mode_of_refs.ensures c.note_counts.ensures c.enter_refs.ensures in
    record { cdfs = c.code_ref_frames.ensures.moves.cdfs; kept = subst IsKept (sym e) (kept_after (RefFrames rs) fc t c.code_ref_frames.ensures.moves.cdfs c.args.self.now.kept c.requires.rules); switches = switched _ _ _ _ _ _ _ _ _ c.code_ref_frames.ensures.moves c.args.self.now.switches }

pub returns : goal.returns
returns g c =
    let t = tile_of c.args.self.now in
    let fc = c.code_ref_frames.new.cw.fc in
    let b = c.unwrap-size.result in
    let rs = c.args.refs in
    let current : t.current ≡ Some b = search rules in
    let e = ref_frames_entered t fc b rs c.mode_of_refs.result c.code_ref_frames.new.cw.bc c.note_counts.new.blocks c.enter_refs.new.blocks current c.in_ok-code_ref_frames.ensures.rest c.mode_of_refs.ensures c.note_counts.ensures c.enter_refs.ensures in
    writes_whole g.W.Known _ tt refl (RefFrames rs) (ref_frames_kind t b) rs _ _ _ _ 78 (current_tree RefFrames (ref_frames_kind t) t.current b current) refl (current_allowed RefFrames (ref_frames_kind t) t.current b rs current c.requires.rules)
    c.in_ok-code_ref_frames.ensures.wrote e (omega arith) c.in_ok-code_ref_frames.ensures.moves
