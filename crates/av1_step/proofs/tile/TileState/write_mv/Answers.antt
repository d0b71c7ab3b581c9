use Rattle.std.proofs.Common.{◌≡◌, Some, refl, sym, subst, arith, rules}
use Rattle.av1_geometry.specs.declared.motion_vector.MotionVector.{MotionVector}
use Rattle.av1_geometry.specs.declared.motion_vector.MvSubpelPrecision.{MvSubpelPrecision}
use Rattle.av1_model.specs.Comes.{Writes as WritesAll, Begins}
use Rattle.av1_syntax.specs.Calls.{coded_in, learnt_in, stands}
use Rattle.av1_syntax.specs.Vectors.{difference, vector_element, IsDifference}
use Rattle.av1_step.specs.declared.step.TileStep.TheVariants.{Mv}
use Rattle.av1_step.specs.Kept.{IsKept}
use Rattle.av1_step.specs.State.{tile_of}
use Rattle.av1_step.specs.VectorSteps.{mv_kind, precision_of, reference_vector}
use Rattle.av1_step.proofs.Arms.{writes_whole, writes_front}
use Rattle.av1_step.proofs.Effects.{numbers_kept}
use Rattle.av1_step.proofs.FilterArms.{only_numbers}
use Rattle.av1_step.proofs.OfCurrent.{current_allowed, current_tree}
use Rattle.av1_step.proofs.StepLaws.{kept_after}
use Rattle.av1_step.proofs.VectorArms.{mv_entered}
use Rattle.av1_step.proofs.VectorSteps.{mv_allowed}
use Rattle.av1_step.proofs.Switches.{switched}
use Rattle.av1_step.proofs.tile.TileState.write_mv.Goals as goal

pub write_mv-requires-clause-valid : goal.write_mv-requires-clause-valid
write_mv-requires-clause-valid g c =
    let t = tile_of c.args.self.now in
    let b = c.unwrap-size.result in
    let list = c.args.list in
    let current : t.current ≡ Some b = search rules in
    (mv_allowed list t b c.args.mv (current_allowed (Mv list) (mv_kind list t) t.current b c.args.mv current c.requires.rules)).valid

pub write_mv-requires-clause-difference : goal.write_mv-requires-clause-difference
write_mv-requires-clause-difference g c =
    let t = tile_of c.args.self.now in
    let b = c.unwrap-size.result in
    let list = c.args.list in
    let current : t.current ≡ Some b = search rules in
    let fits = (mv_allowed list t b c.args.mv (current_allowed (Mv list) (mv_kind list t) t.current b c.args.mv current c.requires.rules)).fits in
    subst (λ (p : MvSubpelPrecision). IsDifference p (difference c.args.mv c.reference_vector-ref_mv.result)) (sym c.precision-precision.ensures)
    (subst (λ (ref : MotionVector). IsDifference (precision_of t.given.fi) (difference c.args.mv ref)) (sym c.reference_vector-ref_mv.ensures) fits)

pub invariant_of-self : goal.invariant_of-self
invariant_of-self g c =
    let t = tile_of c.args.self.now in
    let fc = c.write_mv.new.self.fc in
    record { cdfs = c.write_mv.ensures.moves.cdfs; kept = subst IsKept (sym (only_numbers t fc c.write_mv.new.self.bc c.write_mv.ensures.rest)) (numbers_kept fc t c.args.self.now.kept); switches = switched _ _ _ _ _ _ _ _ _ c.write_mv.ensures.moves c.args.self.now.switches }

pub returns-in_err-write_mv : goal.returns-in_err-write_mv
returns-in_err-write_mv g c =
    let t = tile_of c.args.self.now in
    let fc = c.write_mv.new.self.fc in
    let b = c.unwrap-size.result in
    let list = c.args.list in
    let mv = c.args.mv in
    let current : t.current ≡ Some b = search rules in
    let from = stands g.W.Known c.args.w.now c.args.self.now.cw in
    let to = stands g.W.Known c.write_mv.new.w c.write_mv.new.self in
    let front = subst (λ (p : MvSubpelPrecision). Begins coded_in learnt_in (vector_element (reference_vector list t) p).tree mv from to) c.precision-precision.ensures
    (subst (λ (ref : MotionVector). Begins coded_in learnt_in (vector_element ref c.precision-precision.result).tree mv from to) c.reference_vector-ref_mv.ensures c.in_err-write_mv.ensures.wrote) in
    writes_front g.W.Known c.from_residual.result c.in_err-write_mv.field-0.0 (search rules) (Mv list mv) (mv_kind list t b) mv _ _ _ _ 377 (current_tree (Mv list) (mv_kind list t) t.current b current) refl
    (current_allowed (Mv list) (mv_kind list t) t.current b mv current c.requires.rules) front (only_numbers t fc c.write_mv.new.self.bc c.in_err-write_mv.ensures.rest) (omega arith) c.in_err-write_mv.ensures.moves

pub invariant_of-self-2 : goal.invariant_of-self-2
invariant_of-self-2 g c =
    let t = tile_of c.args.self.now in
    let fc = c.write_mv.new.self.fc in
    let b = c.unwrap-size.result in
    let list = c.args.list in
    let mv = c.args.mv in
    let current : t.current ≡ Some b = search rules in
    let e = mv_entered list t fc b mv c.standing_at.result c.write_mv.new.self.bc c.set_motion_vectors.new.self current c.standing_at.ensures c.write_mv.ensures.rest c.set_motion_vectors.ensures in
    record { cdfs = c.write_mv.ensures.moves.cdfs; kept = subst IsKept (sym e) (kept_after (Mv list mv) fc t c.write_mv.ensures.moves.cdfs c.args.self.now.kept c.requires.rules); switches = switched _ _ _ _ _ _ _ _ _ c.write_mv.ensures.moves c.args.self.now.switches }

pub returns : goal.returns
returns g c =
    let t = tile_of c.args.self.now in
    let fc = c.write_mv.new.self.fc in
    let b = c.unwrap-size.result in
    let list = c.args.list in
    let mv = c.args.mv in
    let current : t.current ≡ Some b = search rules in
    let from = stands g.W.Known c.args.w.now c.args.self.now.cw in
    let to = stands g.W.Known c.write_mv.new.w c.write_mv.new.self in
    let whole = subst (λ (p : MvSubpelPrecision). WritesAll coded_in learnt_in (vector_element (reference_vector list t) p).tree mv from to) c.precision-precision.ensures
    (subst (λ (ref : MotionVector). WritesAll coded_in learnt_in (vector_element ref c.precision-precision.result).tree mv from to) c.reference_vector-ref_mv.ensures c.in_ok-write_mv.ensures.wrote) in
    let e = mv_entered list t fc b mv c.standing_at.result c.write_mv.new.self.bc c.set_motion_vectors.new.self current c.standing_at.ensures c.in_ok-write_mv.ensures.rest c.set_motion_vectors.ensures in
    writes_whole g.W.Known _ tt refl (Mv list mv) (mv_kind list t b) mv _ _ _ _ 377 (current_tree (Mv list) (mv_kind list t) t.current b current) refl
    (current_allowed (Mv list) (mv_kind list t) t.current b mv current c.requires.rules) whole e (omega arith) c.in_ok-write_mv.ensures.moves
