use Rattle.std.proofs.Common.{Ok, Err, sym, subst, arith, w16, rules}
use Rattle.std.proofs.lemmas.Int.{to_z-of_z}
use mir.Val.{SFits}
use Rattle.av1_geometry.specs.MotionVector.{is_vertical, is_horizontal}
use Rattle.av1_geometry.specs.declared.motion_vector.MvJointType.{MvJointType}
use Rattle.av1_syntax.proofs.VectorReads.{Joined, joined}
use Rattle.av1_syntax.proofs.VectorWrites.{components_refused, components_wrote, where_as}
use Rattle.av1_syntax.proofs.Moving.{moves_then}
use Rattle.av1_syntax.proofs.context_writer.ContextWriter.write_components.Goals as goal

pub returns-in_err-write_component-clause-wrote : goal.returns-in_err-write_component-clause-wrote
returns-in_err-write_component-clause-wrote g c =
    let d = c.args.diff in
    let p = c.args.precision in
    let j = subst (λ (j : MvJointType). Joined p j d) (sym c.requires.joint) (joined p d c.requires.difference) in
    let f : SFits w16 d.row = search rules in
    components_refused c.from_residual.result p d c.args.joint j _ _ c.from_residual.ensures.0
    (where_as {U = Unit {0}} {E = Unit {0}} (Err tt) _ (is_vertical c.args.joint) 0 p _ d.row _ _ c.mv_joint_vertical.ensures (to_z-of_z w16 d.row f) c.in_err-write_component.ensures.wrote)

pub returns-clause-wrote : goal.returns-clause-wrote
returns-clause-wrote g c =
    let d = c.args.diff in
    let p = c.args.precision in
    let j = subst (λ (j : MvJointType). Joined p j d) (sym c.requires.joint) (joined p d c.requires.difference) in
    let f : SFits w16 d.row = search rules in
    let k : SFits w16 d.col = search rules in
    components_wrote c.write_component-2.result p d c.args.joint j _ _ _
    (where_as {U = Unit {0}} {E = Unit {0}} (Ok tt) _ (is_vertical c.args.joint) 0 p _ d.row _ _ c.mv_joint_vertical.ensures (to_z-of_z w16 d.row f) c.in_ok-write_component.ensures.wrote)
    (where_as c.write_component-2.result _ (is_horizontal c.args.joint) 1 p _ d.col _ _ c.mv_joint_horizontal.ensures (to_z-of_z w16 d.col k) c.write_component-2.ensures.wrote)

pub returns-clause-moves : goal.returns-clause-moves
returns-clause-moves g c = moves_then g.W.Known 182 182 364 _ _ _ _ _ _ _ _ _ (omega arith) c.in_ok-write_component.ensures.moves c.write_component-2.ensures.moves
