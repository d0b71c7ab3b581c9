use Rattle.std.proofs.Common.{◌∙◌, ap, subst, arith}
use Rattle.av1_cdf.specs.Layout.{Slot}
use Rattle.av1_geometry.specs.declared.motion_vector.MvJointType.{MvJointType}
use Rattle.av1_model.specs.Comes.{Wrote}
use Rattle.av1_syntax.specs.Calls.{stands, coded_in, learnt_in}
use Rattle.av1_syntax.specs.Vectors.{joint_number, components_element}
use Rattle.av1_syntax.proofs.InterSlots.{joints_has}
use Rattle.av1_syntax.proofs.VectorReads.{joined}
use Rattle.av1_syntax.proofs.VectorWrites.{difference_refused, difference_wrote}
use Rattle.av1_syntax.proofs.Moving.{moves_then}
use Rattle.av1_syntax.proofs.context_writer.ContextWriter.write_difference.Goals as goal

pub symbol-requires-clause-s : goal.symbol-requires-clause-s
symbol-requires-clause-s g c =
    let long = ap (λ (s : Slot). s.len) c.joints_cdf.ensures ∙ joints_has.1 in
    omega (arith, long, c.joint_number.ensures.few)

pub returns-in_err-symbol-clause-wrote : goal.returns-in_err-symbol-clause-wrote
returns-in_err-symbol-clause-wrote g c =
    difference_refused c.from_residual.result c.args.precision c.args.diff _ _ c.joints_cdf.ensures (c.joint_number.ensures.value ∙ ap joint_number c.av1_get_mv_joint-joint.ensures) _ _ (joined c.args.precision c.args.diff c.requires.difference)
    c.from_residual.ensures.0 c.in_err-symbol.ensures.err

pub returns-clause-wrote : goal.returns-clause-wrote
returns-clause-wrote g c =
    let mid = stands g.W.Known c.symbol.new.w c.symbol.new.self in
    let new = stands g.W.Known c.write_components.new.w c.write_components.new.self in
    difference_wrote c.write_components.result c.args.precision c.args.diff _ _ c.joints_cdf.ensures (c.joint_number.ensures.value ∙ ap joint_number c.av1_get_mv_joint-joint.ensures) _ mid new c.in_ok-symbol.ensures.ok
    (subst (λ (j : MvJointType). Wrote coded_in learnt_in c.write_components.result (components_element c.args.precision j).tree c.args.diff mid new) c.av1_get_mv_joint-joint.ensures c.write_components.ensures.wrote)

pub returns-clause-moves : goal.returns-clause-moves
returns-clause-moves g c = moves_then g.W.Known 13 364 377 _ _ _ _ _ _ _ _ _ (omega arith) c.in_ok-symbol.ensures.moves c.write_components.ensures.moves
