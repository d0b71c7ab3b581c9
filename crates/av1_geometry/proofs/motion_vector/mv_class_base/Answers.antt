use Rattle.std.proofs.Common.{◌≤◌, sym, ◌∙◌, subst}
use Rattle.av1_geometry.proofs.Vectors.{shifted, class_base_above, power_bound}
use Rattle.av1_geometry.proofs.motion_vector.mv_class_base.Goals as goal

pub returns-then-mv_class-ne0-clause-value : goal.returns-then-mv_class-ne0-clause-value
returns-then-mv_class-ne0-clause-value c = shifted c.args.mv_class c.requires ∙ sym (class_base_above c.args.mv_class c.if-mv_class-ne0.true)

pub returns-then-mv_class-ne0-clause-bound : goal.returns-then-mv_class-ne0-clause-bound
returns-then-mv_class-ne0-clause-bound c = subst (λ n. n ≤ 8192) (sym (shifted c.args.mv_class c.requires)) (power_bound c.args.mv_class c.requires)
