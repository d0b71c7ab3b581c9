use Rattle.std.proofs.Common.{arith, ◌/◌}
use Rattle.av1_geometry.proofs.Vectors.{class_within, class_reached, class_greatest}
use Rattle.av1_geometry.proofs.motion_vector.class_of.Goals as goal

pub returns-clause-bound : goal.returns-clause-bound
returns-clause-bound c =
    class_within (c.args.z / 8) c.log_in_base_2.result (omega (arith, c.if-z-ge8192.false)) c.log_in_base_2.ensures.at_most c.log_in_base_2.ensures.zero

pub returns-clause-reached : goal.returns-clause-reached
returns-clause-reached c = class_reached c.args.z c.log_in_base_2.result c.log_in_base_2.ensures.at_most c.log_in_base_2.ensures.zero

pub returns-clause-greatest : goal.returns-clause-greatest
returns-clause-greatest c d _ h = class_greatest c.args.z c.log_in_base_2.result d c.log_in_base_2.ensures.above h
