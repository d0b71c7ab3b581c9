use Rattle.std.proofs.Common.{subst}
use Rattle.av1_header.specs.Filters.{global_motion_params}
use Rattle.av1_header.specs.Rows.{Wrote}
use Rattle.av1_header.proofs.frame_header.write_all_motions.Goals as goal

pub returns : goal.returns
returns c = subst (λ k. Wrote (global_motion_params k c.args.high_precision) c.args.fi.now tt c.args.refused.now c.write_motions.new.refused c.args.bits.now c.write_motions.new.bits) c.motions.ensures.value c.write_motions.ensures
