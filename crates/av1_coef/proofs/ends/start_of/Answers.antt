use Rattle.av1_geometry.proofs.Lookup.{group_start_at}
use Rattle.av1_coef.proofs.ends.start_of.Goals as goal

pub returns : goal.returns
returns c = rw c.from.ensures (group_start_at c.args.class _ c.requires)
