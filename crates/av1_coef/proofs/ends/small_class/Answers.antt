use Rattle.av1_geometry.proofs.Lookup.{small_end_at}
use Rattle.av1_coef.proofs.ends.small_class.Goals as goal

pub returns : goal.returns
returns c = rw c.from.ensures (small_end_at c.args.eob _ c.requires)
