use Rattle.std.proofs.Common.{refl, rules}
use Rattle.av1_header.specs.Deltas.{changed_delta}
use Rattle.av1_header.proofs.RowLaws.{flag_then, signed_then, wrote_done}
use Rattle.av1_header.proofs.deltas.write_changed.Goals as goal

pub returns : goal.returns
unfolding changed_delta
returns c =
    flag_then _ _ _ _ _ _ _ _ _ _ _ _ _ _ _ _ _ c.flag_or-update.ensures refl refl (search (rules, c.same.ensures))
    (signed_then _ _ _ _ _ _ _ _ _ _ _ _ _ _ _ _ _ c.signed_if.ensures refl refl (search (rules, c.wide.ensures))
    (wrote_done _ _ _ _ _ refl))
