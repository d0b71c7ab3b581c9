use Rattle.std.proofs.Common.{refl, rules}
use Rattle.av1_header.specs.Deltas.{read_delta_q}
use Rattle.av1_header.proofs.RowLaws.{flag_then, signed_then, wrote_done}
use Rattle.av1_header.proofs.deltas.write_delta.Goals as goal

pub returns : goal.returns
unfolding read_delta_q
returns c =
    flag_then _ _ _ _ _ _ _ _ _ _ _ _ _ _ _ _ _ c.flag_or-coded.ensures refl refl (search (rules, c.is_some.ensures))
    (signed_then _ _ _ _ _ _ _ _ _ _ _ _ _ _ _ _ _ c.signed_if.ensures refl refl (search (rules, c.wide.ensures))
    (wrote_done _ _ _ _ _ refl))
