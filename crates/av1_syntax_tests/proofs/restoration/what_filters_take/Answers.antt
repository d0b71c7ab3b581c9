use Rattle.std.proofs.Common.{[], codes}
use Rattle.av1_cdf.specs.Layout.{slot}
use Rattle.av1_syntax.proofs.Restoring.{switchable_has}
use Rattle.av1_syntax_tests.proofs.restoration.what_filters_take.Goals as goal

pub count_lrf_switchable-requires-clause-cdf : goal.count_lrf_switchable-requires-clause-cdf
count_lrf_switchable-requires-clause-cdf g c = c.in_ok-cw.ensures.cdfs.valid (slot (codes "lrf_switchable_cdf") []) switchable_has.0

pub count_lrf_switchable-requires-2-clause-cdf : goal.count_lrf_switchable-requires-2-clause-cdf
count_lrf_switchable-requires-2-clause-cdf g c = c.in_ok-cw.ensures.cdfs.valid (slot (codes "lrf_switchable_cdf") []) switchable_has.0
