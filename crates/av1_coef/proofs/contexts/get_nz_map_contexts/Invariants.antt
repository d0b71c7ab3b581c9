use Rattle.std.proofs.Common.{◌≡◌, ◌++◌, map, drop, pos}
use Rattle.std.specs.List.{range_with_len}
use Rattle.av1_coef.specs.Contexts.{scan_context, coded_height}
use Rattle.av1_coef.specs.Padded.{level_in}
use Rattle.av1_coef.proofs.contexts.get_nz_map_contexts.Given as goal

abbrev pub invariant-loop-i : goal.invariant-loop-i
invariant-loop-i l =
    l.contexts ≡ map (λ i. pos (scan_context l.tx_class l.tx_size (level_in (coded_height l.tx_size) l.levels) l.scan l.eob i)) (range_with_len 0 l.i) ++ drop l.i l.fn.contexts
