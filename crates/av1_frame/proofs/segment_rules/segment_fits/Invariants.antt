use Rattle.std.proofs.Common.{◌≡◌, ◌-◌}
use Rattle.std.specs.List.{list_all, range_with_len}
use Rattle.av1_frame.specs.SegmentRules.{feature_fits}
use Rattle.av1_frame.proofs.segment_rules.segment_fits.Given as goal

-- those that are left decide
abbrev pub invariant-loop-j : goal.invariant-loop-j
invariant-loop-j l = list_all (feature_fits l.features l.values) (range_with_len 0 8) ≡ list_all (feature_fits l.features l.values) (range_with_len l.j (8 - l.j))
