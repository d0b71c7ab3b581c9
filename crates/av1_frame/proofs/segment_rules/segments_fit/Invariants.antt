use Rattle.std.proofs.Common.{◌≡◌, ◌-◌}
use Rattle.std.specs.List.{list_all, range_with_len}
use Rattle.av1_frame.specs.SegmentRules.{segment_at_fits}
use Rattle.av1_frame.proofs.segment_rules.segments_fit.Given as goal

-- those that are left decide
abbrev pub invariant-loop-i : goal.invariant-loop-i
invariant-loop-i l = list_all (segment_at_fits l.s) (range_with_len 0 8) ≡ list_all (segment_at_fits l.s) (range_with_len l.i (8 - l.i))
