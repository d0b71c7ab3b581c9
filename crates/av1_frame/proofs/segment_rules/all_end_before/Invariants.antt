use Rattle.std.proofs.Common.{◌≡◌, ◌-◌}
use Rattle.std.specs.List.{list_all, range_with_len}
use Rattle.av1_frame.specs.SegmentRules.{ends_before}
use Rattle.av1_frame.proofs.segment_rules.all_end_before.Given as goal

-- those that are left decide
abbrev pub invariant-loop-i : goal.invariant-loop-i
invariant-loop-i l = list_all (ends_before l.s) (range_with_len 0 8) ≡ list_all (ends_before l.s) (range_with_len l.i (8 - l.i))
