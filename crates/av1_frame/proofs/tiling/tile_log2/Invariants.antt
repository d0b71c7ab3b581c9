use Rattle.std.proofs.Common.{◌≡◌, ◌+◌, ◌-◌, ◌*◌, ◌^◌, ◌<◌, ◌≤◌}
use Rattle.av1_frame.specs.Tiling.{doublings}
use Rattle.av1_frame.proofs.tiling.tile_log2.Given as goal

-- what is counted, and what is left to count, make the whole
abbrev pub invariant-loop-doubled : goal.invariant-loop-doubled
invariant-loop-doubled l = record {
  whole : doublings l.target l.size l.target ≡ l.k + doublings (l.target - l.k) l.doubled l.target;
  power : l.doubled ≡ l.size * 2 ^ l.k;
  below : l.k < l.doubled;
  least : 1 ≤ l.k → l.size * 2 ^ (l.k - 1) < l.target;
}

abbrev pub decreases-loop-doubled : goal.decreases-loop-doubled
decreases-loop-doubled l = l.target - l.doubled
