use Rattle.std.proofs.Common.{◌≡◌, ℕ, ◌<◌, ◌≤◌, get_or}
use Rattle.std.specs.Prelude.{if◌then◌else◌}
use Rattle.av1_cdf.specs.Context.{is_count}
use Rattle.av1_cdf.specs.Runs.{HasOrEnds, IsBefore}
use Rattle.av1_cdf.proofs.cdf_context.reset_counts.Given as goal

abbrev pub invariant-loop-k : goal.invariant-loop-k
invariant-loop-k l = record {
  run : HasOrEnds l.run l.k;
  cell : IsBefore l.cell l.k;
  written : (j : ℕ) → j < l.k → get_or l.numbers j 0 ≡ (if is_count j then 0 else get_or l.initial.numbers j 0);
  rest : (j : ℕ) → l.k ≤ j → get_or l.numbers j 0 ≡ get_or l.initial.numbers j 0;
}
