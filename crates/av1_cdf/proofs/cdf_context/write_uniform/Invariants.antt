use Rattle.std.proofs.Common.{◌≡◌, ℕ, ◌<◌, get_or}
use Rattle.av1_cdf.specs.Context.{uniform_number}
use Rattle.av1_cdf.specs.Runs.{HasOrEnds, IsBefore}
use Rattle.av1_cdf.proofs.cdf_context.write_uniform.Given as goal

abbrev pub invariant-loop-k : goal.invariant-loop-k
invariant-loop-k l = record {
  run : HasOrEnds l.run l.k;
  cell : IsBefore l.cell l.k;
  written : (j : ℕ) → j < l.k → get_or l.numbers j 0 ≡ uniform_number j;
}
