use Rattle.std.proofs.Common.{◌≡◌, ℕ, ◌<◌, true}
use Rattle.av1_cdf.specs.Runs.{HasOrEnds, IsBefore}
use Rattle.av1_cdf.specs.Tables.{number_fits}
use Rattle.av1_cdf.proofs.tables.is_valid.Given as goal

abbrev pub invariant-loop-k : goal.invariant-loop-k
invariant-loop-k l = record {
  run : HasOrEnds l.run l.k;
  cell : IsBefore l.cell l.k;
  fit : (j : ℕ) → j < l.k → number_fits l.set j ≡ true;
}
