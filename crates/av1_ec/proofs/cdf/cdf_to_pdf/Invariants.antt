use Rattle.std.proofs.Common.{◌≡◌, ◌-◌, ◌/◌, ◌<◌, ℕ, length}
use Rattle.std.specs.Prelude.{slice_index}
use Rattle.av1_model.specs.Cdf.{token_of}
use Rattle.av1_ec.proofs.cdf.cdf_to_pdf.Given as goal

abbrev pub invariant-loop-i : goal.invariant-loop-i
invariant-loop-i g l = record {
  size : length l.pdf ≡ g.row.CDF_LEN;
  before : l.z ≡ (token_of l.cdf l.i).fl / 64;
  written : (s : ℕ) → s < l.i → slice_index l.pdf s ≡ (token_of l.cdf s).fl / 64 - (token_of l.cdf s).fh / 64;
}
