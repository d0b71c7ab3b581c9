use Rattle.av1_coef.proofs.Causal.{scan_inside}
use Rattle.av1_coef.proofs.AllScans.{passing_each, passing_scan}
use Rattle.av1_coef.proofs.laws.law_of_scans.Goals as goal

pub returns : goal.returns
returns c = record { inside = scan_inside; each = passing_each; scan = passing_scan }
