use Rattle.av1_cdf.proofs.Windows.{slot_windows, windows_apart}
use Rattle.av1_cdf.proofs.laws.law_of_windows.Goals as goal

pub returns-clause-short : goal.returns-clause-short
returns-clause-short c s h k = (slot_windows s.place s.len h).0 k

pub returns-clause-long : goal.returns-clause-long
returns-clause-long c s h k = (slot_windows s.place s.len h).1 k

pub returns-clause-apart : goal.returns-clause-apart
returns-clause-apart c p q h k = windows_apart p q h k
