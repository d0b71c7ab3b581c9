use Rattle.av1_step.specs.Given.{broken_scan_rule}
use Rattle.av1_tests.proofs.state.broken_scan_rule.Goals as goal

pub returns : goal.returns
unfolding broken_scan_rule
returns c = c.check_scans.ensures
