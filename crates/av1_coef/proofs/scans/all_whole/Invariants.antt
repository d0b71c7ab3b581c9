use Rattle.std.proofs.Common.{◌≡◌, take, true}
use Rattle.std.specs.List.{list_all}
use Rattle.av1_coef.specs.declared.scans.TheConstants.{TX_SIZES}
use Rattle.av1_coef.specs.Scans.{is_whole, scan_of, classes}
use Rattle.av1_coef.proofs.scans.all_whole.Given as goal

abbrev pub invariant-loop-tx_size : goal.invariant-loop-tx_size
invariant-loop-tx_size l = list_all (λ size. list_all (λ class. is_whole size class (scan_of l.scans size class)) classes) (take l.tx_size-index TX_SIZES) ≡ true
