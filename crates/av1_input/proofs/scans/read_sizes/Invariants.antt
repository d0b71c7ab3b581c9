use Rattle.av1_input.specs.Scans.{class_scans}
use Rattle.av1_input.proofs.Lists.{Reading, lists_of}
use Rattle.av1_input.proofs.scans.read_sizes.Given as goal

abbrev pub invariant-loop-i : goal.invariant-loop-i
invariant-loop-i l = Reading class_scans.fit l.fn.items.items l.items.items (lists_of l.sizes.items) l.i
