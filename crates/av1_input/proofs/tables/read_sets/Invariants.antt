use Rattle.av1_input.specs.Kinds.{list, whole}
use Rattle.av1_input.proofs.Lists.{Reading, lists_of}
use Rattle.av1_input.proofs.tables.read_sets.Given as goal

abbrev pub invariant-loop-i : goal.invariant-loop-i
invariant-loop-i l = Reading (list (whole 16)).fit l.fn.items.items l.items.items (lists_of l.sets.items) l.i
