use Rattle.av1_tile.specs.Marks.{AreMarks}
use Rattle.av1_item_tests.proofs.items.code_items.Given as goal

abbrev pub invariant-loop-item : goal.invariant-loop-item
invariant-loop-item g l = AreMarks g.W.Known l.w l.state l.marks.items
