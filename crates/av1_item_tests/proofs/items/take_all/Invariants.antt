use Rattle.std.proofs.Common.{take}
use Rattle.av1_tile.specs.Items.{TakesAll}
use Rattle.av1_tile.specs.Marks.{AreMarks}
use Rattle.av1_item_tests.proofs.items.take_all.Given as goal

abbrev pub invariant-loop-item : goal.invariant-loop-item
invariant-loop-item g l =
    AreMarks g.W.Known l.w l.state l.marks.items
    × TakesAll g.W.Known (record { writer = l.initial.w; tile = l.initial.state; marks = l.initial.marks.items }) (record { writer = l.w; tile = l.state; marks = l.marks.items }) (take l.item-index l.items)
