-- The order of sizes by their two sides.
use Rattle.std.specs.Prelude.{Option, Some, None}
use Rattle.std.specs.declared.cmp.Ordering.{Ordering}
use Rattle.std.specs.declared.cmp.Ordering.TheVariants.{Less, Equal, Greater}

-- not ordered where one side is longer and the other shorter; else as the side that differs
abbrev pub by_sides : Ordering → Ordering → Option Ordering
by_sides Less Greater = None
by_sides Greater Less = None
by_sides Less height = Some Less
by_sides Greater height = Some Greater
by_sides Equal height = Some height
