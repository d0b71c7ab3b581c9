use Rattle.std.proofs.Common.{◌≡◌, map, take}
use Rattle.av1_cdf.specs.FieldMap.{entries_of, of_run}
use Rattle.av1_cdf.proofs.field_map.entries.Given as goal

abbrev pub invariant-loop-name : goal.invariant-loop-name
invariant-loop-name l = entries_of l.map.items ≡ map of_run (take l.name-index l.fields)
