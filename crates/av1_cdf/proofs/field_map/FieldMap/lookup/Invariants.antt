use Rattle.std.proofs.Common.{◌≡◌, map, drop}
use Rattle.av1_cdf.specs.FieldMap.{entry_of, name_at}
use Rattle.av1_cdf.proofs.field_map.FieldMap.lookup.Given as goal

abbrev pub invariant-loop-name : goal.invariant-loop-name
invariant-loop-name l = name_at l.place (map entry_of l.name-items) ≡ name_at l.place (map entry_of (drop l.name-index l.name-items))
