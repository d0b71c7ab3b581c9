-- What a unit's JSON says, as contracts see it.
use Rattle.av1_input.specs.Said.{Said}
use Rattle.av1_input.specs.declared.unit.UnitMembers.TheInside.{Inside}

abbrev pub said_by : Inside → Said
said_by m = record {
  tables = m.tables;
  scans = m.scans;
  sequence = m.sequence;
  frame = m.frame;
  refs = m.refs;
  metadata = m.metadata.items;
  delimiter = m.delimiter;
  eob_by_coded = m.eob_by_coded;
  via = m.via;
  scripts = m.scripts.items;
}
