use Rattle.std.proofs.Common.{◌≡◌, ◌++◌, take}
use Rattle.std.specs.Prelude.{All}
use Rattle.av1_unit.specs.Framing.{bytes_of_obus, messages_of}
use Rattle.av1_unit.specs.HeaderReading.{IsMessageRead}
use Rattle.av1_unit.proofs.framing.push_messages.Given as goal

abbrev pub invariant-loop-metadata : goal.invariant-loop-metadata
invariant-loop-metadata l = record {
  grown : l.bytes.items ≡ l.initial.bytes.items ++ bytes_of_obus (messages_of l.unit.fi.sequence (take l.metadata-index l.metadata-items));
  read : All (IsMessageRead l.unit.fi.sequence) (take l.metadata-index l.metadata-items);
}
