use Rattle.std.proofs.Common.{◌≡◌, None, take}
use Rattle.std.specs.List.{enumerate_from}
use Rattle.av1_unit.specs.Findings.{messages_wrong}
use Rattle.av1_unit.proofs.check.check_messages.Given as goal

abbrev pub invariant-loop-index : goal.invariant-loop-index
invariant-loop-index l = messages_wrong l.unit.fi.sequence (enumerate_from 0 (take l.index l.metadata-items)) ≡ None
