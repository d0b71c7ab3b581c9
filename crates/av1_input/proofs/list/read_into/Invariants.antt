use Rattle.std.proofs.Common.{◌≡◌, length, take}
use Rattle.av1_input.proofs.Lists.{Reading}
use Rattle.av1_input.proofs.list.read_into.Given as goal

abbrev pub invariant-loop-i : goal.invariant-loop-i
invariant-loop-i g l = (length l.items.items ≡ length l.places) × Reading g.T.FromJson.kind.fit l.fn.items.items l.items.items (take l.i l.places) l.i
