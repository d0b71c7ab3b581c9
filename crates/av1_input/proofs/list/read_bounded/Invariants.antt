use Rattle.std.proofs.Common.{◌≡◌, length}
use Rattle.av1_input.proofs.Lists.{Reading}
use Rattle.av1_input.proofs.list.read_bounded.Given as goal

abbrev pub invariant-loop-i : goal.invariant-loop-i
invariant-loop-i g l = (length l.list.items ≡ l.i) × Reading g.T.FromJson.kind.fit l.fn.items.items l.items.items l.list.items l.i
