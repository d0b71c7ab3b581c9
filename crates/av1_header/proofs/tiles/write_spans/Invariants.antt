use Rattle.std.proofs.Common.{◌≡◌, ◌-◌, ◌+◌, ◌*◌, ◌<◌, ◌≤◌, Bool, List}
use Rattle.av1_header.specs.Rows.{Wrote}
use Rattle.av1_header.specs.Tiles.{spans}
use Rattle.av1_header.specs.declared.tiles.Spans.{Spans}
use Rattle.av1_header.proofs.tiles.write_spans.Given as goal

-- so many spans are done, and what is left and what was written make the whole
abbrev pub invariant-loop-left : goal.invariant-loop-left
invariant-loop-left l = record {
  left : l.left ≡ l.total - l.count * l.side;
  few : l.count * l.side < l.total + l.side;
  bound : l.left + l.count ≤ l.total;
  none : l.count ≡ 0 → l.widest ≡ 0;
  some : 0 < l.count → l.widest ≡ l.side;
  rest : (a : Spans) (r : Bool) (new : List Bool) → Wrote (spans (l.total - l.count) l.most l.left l.count l.widest) l.side a l.refused r l.bits new → Wrote (spans l.total l.most l.total 0 0) l.side a l.fn.refused r l.fn.bits new;
}

abbrev pub decreases-loop-left : goal.decreases-loop-left
decreases-loop-left l = l.left
