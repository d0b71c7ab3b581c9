use Rattle.std.proofs.Common.{◌≡◌, ◌+◌, ◌≤◌}
use Rattle.av1_model.specs.Bits.{bits_of}
use Rattle.av1_model.specs.Position.{advance_all}
use Rattle.av1_ec.specs.Storing.{Keeps}
use Rattle.av1_ec.specs.Flat.{flat_tokens}
use Rattle.av1_ec.proofs.flat.store_word.Given as goal

abbrev pub invariant-loop-left : goal.invariant-loop-left
invariant-loop-left g l =
    let b = g.B.Known in
    record {
      most : l.left ≤ 64;
      room : l.left ≤ b.spare l.w;
      spare : b.spare l.fn.w + l.left ≤ b.spare l.w + l.word.len;
      rest : advance_all (b.position l.w) (flat_tokens (bits_of l.left l.word.number)) ≡ advance_all (b.position l.fn.w) (flat_tokens (bits_of l.word.len l.word.number));
      kept : Keeps b l.fn.w l.w;
    }

abbrev pub decreases-loop-left : goal.decreases-loop-left
decreases-loop-left g l = l.left
