use Rattle.std.proofs.Common.{◌≡◌, ◌+◌, ◌-◌, ◌^◌, ◌<◌, ◌≤◌, ◌++◌, length, take, vec_len, vec_capacity}
use Rattle.av1_model.specs.Bits.{bits_of, bits_of_bytes}
use Rattle.av1_bits.proofs.bit_writer.append_behind.Given as goal

abbrev pub invariant-loop-byte : goal.invariant-loop-byte
invariant-loop-byte l = record {
  below : l.last < 2 ^ l.pending;
  room : vec_len l.bytes + (length l.more - l.byte-index) ≤ vec_capacity l.bytes;
  bits : bits_of_bytes l.bytes.items ++ bits_of l.pending l.last ≡ (bits_of_bytes l.initial.bytes.items ++ bits_of l.pending l.initial.last) ++ bits_of_bytes (take l.byte-index l.more);
}
