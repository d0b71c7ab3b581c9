use Rattle.std.proofs.Common.{◌≡◌, ◌-◌, ◌*◌, ◌^◌, ◌<◌, ◌≤◌, ◌++◌, length, take}
use Rattle.av1_model.specs.Codes.{leb128}
use Rattle.av1_bits.proofs.leb128.BitWriterULEB128Writer.write_uleb128.Given as goal

abbrev pub invariant-loop-value : goal.invariant-loop-value
invariant-loop-value l = record {
  size : length l.coded ≡ 5;
  few : l.count ≤ 4;
  below : l.value < 2 ^ (32 - 7 * l.count);
  coded : take l.count l.coded ++ leb128 l.value ≡ leb128 l.payload;
}

abbrev pub decreases-loop-value : goal.decreases-loop-value
decreases-loop-value l = l.value
