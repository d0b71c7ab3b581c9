use Rattle.std.proofs.Common.{subst, arith}
use Rattle.av1_header.specs.Metadata.{payload_byte}
use Rattle.av1_header.specs.Rows.{Wrote, each}
use Rattle.av1_header.proofs.metadata.write_sized_payload.Goals as goal

pub write_payload-requires : goal.write_payload-requires
write_payload-requires c = omega (arith, c.bytes_of_payload.ensures, c.requires)

pub returns : goal.returns
returns c = subst (λ k. Wrote (each k 0 payload_byte) c.args.payload.now tt c.args.refused.now c.write_payload.new.refused c.args.bits.now c.write_payload.new.bits) c.bytes_of_payload.ensures c.write_payload.ensures
