use Rattle.std.proofs.Common.{subst, arith}
use Rattle.av1_header.specs.Rows.{Wrote}
use Rattle.av1_header.specs.Sizes.{sizes, with_refs}
use Rattle.av1_header.proofs.sizes.write_searched_sizes.Goals as goal

pub write_sizes-requires-clause-places : goal.write_sizes-requires-clause-places
write_sizes-requires-clause-places c i within = c.requires.places i (omega (arith, within, c.searched.ensures.few))

pub returns : goal.returns
returns c = subst (λ k. Wrote (sizes k c.args.own c.args.size.now) (with_refs c.args.fi.now c.args.refs.now) c.write_sizes.result c.args.refused.now c.write_sizes.new.refused c.args.bits.now c.write_sizes.new.bits) c.searched.ensures.value c.write_sizes.ensures
