use Rattle.std.proofs.Common.{◌^◌, ◌*◌, ◌%◌, nat_lt, ap, ◌∙◌, arith}
use Rattle.std.proofs.lemmas.Nat.{one_shl}
use Rattle.av1_step.specs.State.{tile_of}
use Rattle.av1_step.proofs.FilterSteps.{cdef_few}
use Rattle.av1_step.proofs.tile.TileState.is_cdef_index.Goals as goal

pub overflow_shl-result : goal.overflow_shl-result
overflow_shl-result c = let few = cdef_few (tile_of c.args.self.now) c.args.self.now.kept.given c.requires in omega (arith, few)

pub returns : goal.returns
returns c =
    let bits = c.args.self.now.unit.now.fi.cdef_bits in
    let few = cdef_few (tile_of c.args.self.now) c.args.self.now.kept.given c.requires in
    ap (λ n. nat_lt n (1 * 2 ^ bits % 4294967296)) c.from.ensures ∙ ap (nat_lt c.args.index) (one_shl bits 32 (omega (arith, few)))
