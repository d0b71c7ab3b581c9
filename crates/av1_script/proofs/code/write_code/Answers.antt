use Rattle.std.proofs.Common.{arith, ℤ, ◌≤ℤ◌, ◌-ℤ◌, pos, ◌^◌, to_z, of_z, w32}
use Rattle.std.proofs.lemmas.Int.{ints}
use Rattle.av1_codes.specs.Codes.{refsubexp_between}
use Rattle.av1_script.specs.Allowed.{IsCode}
use Rattle.av1_script.specs.declared.code.Code.TheVariants.{SignedSubexp}
use Rattle.av1_script.proofs.code.write_code.Goals as goal

pub write_signed_subexp_with_ref-requires-clause-shift : goal.write_signed_subexp_with_ref-requires-clause-shift
write_signed_subexp_with_ref-requires-clause-shift g c =
    let kept : ℤ → ℤ = λ z. to_z w32 (of_z w32 z) in
    let low = kept c.in-SignedSubexp.low in
    let high = kept c.in-SignedSubexp.high in
    let allowed : IsCode (SignedSubexp c.in-SignedSubexp.v c.in-SignedSubexp.low c.in-SignedSubexp.high c.in-SignedSubexp.k c.in-SignedSubexp.r) = rw c.in-SignedSubexp.is at c.requires.allowed in
    let order : low ≤ℤ high = omega (arith, ints, allowed) in
    let few : (high -ℤ low) ≤ℤ pos (2 ^ 24) = omega (arith, ints, allowed) in
    let short = c.law_of_lengths.ensures.between low high (kept c.in-SignedSubexp.r) (kept c.in-SignedSubexp.v) c.in-SignedSubexp.k order few (omega (arith, allowed)) in
    c.law_of_lengths.ensures.near (g.W.Known.position c.args.w.now) (refsubexp_between low high c.in-SignedSubexp.k (kept c.in-SignedSubexp.r) (kept c.in-SignedSubexp.v)) (g.met.W.Writer.valid c.args.w.now) (omega (arith, short)) (omega (arith, c.requires.few))
