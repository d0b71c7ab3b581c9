use Rattle.std.proofs.Common.{arith, ℤ, ◌≤ℤ◌, ◌-ℤ◌, pos, ◌^◌, to_z, of_z, w32}
use Rattle.std.proofs.lemmas.Int.{ints}
use Rattle.av1_codes.specs.Codes.{refsubexp_between}
use Rattle.av1_coder_tests.proofs.codes.signed_subexp.Goals as goal

pub write_signed_subexp_with_ref-requires-clause-shift : goal.write_signed_subexp_with_ref-requires-clause-shift
write_signed_subexp_with_ref-requires-clause-shift g c =
    let kept : ℤ → ℤ = λ z. to_z w32 (of_z w32 z) in
    let low = kept c.args.low in
    let high = kept c.args.high in
    let order : low ≤ℤ high = omega (arith, ints, c.ranges.low, c.ranges.high, c.requires.value_from, c.requires.value_to) in
    let few : (high -ℤ low) ≤ℤ pos (2 ^ 24) = omega (arith, ints, c.ranges.low, c.ranges.high, c.requires.few) in
    let short = c.law_of_lengths.ensures.between low high (kept c.args.r) (kept c.args.v) c.args.k order few c.requires.width in
    c.law_of_lengths.ensures.near (g.W.Known.position c.args.w.now) (refsubexp_between low high c.args.k (kept c.args.r) (kept c.args.v)) (g.met.W.Writer.valid c.args.w.now) (omega (arith, short)) (omega (arith, c.in_ok-few_bits.ensures))
