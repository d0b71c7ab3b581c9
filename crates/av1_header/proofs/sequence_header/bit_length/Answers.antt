use Rattle.std.proofs.Common.{◌≡◌, ℕ, suc, ◌-◌, ◌^◌, ◌<◌, ◌≤◌, max, arith, subst, sym, inl, inr}
use Rattle.std.proofs.lemmas.Bool.{cases_lt}
use Rattle.std.proofs.lemmas.Nat.{leading_top}
use Rattle.std.proofs.Math.Nat.{pow-le-pow_right}
use Rattle.std.specs.Int.Count.{count_leading_zeros}
use Rattle.av1_header.proofs.sequence_header.bit_length.Goals as goal

-- the digits of a number other than 0
digits : (n d : ℕ) → 0 < n → n < 2 ^ 32 → d ≡ max (32 - count_leading_zeros 32 n) 1 → (n < 2 ^ d) × (n < 65536 → d ≤ 16)
digits n d some few is =
    let t = leading_top 32 n some few in
    let e : d ≡ suc t.0 = omega (arith, is, t.1) in (
      subst (λ k. n < 2 ^ k) (sym e) t.3,
      λ small. elim (cases_lt t.0 16) [
        | inl l ↦ omega (arith, e)
        | inr g ↦ absurd (omega (arith, t.2, pow-le-pow_right {n = 2} (omega arith) {i = 16} {j = t.0} g))
      ],
    )

none : (n d : ℕ) → n ≡ 0 → d ≡ max (32 - count_leading_zeros 32 n) 1 → d ≡ 1
unfolding count_leading_zeros
none n d zero is = subst (λ k. d ≡ max (32 - count_leading_zeros 32 k) 1) zero is

pub returns-clause-holds : goal.returns-clause-holds
returns-clause-holds c =
    let n = c.args.n in
    let d = c.max.result in
    elim (cases_lt 0 n) [
      | inl l ↦ (digits n d l c.ranges.n.fits c.max.ensures).0
      | inr g ↦ let one : d ≡ 1 = none n d (omega arith) c.max.ensures in subst (λ k. n < 2 ^ k) (sym one) (omega arith)
    ]

pub returns-clause-most : goal.returns-clause-most
returns-clause-most c small =
    let n = c.args.n in
    let d = c.max.result in
    elim (cases_lt 0 n) [
      | inl l ↦ (digits n d l c.ranges.n.fits c.max.ensures).1 small
      | inr g ↦ omega (arith, none n d (omega arith) c.max.ensures)
    ]
