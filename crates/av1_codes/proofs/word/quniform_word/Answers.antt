use Rattle.std.proofs.Common.{◌≡◌, ◌-◌, ◌*◌, ◌+◌, ◌%◌, ◌^◌, ◌∙◌, sym, ap, arith}
use Rattle.av1_model.specs.Bits.{bits_of}
use Rattle.av1_model.specs.Codes.{binary_digits, short_words}
use Rattle.av1_model.proofs.BitsNumbers.{bits_of-zero}
use Rattle.av1_model.proofs.CodesQuniform.{quniform-one, quniform-short, quniform-number}
use Rattle.av1_codes.proofs.Words.{one_fits, digits_few}
use Rattle.av1_codes.proofs.word.quniform_word.Goals as goal

pub returns-then-n-lt2-clause-bits : goal.returns-then-n-lt2-clause-bits
returns-then-n-lt2-clause-bits c = bits_of-zero 0 ∙ sym (quniform-one c.args.n c.args.v c.if-n-lt2.true)

pub returns-then-v-shorter-clause-bits : goal.returns-then-v-shorter-clause-bits
returns-then-v-shorter-clause-bits c =
    let n = c.args.n in
    let v = c.args.v in
    let digits = c.binary_digits_of-digits in
    let small = digits_few n digits.result digits.ensures.value c.if-n-lt2.false c.requires.few in
    let shorter : 1 * 2 ^ digits.result % 2 ^ 32 - n ≡ short_words n =
    ap (λ x. x - n) (one_fits digits.result 32 (omega (arith, small)) ∙ ap (λ k. 2 ^ k) digits.ensures.value) in
    ap (λ k. bits_of (k - 1) v) digits.ensures.value ∙ sym (quniform-short n v c.if-n-lt2.false (omega (arith, shorter, c.if-v-shorter.true)))

pub returns-then-v-shorter-clause-short : goal.returns-then-v-shorter-clause-short
returns-then-v-shorter-clause-short c =
    omega (arith, digits_few c.args.n c.binary_digits_of-digits.result c.binary_digits_of-digits.ensures.value c.if-n-lt2.false c.requires.few)

pub returns-clause-bits : goal.returns-clause-bits
returns-clause-bits c =
    let n = c.args.n in
    let v = c.args.v in
    let digits = c.binary_digits_of-digits in
    let small = digits_few n digits.result digits.ensures.value c.if-n-lt2.false c.requires.few in
    let shorter : 1 * 2 ^ digits.result % 2 ^ 32 - n ≡ short_words n =
    ap (λ x. x - n) (one_fits digits.result 32 (omega (arith, small)) ∙ ap (λ k. 2 ^ k) digits.ensures.value) in
    ap (λ k. bits_of k (v + (1 * 2 ^ digits.result % 2 ^ 32 - n))) digits.ensures.value ∙ ap (λ x. bits_of (binary_digits n) (v + x)) shorter
    ∙ sym (quniform-number n v c.if-n-lt2.false (omega (arith, shorter, c.if-v-shorter.false)))

pub returns-clause-short : goal.returns-clause-short
returns-clause-short c =
    digits_few c.args.n c.binary_digits_of-digits.result c.binary_digits_of-digits.ensures.value c.if-n-lt2.false c.requires.few
