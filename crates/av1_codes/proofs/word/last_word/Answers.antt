use Rattle.std.proofs.Common.{◌*◌, ◌^◌, ◌<◌, ◌∙◌, sym, arith}
use Rattle.av1_model.proofs.BitsNumbers.{bits_of-zero_before}
use Rattle.av1_model.proofs.CodesSubexp.{step-low}
use Rattle.av1_codes.proofs.Words.{width_fits}
use Rattle.av1_codes.proofs.word.last_word.Goals as goal

pub returns-then-v-b-clause-bits : goal.returns-then-v-b-clause-bits
returns-then-v-b-clause-bits c rest =
    let b = c.args.b in
    let three = width_fits 3 b (omega arith) c.requires.width in
    let one = width_fits 1 b (omega arith) c.requires.width in
    let many : 3 * 2 ^ b < c.args.n = omega (arith, three, c.if-n-b.false) in
    let low : c.args.v < 2 ^ b = omega (arith, one, c.if-v-b.true) in
    bits_of-zero_before b c.args.v low ∙ sym (step-low b c.args.n c.args.v rest many low)
