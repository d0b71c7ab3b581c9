use Rattle.std.proofs.Common.{◌≡◌, ◌*◌, ◌%◌, ◌^◌, ◌∙◌, arith}
use Rattle.av1_model.proofs.CodesSubexp.{subexp-last, subexp-more}
use Rattle.av1_codes.proofs.Words.{one_fits}
use Rattle.av1_codes.proofs.word.subexp_word.Goals as goal

pub returns-in-Some : goal.returns-in-Some
returns-in-Some c = subexp-last _ _ _ _ c.in-Some.ensures.bits

pub returns-in-None : goal.returns-in-None
returns-in-None c =
    let one : 1 * 2 ^ c.args.k % 2 ^ 32 ≡ 2 ^ c.args.k = one_fits c.args.k 32 (omega (arith, c.requires.width)) in
    c.after_one.ensures.bits ∙ subexp-more _ _ _ _ c.in-None.ensures.many c.in-None.ensures.high (rw one at c.rising_word.ensures.bits)
