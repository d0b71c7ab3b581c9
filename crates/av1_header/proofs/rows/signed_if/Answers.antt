use Rattle.std.proofs.Common.{refl, rules, arith, ◌<◌}
use Rattle.av1_header.proofs.SignedWords.{signed_word}
use Rattle.av1_header.proofs.rows.signed_if.Goals as goal

pub returns : goal.returns
returns c = record { grown = search (rules, c.put_signed.ensures); fits = λ e. signed_word _ _ (let some : 0 < c.args.n = omega arith in some) (c.requires.fits e); told = refl }
