use Rattle.std.proofs.Common.{◌-◌, ◌^◌, ◌<◌, ◌≤◌, arith, subst, sym}
use Rattle.av1_model.proofs.CodesDigits.{binary_digits-between}
use Rattle.av1_codes.proofs.Words.{digits_of_word}
use Rattle.av1_codes.proofs.word.binary_digits_of.Goals as goal

pub returns-clause-value : goal.returns-clause-value
returns-clause-value c = digits_of_word c.args.n c.requires (omega arith)

pub returns-clause-least : goal.returns-clause-least
returns-clause-least c = omega (arith, digits_of_word c.args.n c.requires (omega arith), (binary_digits-between c.args.n c.requires).some)

pub returns-clause-from : goal.returns-clause-from
returns-clause-from c =
    let n = c.args.n in
    subst (λ k. 2 ^ (k - 1) ≤ n) (sym (digits_of_word n c.requires (omega arith))) (binary_digits-between n c.requires).from

pub returns-clause-to : goal.returns-clause-to
returns-clause-to c =
    let n = c.args.n in
    subst (λ k. n < 2 ^ k) (sym (digits_of_word n c.requires (omega arith))) (binary_digits-between n c.requires).to
