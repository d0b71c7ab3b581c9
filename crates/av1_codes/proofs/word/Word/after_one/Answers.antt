use Rattle.std.proofs.Common.{arith, ◌≡◌, ◌*◌, ◌%◌, ◌^◌}
use Rattle.av1_model.proofs.BitsNumbers.{bits_of-one_before}
use Rattle.av1_codes.proofs.Words.{one_fits}
use Rattle.av1_codes.proofs.word.Word.after_one.Goals as goal

pub returns-clause-bits : goal.returns-clause-bits
returns-clause-bits c =
    let one : 1 * 2 ^ c.args.self.len % 2 ^ 64 ≡ 2 ^ c.args.self.len = one_fits c.args.self.len 64 (omega (arith, c.requires)) in
    rw one (bits_of-one_before c.args.self.len c.args.self.number c.args.self.fits)
