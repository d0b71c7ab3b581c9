use Rattle.std.proofs.Common.{◌*◌, ap, sym}
use Rattle.av1_model.proofs.BitsNumbers.{length-bits_of}
use Rattle.av1_codes.proofs.word.Word.eighths.Goals as goal

pub returns : goal.returns
returns c = ap (λ n. 8 * n) (sym (length-bits_of c.args.self.len c.args.self.number))
