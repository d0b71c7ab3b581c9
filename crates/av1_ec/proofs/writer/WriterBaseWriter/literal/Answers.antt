use Rattle.std.proofs.Common.{arith}
use Rattle.av1_model.proofs.BitsNumbers.{length-bits_of}
use Rattle.av1_ec.proofs.writer.WriterBaseWriter.literal.Goals as goal

pub returns : goal.returns
returns g c =
    let stored = c.store_word.ensures in
    record {
      ok = stored.ok;
      err = stored.err;
      room = λ h. stored.room (omega (arith, length-bits_of c.args.bits c.args.s, h));
      spare = omega (arith, length-bits_of c.args.bits c.args.s, stored.spare);
      kept = stored.kept;
    }
