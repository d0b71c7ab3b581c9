use Rattle.av1_bits.proofs.Signed.{counted_up}
use Rattle.av1_bits.proofs.bcode.BitWriterBCodeWriter.write_s_refsubexpfin.Goals as goal

pub returns-clause-ok : goal.returns-clause-ok
returns-clause-ok c =
    let n = c.args.n in
    let r = counted_up c.args.r n c.ranges.r c.requires.some c.requires.few c.requires.reference_from c.requires.reference_to in
    let v = counted_up c.args.v n c.ranges.v c.requires.some c.requires.few c.requires.value_from c.requires.value_to in
    rw (r, v) at c.write_refsubexpfin.ensures.ok
