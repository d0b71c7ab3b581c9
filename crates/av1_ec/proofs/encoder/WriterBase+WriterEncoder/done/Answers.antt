use Rattle.std.proofs.Common.{◌≡◌, IfOk, rules}
use Rattle.std.proofs.lemmas.Result.{IfOk-weaker}
use Rattle.av1_model.specs.Interval.{final_bytes}
use Rattle.av1_model.specs.Position.{interval_of}
use Rattle.av1_ec.specs.Encoder.{encoder_position}
use Rattle.av1_ec.proofs.OneRate.{ending_told}
use Rattle.av1_ec.proofs.encoder.WriterBase+WriterEncoder.done.Goals as goal

pub returns-clause-told : goal.returns-clause-told
returns-clause-told c =
    let w = c.args.self in
    let p = encoder_position w.s.precarry.items w.s.low w.rng w.cnt w.fake_bits_frac in
    let bytes : IfOk c.sum_carries.result (λ v. v.items ≡ final_bytes (interval_of p)) = search rules in
    IfOk-weaker c.sum_carries.result _ _ (λ v e f. ending_told p v.items e f) bytes
