use Rattle.std.proofs.Common.{arith}
use Rattle.std.proofs.lemmas.Bool.Decides.{nat_tests}
use Rattle.av1_model.specs.Interval.{Token}
use Rattle.av1_model.proofs.Tokens.{edges_within}
use Rattle.av1_ec.proofs.writer_base.lr_compute.Goals as goal

pub overflow_cast-result : goal.overflow_cast-result
overflow_cast-result c =
    let t : Token = record { fl = c.args.fl; fh = c.args.fh; nms = c.args.nms } in
    let e = edges_within c.args.rng t c.requires.wide (omega arith) c.requires.token in
    grind (arith, nat_tests, e)
