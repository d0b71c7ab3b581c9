use Rattle.std.proofs.Common.{◌+◌, sym, ◌∙◌, arith}
use Rattle.av1_step.specs.State.{tile_of}
use Rattle.av1_tests.proofs.rows.step.Goals as goal

pub write_step-requires : goal.write_step-requires
write_step-requires g c =
    c.law_of_steps.ensures.fewer_bits c.args.step.now (tile_of c.args.tile.now) c.tell.result ((g.W.Known.position c.args.w.now).shift + 1) (sym c.check_step.ensures ∙ c.in_default.is) (omega (arith, c.tell.ensures))
