use Rattle.av1_tile.proofs.Items.{begin_marks}
use Rattle.av1_tile.proofs.item.begin_trial.Goals as goal

pub returns-clause-marks : goal.returns-clause-marks
returns-clause-marks g c =
    rw (c.in_ok-push.ensures.items) (begin_marks g.W.Known c.args.w.now c.args.state.now c.args.marks.now.items c.args.place _ c.requires.marks c.requires.near c.in_ok-mark.ensures)
