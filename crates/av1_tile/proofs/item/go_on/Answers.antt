use Rattle.std.proofs.Common.{◌≡◌, Err, rules}
use Rattle.av1_step.specs.State.{tile_of}
use Rattle.av1_tile.proofs.Items.{written_told, front_told, step_still, refused_still, settled_marks, step_done, step_refused}
use Rattle.av1_step.proofs.StepLaws.{faultless}
use Rattle.av1_tile.proofs.item.go_on.Goals as goal

pub returns-in_err-write_step-clause-steps : goal.returns-in_err-write_step-clause-steps
returns-in_err-write_step-clause-steps g c =
    let e = c.in_err-write_step.ensures in
    let old = c.args.state.now in
    let new = c.write_step.new.self in
    let w = c.args.w.now in
    let later = c.write_step.new.w in
    let step = c.args.step.now in
    let marks = c.args.marks.now.items in
    let rises = front_told g.W.Known step (tile_of old) w later (tile_of new).numbers (g.met.W.Writer.valid w).interval e.wrote in
    let still = refused_still g.W.Known w later old new marks c.requires.marks e.refused e.kept e.undone rises in
    let is : c.from_residual.result ≡ Err _ = search rules in
    rw (is) (step_refused g.W.Known _ w later old new marks step e.wrote e.refused e.kept e.undone still.1)

pub returns-in_err-write_step-clause-marks : goal.returns-in_err-write_step-clause-marks
returns-in_err-write_step-clause-marks g c =
    let e = c.in_err-write_step.ensures in
    let old = c.args.state.now in
    let new = c.write_step.new.self in
    let w = c.args.w.now in
    let later = c.write_step.new.w in
    let rises = front_told g.W.Known c.args.step.now (tile_of old) w later (tile_of new).numbers (g.met.W.Writer.valid w).interval e.wrote in
    (refused_still g.W.Known w later old new c.args.marks.now.items c.requires.marks e.refused e.kept e.undone rises).0

pub returns-clause-steps : goal.returns-clause-steps
returns-clause-steps g c =
    let e = c.in_ok-write_step.ensures in
    let old = c.args.state.now in
    let mid = c.write_step.new.self in
    let w = c.args.w.now in
    let later = c.write_step.new.w in
    let step = c.args.step.now in
    let marks = c.args.marks.now.items in
    let rises = written_told g.W.Known step (tile_of old) w later (tile_of mid).numbers (g.met.W.Writer.valid w).interval e.wrote in
    let still = step_still g.W.Known w later old mid marks step c.requires.marks (faultless (tile_of old) _ step c.requires.faultless).1 c.requires.outside e.tile c.requires.near e.kept e.undone rises in
    step_done g.W.Known w later old mid c.settle.new.state marks step e.wrote e.tile e.kept e.undone still.1 c.settle.ensures.tile c.settle.ensures.same

pub returns-clause-marks : goal.returns-clause-marks
returns-clause-marks g c =
    let e = c.in_ok-write_step.ensures in
    let old = c.args.state.now in
    let mid = c.write_step.new.self in
    let w = c.args.w.now in
    let later = c.write_step.new.w in
    let step = c.args.step.now in
    let marks = c.args.marks.now.items in
    let rises = written_told g.W.Known step (tile_of old) w later (tile_of mid).numbers (g.met.W.Writer.valid w).interval e.wrote in
    let still = step_still g.W.Known w later old mid marks step c.requires.marks (faultless (tile_of old) _ step c.requires.faultless).1 c.requires.outside e.tile c.requires.near e.kept e.undone rises in
    settled_marks g.W.Known later mid c.settle.new.state marks c.settle.ensures.same still.0
