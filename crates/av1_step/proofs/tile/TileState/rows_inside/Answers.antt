use Rattle.std.proofs.Common.{◌-◌, ◌*◌, ◌/◌, ◌^◌, min, ap, ◌∙◌, arith}
use Rattle.av1_geometry.specs.TxSize.{tx_height_log2}
use Rattle.av1_step.specs.State.{tile_of}
use Rattle.av1_step.proofs.CoeffFrame.{rows_same, left_by}
use Rattle.av1_step.proofs.Marking.{inside_is}
use Rattle.av1_step.proofs.Ready.{is_paired}
use Rattle.av1_step.proofs.tile.TileState.rows_inside.Goals as goal

pub samples_inside-requires-clause-side : goal.samples_inside-requires-clause-side
samples_inside-requires-clause-side c = omega (arith, c.rows-rows.ensures, (is_paired (tile_of c.args.self.now) c.args.self.now.kept).low)

pub samples_inside-requires-clause-at : goal.samples_inside-requires-clause-at
samples_inside-requires-clause-at c = omega (arith, c.rows-rows.ensures, (inside_is (tile_of c.args.self.now) c.args.place c.requires.inside).1)

pub returns : goal.returns
returns c =
    let t = tile_of c.args.self.now in
    let x = c.args.place.y in
    let d = c.ydec.result in
    left_by d c.height.result c.rows-rows.result x c.samples_inside.result c.ydec.ensures.few c.samples_inside.ensures.whole c.samples_inside.ensures.half
    ∙ ap (λ n. min n (4 * (c.rows-rows.result / 2 ^ d - x / 2 ^ d))) c.height.ensures.value
    ∙ ap (λ n. min (2 ^ tx_height_log2 c.args.tx) (4 * (n / 2 ^ d - x / 2 ^ d))) c.rows-rows.ensures
    ∙ ap (λ n. min (2 ^ tx_height_log2 c.args.tx) (4 * (t.bc.blocks.rows / 2 ^ n - x / 2 ^ n))) c.ydec.ensures.value
    ∙ rows_same t c.args.plane c.args.place c.args.tx c.args.self.now.kept c.requires.inside c.requires.transform
