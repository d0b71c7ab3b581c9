use Rattle.std.proofs.Common.{◌*◌, ◌/◌, ◌%◌, ◌^◌, ◌≤◌, arith}
use Rattle.std.proofs.lemmas.Nat.{mul-le}
use Rattle.std.proofs.Math.Nat.{mod-le, div-le_self}
use Rattle.av1_frame.specs.HeaderRules.{blocks}
use Rattle.av1_step.proofs.Places.{few_tiles, left_inside, top_inside}
use Rattle.av1_step.proofs.place.TileSides.of.Goals as goal

pub overflow_mul-left : goal.overflow_mul-left
overflow_mul-left c =
    let few = few_tiles c.args.fi.now c.args.tile c.tiling_of-tiling.result c.tiling_of-tiling.ensures.value c.tiling_of-tiling.ensures.few c.requires.tile in
    omega (arith, c.requires.cut.tile_width, few, mul-le (c.args.tile % c.tiling_of-tiling.result.cols) (16 * c.args.fi.now.tile_width_sb) (2 ^ 20) (16 * 64) (omega (arith, few, mod-le c.args.tile c.tiling_of-tiling.result.cols)) (omega (arith, c.requires.cut.tile_width)))

pub overflow_mul-top : goal.overflow_mul-top
overflow_mul-top c =
    let few = few_tiles c.args.fi.now c.args.tile c.tiling_of-tiling.result c.tiling_of-tiling.ensures.value c.tiling_of-tiling.ensures.few c.requires.tile in
    omega (arith, c.requires.cut.tile_height, few, mul-le (c.args.tile / c.tiling_of-tiling.result.cols) (16 * c.args.fi.now.tile_height_sb) (2 ^ 20) (16 * 1024) (omega (arith, few, div-le_self c.args.tile c.tiling_of-tiling.result.cols)) (omega (arith, c.requires.cut.tile_height)))

pub returns-clause-number : goal.returns-clause-number
returns-clause-number c = few_tiles c.args.fi.now c.args.tile c.tiling_of-tiling.result c.tiling_of-tiling.ensures.value c.tiling_of-tiling.ensures.few c.requires.tile

pub returns-clause-columns_inside : goal.returns-clause-columns_inside
returns-clause-columns_inside c =
    let left = left_inside c.args.fi.now c.args.tile c.tiling_of-tiling.result c.tiling_of-tiling.ensures.value c.requires.cut in
    omega (arith, left, c.div_ceil-frame_cols.ensures, c.saturating_sub.ensures, c.min.ensures)

pub returns-clause-rows_inside : goal.returns-clause-rows_inside
returns-clause-rows_inside c =
    let top = top_inside c.args.fi.now c.args.tile c.tiling_of-tiling.result c.tiling_of-tiling.ensures.value c.requires.cut c.requires.tile in
    omega (arith, top, c.div_ceil-frame_rows.ensures, c.saturating_sub-2.ensures, c.min-2.ensures)

pub returns-clause-few : goal.returns-clause-few
returns-clause-few c =
    let across : c.min.result ≤ blocks c.args.fi.now.width = omega (arith, c.div_ceil-frame_cols.ensures, c.saturating_sub.ensures, c.min.ensures) in
    let down : c.min-2.result ≤ blocks c.args.fi.now.height = omega (arith, c.div_ceil-frame_rows.ensures, c.saturating_sub-2.ensures, c.min-2.ensures) in
    omega (arith, c.requires.cut.few, mul-le c.min.result c.min-2.result (blocks c.args.fi.now.width) (blocks c.args.fi.now.height) across down)
