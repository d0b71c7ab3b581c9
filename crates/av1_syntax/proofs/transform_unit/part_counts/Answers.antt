use Rattle.std.proofs.Common.{◌*◌, ◌/◌, sym, arith}
use Rattle.av1_syntax.proofs.Splits.{columns_are, rows_are, parts_long, parts_few_as}
use Rattle.av1_syntax.proofs.transform_unit.part_counts.Goals as goal

pub returns-clause-columns : goal.returns-clause-columns
returns-clause-columns c =
    columns_are c.args.bsize c.args.part c.requires.size c.requires.width c.requires.height _ _ c.width_mi.ensures.value c.width_mi-2.ensures.value

pub returns-clause-rows : goal.returns-clause-rows
returns-clause-rows c =
    rows_are c.args.bsize c.args.part c.requires.size c.requires.width c.requires.height _ _ c.height_mi.ensures.value c.height_mi-2.ensures.value

pub returns-clause-all : goal.returns-clause-all
returns-clause-all c =
    let em = columns_are c.args.bsize c.args.part c.requires.size c.requires.width c.requires.height _ _ c.width_mi.ensures.value c.width_mi-2.ensures.value in
    let en = rows_are c.args.bsize c.args.part c.requires.size c.requires.width c.requires.height _ _ c.height_mi.ensures.value c.height_mi-2.ensures.value in
    parts_long c.args.bsize c.args.part c.requires.size c.requires.width c.requires.height _ _ em en

pub returns-clause-few : goal.returns-clause-few
returns-clause-few c =
    let em = columns_are c.args.bsize c.args.part c.requires.size c.requires.width c.requires.height _ _ c.width_mi.ensures.value c.width_mi-2.ensures.value in
    let en = rows_are c.args.bsize c.args.part c.requires.size c.requires.width c.requires.height _ _ c.height_mi.ensures.value c.height_mi-2.ensures.value in
    let long = parts_long c.args.bsize c.args.part c.requires.size c.requires.width c.requires.height (c.width_mi.result / c.width_mi-2.result) (c.height_mi.result / c.height_mi-2.result) em en in
    let few = parts_few_as c.args.bsize c.args.part c.requires.size c.requires.width c.requires.height in
    omega (arith, long, few)
