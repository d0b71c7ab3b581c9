use Rattle.std.proofs.Common.{◌≡◌, ◌+◌, ◌-◌, [], ◌∷◌, ◌∙◌, ap, codes, arith}
use Rattle.av1_cdf.specs.Layout.{slot}
use Rattle.av1_syntax.specs.Palette.{palette_size}
use Rattle.av1_syntax.proofs.Values.{sides_of_eight}
use Rattle.av1_syntax.proofs.block_unit.palette_y_slot.Goals as goal

pub overflow_sub-doublings : goal.overflow_sub-doublings
overflow_sub-doublings c = let w = sides_of_eight c.args.bsize c.requires.size in omega (arith, w, c.width_mi_log2.ensures, c.height_mi_log2.ensures)

pub returns : goal.returns
returns c =
    let w = sides_of_eight c.args.bsize c.requires.size in
    let e : c.width_mi_log2.result + c.height_mi_log2.result - 2 ≡ palette_size c.args.bsize = omega (arith, w, c.width_mi_log2.ensures, c.height_mi_log2.ensures) in
    c.palette_y_mode_cdfs.ensures ∙ ap (λ k. slot (codes "palette_y_mode_cdfs") (k ∷ 0 ∷ [])) e
