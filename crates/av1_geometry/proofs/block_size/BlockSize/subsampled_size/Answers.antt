use Rattle.std.proofs.Common.{◌≡◌, ◌-◌, max, ap, ◌∙◌}
use Rattle.av1_geometry.specs.BlockSize.{width_log2, height_log2, with_sides}
use Rattle.av1_geometry.proofs.block_size.BlockSize.subsampled_size.Goals as goal

pub returns : goal.returns
returns c =
    let w : c.max.result ≡ max (width_log2 c.args.self - c.args.xdec) 2 = cc in
    let h : c.max-2.result ≡ max (height_log2 c.args.self - c.args.ydec) 2 = cc in
    c.sized.ensures ∙ ap (λ x. with_sides x c.max-2.result) w ∙ ap (λ y. with_sides (max (width_log2 c.args.self - c.args.xdec) 2) y) h
