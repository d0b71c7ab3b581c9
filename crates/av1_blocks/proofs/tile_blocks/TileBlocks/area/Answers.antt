use Rattle.std.proofs.Common.{◌≡◌, ◌+◌, ℕ, min, ap, sym, subst, ◌<◌, ◌∙◌, arith}
use Rattle.av1_geometry.specs.BlockSize.{width_mi, height_mi}
use Rattle.av1_blocks.specs.declared.area.Area.{Area}
use Rattle.av1_blocks.specs.Area.{area_of}
use Rattle.av1_blocks.specs.Grid.{Grid, tile}
use Rattle.av1_blocks.proofs.tile_blocks.TileBlocks.area.Goals as goal

pub returns-clause-value : goal.returns-clause-value
returns-clause-value c =
    let g = tile c.self.inside.frame.now c.self.inside.x c.self.inside.y c.self.inside.cols c.self.inside.rows in
    let bo = c.args.bo.0 in
    let columns : bo.x < g.cols = subst (λ (v : Grid). bo.x < v.cols) (sym c.self.view_is) c.requires.column in
    let lines : bo.y < g.rows = subst (λ (v : Grid). bo.y < v.rows) (sym c.self.view_is) c.requires.row in
    let right : g.x + bo.x + c.min.result ≡ g.x + min (bo.x + width_mi c.args.bsize) g.cols = omega (arith, columns, c.min.ensures, c.width_mi.ensures.value) in
    let bottom : g.y + bo.y + c.min-2.result ≡ g.y + min (bo.y + height_mi c.args.bsize) g.rows = omega (arith, lines, c.min-2.ensures, c.height_mi.ensures.value) in
    let area : ℕ → ℕ → Area = λ r b. record { left = g.x + bo.x; right = r; top = g.y + bo.y; bottom = b } in
    ap (λ r. area r (g.y + bo.y + c.min-2.result)) right
    ∙ ap (λ b. area (g.x + min (bo.x + width_mi c.args.bsize) g.cols) b) bottom
    ∙ ap (λ (v : Grid). area_of v bo c.args.bsize) c.self.view_is
