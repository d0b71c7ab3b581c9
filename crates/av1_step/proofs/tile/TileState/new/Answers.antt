use Rattle.std.proofs.Common.{◌≡◌, ℕ, List, None, rules, sym, subst, ◌∙◌}
use Rattle.av1_cdf.specs.Context.{AreCdfs}
use Rattle.av1_cdf.proofs.Learning.{cdfs_of_tables}
use Rattle.av1_step.specs.Given.{given_of}
use Rattle.av1_step.specs.Kept.{IsKept}
use Rattle.av1_step.specs.Place.{tile_at}
use Rattle.av1_step.specs.Tile.{fresh}
use Rattle.av1_step.specs.Script.{numbers_of}
use Rattle.av1_step.proofs.Fresh.{fresh_kept}
use Rattle.av1_step.proofs.Places.{is_cut}
use Rattle.av1_step.proofs.tile.TileState.new.Goals as goal

pub fresh_blocks-requires-clause-cut : goal.fresh_blocks-requires-clause-cut
fresh_blocks-requires-clause-cut c = is_cut c.args.unit.now.fi c.args.unit.now.fs c.args.unit.now.refs c.requires.given.frame

pub invariant_of-result : goal.invariant_of-result
invariant_of-result c =
    let g = given_of c.args.unit.now in
    let numbers : c.new-cw.result.fc ≡ numbers_of g = c.new-cw.ensures.fc ∙ c.new-fc.ensures in
    let e : tile_at c.args.unit.now c.args.tile c.new-cw.result c.first_planes.result None None None 0 ≡ fresh g c.args.tile (numbers_of g) = search rules in
    record {
      cdfs = subst (λ (ns : List ℕ). AreCdfs ns) (sym numbers) (cdfs_of_tables c.args.unit.now.tables c.args.unit.now.fi.base_q_idx c.requires.given.tables);
      kept = subst IsKept (sym e) (fresh_kept g c.args.tile (numbers_of g) c.requires.given c.requires.tile);
      switches = search rules;
    }
