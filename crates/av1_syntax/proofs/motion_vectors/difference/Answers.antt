use Rattle.std.proofs.Common.{w16, rules}
use mir.Val.{SFits}
use Rattle.av1_syntax.proofs.VectorWrites.{difference_is}
use Rattle.av1_syntax.proofs.motion_vectors.difference.Goals as goal

pub returns : goal.returns
returns c =
    let a : SFits w16 c.args.mv.row = search rules in
    let b : SFits w16 c.args.ref_mv.row = search rules in
    let d : SFits w16 c.args.mv.col = search rules in
    let e : SFits w16 c.args.ref_mv.col = search rules in
    difference_is c.args.mv c.args.ref_mv a b d e c.requires.rows c.requires.columns
