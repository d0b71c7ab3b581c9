use Rattle.std.proofs.Common.{◌∙◌, map, ap}
use Rattle.av1_mvref.specs.Candidates.{clamped}
use Rattle.av1_mvref.specs.ExtraSearch.{found, searched, completed}
use Rattle.av1_mvref.proofs.find.find.Goals as goal

pub returns-clause-list : goal.returns-clause-list
unfolding found
returns-clause-list c =
    let g = c.args.blocks.now in
    let bo = c.args.bo.0 in
    let size = c.args.bsize in
    c.clamp_list.ensures
    ∙ ap (map (clamped g bo size)) (c.complete.ensures ∙ ap (completed c.args.sign_bias.now c.args.wanted (searched g bo size)) c.scan-context.ensures.items)

pub returns-clause-context : goal.returns-clause-context
unfolding found
returns-clause-context c = c.scan-context.ensures.context
