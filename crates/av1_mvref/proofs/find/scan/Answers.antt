use Rattle.std.proofs.Common.{◌≡◌, ◌∙◌, map, ap, arith}
use Rattle.av1_mvref.specs.Neighbours.{near_neighbours, far_neighbours}
use Rattle.av1_mvref.specs.Candidates.{by_weight, matches_of, mode_context, either}
use Rattle.av1_mvref.specs.Noted.{took_all, nearer, heaviest}
use Rattle.av1_mvref.specs.ExtraSearch.{scanned}
use Rattle.av1_mvref.proofs.Noting.{heaviest-nearer}
use Rattle.av1_mvref.proofs.Entries.{list-of-all}
use Rattle.av1_mvref.proofs.find.scan.Goals as goal

pub scan_far-far-requires-clause-light : goal.scan_far-far-requires-clause-light
scan_far-far-requires-clause-light c =
    let none : heaviest c.args.stack.now.items ≡ 0 = ap heaviest c.requires.empty in
    let raised = ap heaviest c.add_offset.ensures in
    let light = heaviest-nearer c.scan_near-near.new.stack.items in
    omega arith

pub sort_by_weight-requires-clause-light : goal.sort_by_weight-requires-clause-light
sort_by_weight-requires-clause-light c =
    let none : heaviest c.args.stack.now.items ≡ 0 = ap heaviest c.requires.empty in
    let raised = ap heaviest c.add_offset.ensures in
    let light = heaviest-nearer c.scan_near-near.new.stack.items in
    omega arith

pub returns-clause-items : goal.returns-clause-items
unfolding scanned
returns-clause-items c =
    let w = c.args.wanted in
    let near = near_neighbours c.args.blocks.now c.args.bo.0 c.args.bsize c.args.has_tr in
    let far = far_neighbours c.args.blocks.now c.args.bo.0 c.args.bsize in
    let first = c.scan_near-near.ensures.items ∙ ap (λ xs. took_all w xs near) c.requires.empty in
    c.sort_by_weight.ensures
    ∙ ap by_weight (c.scan_far-far.ensures.items ∙ ap (λ xs. took_all w xs far) (c.add_offset.ensures ∙ ap (map nearer) first) ∙ list-of-all w near far)

pub returns-clause-context : goal.returns-clause-context
returns-clause-context c =
    let w = c.args.wanted in
    let near = near_neighbours c.args.blocks.now c.args.bo.0 c.args.bsize c.args.has_tr in
    c.mode_context.ensures.value
    ∙ ap (λ m. mode_context m (either m c.scan_far-far.result)) c.scan_near-near.ensures.found
    ∙ ap (λ m. mode_context (matches_of w near) (either (matches_of w near) m)) c.scan_far-far.ensures.found
