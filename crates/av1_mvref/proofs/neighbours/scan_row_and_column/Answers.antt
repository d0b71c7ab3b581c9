use Rattle.std.proofs.Common.{◌∙◌, ◌||◌, map, refl, ap, sym}
use Rattle.std.specs.List.{list_any}
use Rattle.std.proofs.lemmas.List.Sums.{fold-append}
use Rattle.av1_mvref.specs.declared.edge.Direction.TheVariants.{Upper, Left}
use Rattle.av1_mvref.specs.Neighbours.{edge, line_after, neighbour, row_and_column}
use Rattle.av1_mvref.specs.Candidates.{gives_new}
use Rattle.av1_mvref.specs.Noted.{took, took_all}
use Rattle.av1_mvref.proofs.Parts.{matches-equal, matches-lines}
use Rattle.av1_mvref.proofs.neighbours.scan_row_and_column.Goals as goal

pub returns-clause-items : goal.returns-clause-items
unfolding row_and_column
returns-clause-items c =
    let u = edge Upper c.args.blocks.now c.args.bo.0 c.args.bsize in
    let l = edge Left c.args.blocks.now c.args.bo.0 c.args.bsize in
    let above = map (neighbour u c.args.row) (line_after u c.args.done.now.rows c.args.row) in
    let left = map (neighbour l c.args.column) (line_after l c.args.done.now.columns c.args.column) in
    c.scan_line_after-beside.ensures.items
    ∙ ap (λ ys. took_all c.args.wanted ys left) c.scan_line_after-above.ensures.items
    ∙ sym (fold-append (took c.args.wanted) c.args.stack.now.items above left)

pub returns-clause-found : goal.returns-clause-found
unfolding row_and_column
returns-clause-found c =
    let u = edge Upper c.args.blocks.now c.args.bo.0 c.args.bsize in
    let l = edge Left c.args.blocks.now c.args.bo.0 c.args.bsize in
    let us = line_after u c.args.done.now.rows c.args.row in
    let ls = line_after l c.args.done.now.columns c.args.column in
    matches-equal _ _ _ _ _ _ c.scan_line_after-above.ensures.found c.scan_line_after-beside.ensures.found
    (c.scan_line_after-beside.ensures.new ∙ ap (λ v. v || list_any (gives_new c.args.wanted) (map (neighbour l c.args.column) ls)) c.scan_line_after-above.ensures.new)
    ∙ matches-lines c.args.wanted u l c.args.row c.args.column us ls refl refl
