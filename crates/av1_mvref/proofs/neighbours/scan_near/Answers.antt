use Rattle.std.proofs.Common.{◌∙◌, refl, ap, sym}
use Rattle.std.proofs.lemmas.List.Sums.{fold-append}
use Rattle.av1_mvref.specs.declared.edge.Direction.TheVariants.{Upper, Left}
use Rattle.av1_mvref.specs.Neighbours.{edge, row_and_column, top_right, done_after, line_after, near_neighbours}
use Rattle.av1_mvref.specs.Candidates.{matches_of, either}
use Rattle.av1_mvref.specs.Noted.{took, took_all}
use Rattle.av1_mvref.proofs.Parts.{matches-append, same-lines}
use Rattle.av1_mvref.proofs.neighbours.scan_near.Goals as goal

pub returns-clause-items : goal.returns-clause-items
unfolding near_neighbours
returns-clause-items c =
    let w = c.args.wanted in
    let u = edge Upper c.args.blocks.now c.args.bo.0 c.args.bsize in
    let l = edge Left c.args.blocks.now c.args.bo.0 c.args.bsize in
    let corner = top_right c.args.blocks.now c.args.bo.0 c.args.bsize c.args.has_tr in
    let same = same-lines u l 1 1 1 1 _ _ 0 0 refl refl c.requires.rows c.requires.columns in
    c.scan_top_right-corner.ensures.items
    ∙ ap (λ ys. took_all w ys corner) (c.scan_row_and_column-lines.ensures.items ∙ ap (took_all w c.args.stack.now.items) same)
    ∙ sym (fold-append (took w) c.args.stack.now.items (row_and_column u l 1 1 0 0) corner)

pub returns-clause-found : goal.returns-clause-found
unfolding near_neighbours
returns-clause-found c =
    let w = c.args.wanted in
    let u = edge Upper c.args.blocks.now c.args.bo.0 c.args.bsize in
    let l = edge Left c.args.blocks.now c.args.bo.0 c.args.bsize in
    let corner = top_right c.args.blocks.now c.args.bo.0 c.args.bsize c.args.has_tr in
    let same = same-lines u l 1 1 1 1 _ _ 0 0 refl refl c.requires.rows c.requires.columns in
    c.or.ensures
    ∙ ap (λ m. either m c.scan_top_right-corner.result) (c.scan_row_and_column-lines.ensures.found ∙ ap (matches_of w) same)
    ∙ ap (λ m. either (matches_of w (row_and_column u l 1 1 0 0)) m) c.scan_top_right-corner.ensures.found
    ∙ sym (matches-append w (row_and_column u l 1 1 0 0) corner)

pub returns-clause-rows : goal.returns-clause-rows
returns-clause-rows c =
    let u = edge Upper c.args.blocks.now c.args.bo.0 c.args.bsize in
    c.scan_row_and_column-lines.ensures.rows ∙ ap (λ n. done_after u 1 n (line_after u n 1)) c.requires.rows

pub returns-clause-columns : goal.returns-clause-columns
returns-clause-columns c =
    let l = edge Left c.args.blocks.now c.args.bo.0 c.args.bsize in
    c.scan_row_and_column-lines.ensures.columns ∙ ap (λ n. done_after l 1 n (line_after l n 1)) c.requires.columns
