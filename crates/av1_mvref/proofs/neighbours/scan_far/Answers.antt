use Rattle.std.proofs.Common.{◌≡◌, ◌+◌, ◌++◌, ◌∙◌, ap, sym}
use Rattle.std.proofs.lemmas.List.Sums.{fold-append}
use Rattle.av1_mvref.specs.declared.edge.Direction.TheVariants.{Upper, Left}
use Rattle.av1_mvref.specs.Neighbours.{edge, second, near_done, second_done, row_and_column, top_left, done_after, line_after, far_neighbours}
use Rattle.av1_mvref.specs.Candidates.{matches_of, either}
use Rattle.av1_mvref.specs.Noted.{took, took_all}
use Rattle.av1_mvref.proofs.Parts.{matches-append, same-lines}
use Rattle.av1_mvref.proofs.neighbours.scan_far.Goals as goal

pub returns-clause-items : goal.returns-clause-items
unfolding far_neighbours
returns-clause-items c =
    let w = c.args.wanted in
    let xs = c.args.stack.now.items in
    let u = edge Upper c.args.blocks.now c.args.bo.0 c.args.bsize in
    let l = edge Left c.args.blocks.now c.args.bo.0 c.args.bsize in
    let corner = top_left c.args.blocks.now c.args.bo.0 in
    let row : c.second-row.result ≡ second u = c.second-row.ensures.value in
    let column : c.second-column.result ≡ second l = c.second-column.ensures.value in
    let rows = c.scan_row_and_column-second.ensures.rows ∙ ap (λ r. done_after u r c.args.done.now.rows (line_after u c.args.done.now.rows r)) row ∙ ap (λ n. done_after u (second u) n (line_after u n (second u))) c.requires.rows in
    let columns = c.scan_row_and_column-second.ensures.columns ∙ ap (λ r. done_after l r c.args.done.now.columns (line_after l c.args.done.now.columns r)) column ∙ ap (λ n. done_after l (second l) n (line_after l n (second l))) c.requires.columns in
    let middle = row_and_column u l (second u) (second l) (near_done u) (near_done l) in
    let last = row_and_column u l (second u + 2) (second l + 2) (second_done u) (second_done l) in
    let same = same-lines u l _ _ (second u) (second l) _ _ (near_done u) (near_done l) row column c.requires.rows c.requires.columns in
    let same_last = same-lines u l _ _ (second u + 2) (second l + 2) _ _ (second_done u) (second_done l) (ap (λ n. n + 2) row) (ap (λ n. n + 2) column) rows columns in
    c.scan_row_and_column-third.ensures.items ∙ ap (took_all w c.scan_row_and_column-second.new.stack.items) same_last
    ∙ ap (λ ys. took_all w ys last) (c.scan_row_and_column-second.ensures.items ∙ ap (took_all w c.scan_top_left-corner.new.stack.items) same)
    ∙ ap (λ ys. took_all w (took_all w ys middle) last) c.scan_top_left-corner.ensures.items
    ∙ ap (λ ys. took_all w ys last) (sym (fold-append (took w) xs corner middle))
    ∙ sym (fold-append (took w) xs (corner ++ middle) last)

pub returns-clause-found : goal.returns-clause-found
unfolding far_neighbours
returns-clause-found c =
    let w = c.args.wanted in
    let u = edge Upper c.args.blocks.now c.args.bo.0 c.args.bsize in
    let l = edge Left c.args.blocks.now c.args.bo.0 c.args.bsize in
    let corner = top_left c.args.blocks.now c.args.bo.0 in
    let row : c.second-row.result ≡ second u = c.second-row.ensures.value in
    let column : c.second-column.result ≡ second l = c.second-column.ensures.value in
    let rows = c.scan_row_and_column-second.ensures.rows ∙ ap (λ r. done_after u r c.args.done.now.rows (line_after u c.args.done.now.rows r)) row ∙ ap (λ n. done_after u (second u) n (line_after u n (second u))) c.requires.rows in
    let columns = c.scan_row_and_column-second.ensures.columns ∙ ap (λ r. done_after l r c.args.done.now.columns (line_after l c.args.done.now.columns r)) column ∙ ap (λ n. done_after l (second l) n (line_after l n (second l))) c.requires.columns in
    let middle = row_and_column u l (second u) (second l) (near_done u) (near_done l) in
    let last = row_and_column u l (second u + 2) (second l + 2) (second_done u) (second_done l) in
    let same = same-lines u l _ _ (second u) (second l) _ _ (near_done u) (near_done l) row column c.requires.rows c.requires.columns in
    let same_last = same-lines u l _ _ (second u + 2) (second l + 2) _ _ (second_done u) (second_done l) (ap (λ n. n + 2) row) (ap (λ n. n + 2) column) rows columns in
    c.or-2.ensures
    ∙ ap (λ m. either m c.scan_row_and_column-third.result) c.or.ensures
    ∙ ap (λ m. either (either m c.scan_row_and_column-second.result) c.scan_row_and_column-third.result) c.scan_top_left-corner.ensures.found
    ∙ ap (λ m. either (either (matches_of w corner) m) c.scan_row_and_column-third.result) (c.scan_row_and_column-second.ensures.found ∙ ap (matches_of w) same)
    ∙ ap (λ m. either m c.scan_row_and_column-third.result) (sym (matches-append w corner middle))
    ∙ ap (either (matches_of w (corner ++ middle))) (c.scan_row_and_column-third.ensures.found ∙ ap (matches_of w) same_last)
    ∙ sym (matches-append w (corner ++ middle) last)
