use Rattle.std.proofs.Common.{◌∙◌, ◌++◌, [], take, min, ap}
use Rattle.std.specs.Prelude.{fold, flat_map}
use Rattle.av1_mvref.specs.declared.edge.Direction.TheVariants.{Upper, Left}
use Rattle.av1_mvref.specs.Neighbours.{edge, shown}
use Rattle.av1_mvref.specs.ExtraSearch.{searched, searched_along, referred, to_same, to_others}
use Rattle.av1_mvref.specs.Noted.{kept_same, kept_others}
use Rattle.av1_mvref.proofs.Walked.{two-lines}
use Rattle.av1_mvref.proofs.Kept.{kept_same-all, kept_others-all, kept-both}
use Rattle.av1_mvref.proofs.pairs.vectors_to.Goals as goal

pub returns : goal.returns
returns c =
    let to = c.args.to in
    let bias = c.args.sign_bias.now in
    let u = edge Upper c.args.blocks.now c.args.bo.0 c.args.bsize in
    let l = edge Left c.args.blocks.now c.args.bo.0 c.args.bsize in
    let n = min (shown u) (shown l) in
    let k = c.searched_sides-n.result in
    let blocks = searched c.args.blocks.now c.args.bo.0 c.args.bsize in
    let along = ap (λ m. searched_along u m ++ searched_along l m) c.searched_sides-n.ensures in
    let same = two-lines (kept_same to) [] c.keep_line.new.same.items c.keep_line-2.new.same.items (searched_along u k) (searched_along l k) (c.keep_line.ensures.same ∙ ap (λ xs. fold (kept_same to) xs (searched_along u k)) c.new-same.ensures) c.keep_line-2.ensures.same
    ∙ ap (fold (kept_same to) []) along ∙ kept_same-all to blocks in
    let others = two-lines (kept_others bias to) [] c.keep_line.new.others.items c.keep_line-2.new.others.items (searched_along u k) (searched_along l k) (c.keep_line.ensures.others ∙ ap (λ xs. fold (kept_others bias to) xs (searched_along u k)) c.new-others.ensures) c.keep_line-2.ensures.others
    ∙ ap (fold (kept_others bias to) []) along ∙ kept_others-all bias to blocks in
    c.append.ensures
    ∙ ap (λ xs. take 2 (xs ++ c.as_slice.result.now)) same
    ∙ ap (λ ys. take 2 (take 2 (to_same to (flat_map referred blocks)) ++ ys)) (c.as_slice.ensures.value ∙ others)
    ∙ kept-both (to_same to (flat_map referred blocks)) (to_others bias to (flat_map referred blocks))
