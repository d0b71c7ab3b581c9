use Rattle.std.proofs.Common.{◌∙◌, min, ap, sym}
use Rattle.std.specs.Prelude.{fold}
use Rattle.std.proofs.lemmas.List.Sums.{fold-append}
use Rattle.av1_mvref.specs.declared.edge.Direction.TheVariants.{Upper, Left}
use Rattle.av1_mvref.specs.Neighbours.{edge, shown}
use Rattle.av1_mvref.specs.ExtraSearch.{with_block, searched_along}
use Rattle.av1_mvref.proofs.extra.add_vectors.Goals as goal

pub returns : goal.returns
returns c =
    let f = with_block c.args.sign_bias.now c.args.to in
    let u = edge Upper c.args.blocks.now c.args.bo.0 c.args.bsize in
    let l = edge Left c.args.blocks.now c.args.bo.0 c.args.bsize in
    let n = min (shown u) (shown l) in
    let xs = c.args.stack.now.items in
    c.add_line-2.ensures.items
    ∙ ap (λ k. fold f c.add_line.new.stack.items (searched_along l k)) c.searched_sides-n.ensures
    ∙ ap (λ ys. fold f ys (searched_along l n)) (c.add_line.ensures.items ∙ ap (λ k. fold f xs (searched_along u k)) c.searched_sides-n.ensures)
    ∙ sym (fold-append f xs (searched_along u n) (searched_along l n))
