use Rattle.std.proofs.Common.{◌≡◌, ◌+◌, ◌<◌, ℕ, List, [], length, get_or, set, ap, ◌∙◌, rules}
use Rattle.av1_blocks.specs.Places.{filled, changed_at}
use Rattle.av1_blocks.proofs.Places.{set-at}
use Rattle.av1_blocks.proofs.block_context.BlockContext.fill_plane.Goals as goal

pub returns : goal.returns
returns c =
    let p = c.args.plane in
    let v = c.args.value in
    let old = c.args.self.now in
    let up = λ (edge : List ℕ). filled c.args.x (c.args.x + c.args.width) v edge in
    let beside = λ (edge : List ℕ). filled c.args.y (c.args.y + c.args.height) v edge in
    let few : p < length old.above_coeff_context = search rules in
    let few_left : p < length old.left_coeff_context = search rules in
    let above : c.fill_above.new.edge ≡ up (get_or old.above_coeff_context p []) = search rules in
    let left : c.fill_left.new.edge ≡ beside (get_or old.left_coeff_context p []) = search rules in
    ap (λ (edge : List ℕ). record old { above_coeff_context = set old.above_coeff_context p edge; left_coeff_context = set old.left_coeff_context p c.fill_left.new.edge }) above
    ∙ ap (λ (edge : List ℕ). record old { above_coeff_context = set old.above_coeff_context p (up (get_or old.above_coeff_context p [])); left_coeff_context = set old.left_coeff_context p edge }) left
    ∙ ap (λ (edges : List (List ℕ)). record old { above_coeff_context = edges; left_coeff_context = set old.left_coeff_context p (beside (get_or old.left_coeff_context p [])) }) (set-at p up old.above_coeff_context [] few)
    ∙ ap (λ (edges : List (List ℕ)). record old { above_coeff_context = changed_at p up old.above_coeff_context; left_coeff_context = edges }) (set-at p beside old.left_coeff_context [] few_left)
