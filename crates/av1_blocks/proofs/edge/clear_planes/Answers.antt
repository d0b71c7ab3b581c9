use Rattle.std.proofs.Common.{◌<◌, List, ℕ, [], length, replicate, set, sym, ap, ◌∙◌, rules}
use Rattle.av1_blocks.proofs.Places.{first-none, first-more}
use Rattle.av1_blocks.proofs.edge.clear_planes.Goals as goal

pub loop-plane-init : goal.loop-plane-init
loop-plane-init c = sym (first-none (λ _ _. replicate 16 0) _)

pub loop-plane-preserved : goal.loop-plane-preserved
loop-plane-preserved c =
    let p = c.loop-plane.plane in
    let few : p < length c.args.edges.now = search rules in
    ap (λ (xs : List (List ℕ)). set xs p (replicate 16 0)) c.loop-plane.invariant ∙ first-more p (λ _ _. replicate 16 0) c.args.edges.now [] few
