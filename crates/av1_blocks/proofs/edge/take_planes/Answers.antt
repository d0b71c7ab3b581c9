use Rattle.std.proofs.Common.{◌≡◌, ◌+◌, ◌<◌, List, ℕ, [], replicate, get_or, set, slice_range, sym, ap, ◌∙◌, rules}
use Rattle.av1_blocks.specs.Edges.{place_in}
use Rattle.av1_blocks.proofs.Places.{first-none, first-more}
use Rattle.av1_blocks.proofs.edge.take_planes.Goals as goal

pub loop-plane-init : goal.loop-plane-init
loop-plane-init c = sym (first-none (λ p _. slice_range (get_or c.args.edges.now p []) (place_in c.args.dec p c.args.x) (place_in c.args.dec p c.args.x + 16)) (replicate 3 (replicate 16 0)))

pub loop-plane-preserved : goal.loop-plane-preserved
loop-plane-preserved c =
    let p = c.loop-plane.plane in
    let f = λ (p : ℕ) (edge : List ℕ). slice_range (get_or c.args.edges.now p []) (place_in c.args.dec p c.args.x) (place_in c.args.dec p c.args.x + 16) in
    let few : p < 3 = search rules in
    let new : c.take.result ≡ f p (get_or c.loop-plane.taken p []) = search rules in
    ap (λ (edge : List ℕ). set c.loop-plane.taken p edge) new
    ∙ ap (λ (xs : List (List ℕ)). set xs p (f p (get_or xs p []))) c.loop-plane.invariant
    ∙ first-more p f (replicate 3 (replicate 16 0)) [] few
