use Rattle.std.proofs.Common.{◌≡◌, ◌<◌, List, ℕ, [], length, get_or, set, sym, ap, ◌∙◌, rules}
use Rattle.av1_blocks.specs.Edges.{place_in}
use Rattle.av1_blocks.specs.Places.{put}
use Rattle.av1_blocks.proofs.Places.{first-none, first-more}
use Rattle.av1_blocks.proofs.edge.put_back_planes.Goals as goal

pub loop-plane-init : goal.loop-plane-init
loop-plane-init c = sym (first-none (λ p edge. put (place_in c.args.dec p c.args.x) 16 (get_or c.args.saved.now p []) edge) c.args.edges.now)

pub loop-plane-preserved : goal.loop-plane-preserved
loop-plane-preserved c =
    let p = c.loop-plane.plane in
    let f = λ (p : ℕ) (edge : List ℕ). put (place_in c.args.dec p c.args.x) 16 (get_or c.args.saved.now p []) edge in
    let few : p < length c.args.edges.now = search rules in
    let new : c.put_back_plane.new.edge ≡ f p (get_or c.loop-plane.edges p []) = search rules in
    ap (λ (edge : List ℕ). set c.loop-plane.edges p edge) new
    ∙ ap (λ (xs : List (List ℕ)). set xs p (f p (get_or xs p []))) c.loop-plane.invariant
    ∙ first-more p f c.args.edges.now [] few
