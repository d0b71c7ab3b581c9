use Rattle.std.proofs.Common.{◌+◌, ◌/◌, ◌^◌, ℕ, List, max, sym, ap, ◌∙◌}
use Rattle.av1_blocks.specs.declared.block_context.BlockContext.{BlockContext}
use Rattle.av1_blocks.specs.Edges.{filled_in, place_in, side_in, with_plane}
use Rattle.av1_blocks.specs.Places.{first}
use Rattle.av1_blocks.proofs.Places.{first-none, first-more-at}
use Rattle.av1_blocks.proofs.block_context.BlockContext.reset_planes.Goals as goal

pub loop-plane-init : goal.loop-plane-init
loop-plane-init c =
    let old = c.args.self.now in
    let up = λ (p : ℕ) (edge : List ℕ). filled_in c.args.xdec p c.args.x c.args.width 0 edge in
    let beside = λ (p : ℕ) (edge : List ℕ). filled_in c.args.ydec p c.args.y c.args.height 0 edge in
    ap (λ (edges : List (List ℕ)). record old { above_coeff_context = edges }) (sym (first-none up old.above_coeff_context))
    ∙ ap (λ (edges : List (List ℕ)). record old { above_coeff_context = first 0 up old.above_coeff_context; left_coeff_context = edges }) (sym (first-none beside old.left_coeff_context))

pub loop-plane-preserved : goal.loop-plane-preserved
loop-plane-preserved c =
    let old = c.args.self.now in
    let p = c.loop-plane.plane in
    let s = c.loop-plane.self in
    let x = c.args.x in
    let y = c.args.y in
    let w = c.args.width in
    let h = c.args.height in
    let d = c.halvings-dx.result in
    let e = c.halvings-dy.result in
    let up = λ (p : ℕ) (edge : List ℕ). filled_in c.args.xdec p x w 0 edge in
    let beside = λ (p : ℕ) (edge : List ℕ). filled_in c.args.ydec p y h 0 edge in
    c.fill_plane.ensures
    ∙ ap (λ n. with_plane p (x / 2 ^ d) n (y / 2 ^ e) c.max-rows.result 0 s) c.max-columns.ensures
    ∙ ap (λ n. with_plane p (x / 2 ^ d) (max (w / 2 ^ d) 1) (y / 2 ^ e) n 0 s) c.max-rows.ensures
    ∙ ap (λ n. with_plane p (x / 2 ^ n) (max (w / 2 ^ n) 1) (y / 2 ^ e) (max (h / 2 ^ e) 1) 0 s) c.halvings-dx.ensures.value
    ∙ ap (λ n. with_plane p (place_in c.args.xdec p x) (side_in c.args.xdec p w) (y / 2 ^ n) (max (h / 2 ^ n) 1) 0 s) c.halvings-dy.ensures.value
    ∙ ap (λ (v : BlockContext). with_plane p (place_in c.args.xdec p x) (side_in c.args.xdec p w) (place_in c.args.ydec p y) (side_in c.args.ydec p h) 0 v) c.loop-plane.invariant
    ∙ ap (λ (edges : List (List ℕ)). record old { above_coeff_context = edges; left_coeff_context = (with_plane p 0 0 (place_in c.args.ydec p y) (side_in c.args.ydec p h) 0 (record old { left_coeff_context = first p beside old.left_coeff_context })).left_coeff_context }) (first-more-at p up old.above_coeff_context)
    ∙ ap (λ (edges : List (List ℕ)). record old { above_coeff_context = first (p + 1) up old.above_coeff_context; left_coeff_context = edges }) (first-more-at p beside old.left_coeff_context)
