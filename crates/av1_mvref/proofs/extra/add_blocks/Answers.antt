use Rattle.std.proofs.Common.{◌≤◌, ◌∙◌, arith, ap, sym, subst}
use Rattle.av1_blocks.specs.Sound.{IsSound}
use Rattle.av1_mvref.specs.Neighbours.{edge, shown, at_distance}
use Rattle.av1_mvref.specs.ExtraSearch.{with_block}
use Rattle.av1_mvref.proofs.Walked.{walked-next, walked-end, reach-near, near_inside, near-sound, near-positive}
use Rattle.av1_mvref.proofs.extra.add_blocks.Goals as goal

pub block_at-block-requires-clause-far : goal.block_at-block-requires-clause-far
block_at-block-requires-clause-far c = reach-near (edge c.args.beside.to c.args.blocks.now c.args.beside.bo.0 c.args.beside.bsize) c.requires.near

pub block_at-block-requires-clause-place : goal.block_at-block-requires-clause-place
block_at-block-requires-clause-place c =
    near_inside c.args.beside.to c.args.blocks.now c.args.beside.bo.0 c.args.beside.bsize c.loop-i.i (omega arith)

pub add_block-requires-clause-sound : goal.add_block-requires-clause-sound
add_block-requires-clause-sound c =
    subst IsSound (sym c.block_at-block.ensures)
    (near-sound c.args.beside.to c.args.blocks.now c.args.beside.bo.0 c.args.beside.bsize c.loop-i.i c.requires.ready c.requires.inside c.requires.near (omega arith))

pub loop-i-preserved : goal.loop-i-preserved
loop-i-preserved c =
    let to = c.args.beside.to in
    let g = c.args.blocks.now in
    let bo = c.args.beside.bo.0 in
    let size = c.args.beside.bsize in
    let e = edge to g bo size in
    let few : shown e ≤ 16 = omega arith in (
      walked-next (with_block c.args.sign_bias.now c.args.to) (at_distance e 1) e.side_of c.args.n c.args.stack.now.items c.loop-i.stack.items c.loop-i.i
          c.block_at-block.result.now c.add_block.new.stack.items c.side_of-i.result c.block_at-block.ensures c.add_block.ensures.items c.side_of-i.ensures.value
          c.loop-i.invariant.0 (near-positive to g bo size c.args.n c.requires.ready c.requires.inside c.requires.near c.requires.shown) (omega arith) (omega arith),
      c.add_block.ensures.few,
    )

pub loop-i-smaller : goal.loop-i-smaller
loop-i-smaller c =
    let to = c.args.beside.to in
    let g = c.args.blocks.now in
    let bo = c.args.beside.bo.0 in
    let size = c.args.beside.bsize in
    let e = edge to g bo size in
    let one = near-positive to g bo size c.args.n c.requires.ready c.requires.inside c.requires.near c.requires.shown c.loop-i.i (omega arith) in
    let far : 1 ≤ c.side_of-i.result = subst (λ m. 1 ≤ m) (ap e.side_of (sym c.block_at-block.ensures) ∙ sym c.side_of-i.ensures.value) one in
    omega arith

pub returns-clause-items : goal.returns-clause-items
returns-clause-items c = walked-end _ _ _ _ _ _ c.loop-i.i c.loop-i.invariant.0 (omega arith)
