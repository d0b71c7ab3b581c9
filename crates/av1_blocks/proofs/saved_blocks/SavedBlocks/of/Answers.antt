use Rattle.std.proofs.Common.{◌≡◌, ◌+◌, ◌-◌, ◌*◌, ◌/◌, ◌%◌, ℕ, List, [], ◌∷◌, ◌++◌, length, min, sym, ap, ◌∙◌, arith}
use Rattle.std.proofs.lemmas.List.FromFn.{map-range_with_len_more, length-map-range_with_len}
use Rattle.av1_blocks.specs.declared.block.Block.{Block}
use Rattle.av1_blocks.specs.Grid.{block_at}
use Rattle.av1_blocks.proofs.saved_blocks.SavedBlocks.of.Goals as goal

pub loop-k-preserved : goal.loop-k-preserved
loop-k-preserved c =
    let cols = c.min-cols.result in
    let k = c.loop-k.k in
    let f = λ (k : ℕ). block_at c.args.tile.now (16 * c.args.sbo.0.x + k % cols) (16 * c.args.sbo.0.y + k / cols) in
    c.in_ok-push.ensures.items
    ∙ ap (λ (b : Block). c.loop-k.blocks.items ++ b ∷ []) c.at.ensures
    ∙ ap (λ (bs : List Block). bs ++ f k ∷ []) c.loop-k.invariant
    ∙ sym (map-range_with_len_more f 0 k k (omega arith))

pub invariant_of-result : goal.invariant_of-result
invariant_of-result c =
    let cols = c.min-cols.result in
    let f = λ (k : ℕ). block_at c.args.tile.now (16 * c.args.sbo.0.x + k % cols) (16 * c.args.sbo.0.y + k / cols) in
    let all : c.loop-k.k ≡ c.min-rows.result * cols = omega arith in
    record {
      column = omega (arith, c.requires.column, c.cols-tile_cols.ensures);
      row = omega (arith, c.requires.row, c.rows-tile_rows.ensures);
      size = ap length c.loop-k.invariant ∙ length-map-range_with_len f 0 c.loop-k.k ∙ all
          ∙ ap (λ n. n * cols) c.min-rows.ensures
          ∙ ap (λ n. min (c.rows-tile_rows.result - 16 * c.args.sbo.0.y) 16 * n) c.min-cols.ensures;
    }
