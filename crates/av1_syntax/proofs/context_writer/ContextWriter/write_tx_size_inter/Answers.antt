use Rattle.std.proofs.Common.{◌∙◌, if◌then◌else◌, [], ap, arith}
use Rattle.av1_geometry.specs.BlockTables.{max_tx_size}
use Rattle.av1_syntax.specs.TransformSizes.{halved, parts_of}
use Rattle.av1_syntax.proofs.Splits.{only_whole, inter_whole, inter_part, entered_part, none_entered}
use Rattle.av1_syntax.proofs.Moving.{moves_as}
use Rattle.av1_syntax.proofs.context_writer.ContextWriter.write_tx_size_inter.Goals as goal

pub write_part-requires-clause-size : goal.write_part-requires-clause-size
write_part-requires-clause-size g c = c.requires.size ∙ ap (λ n. halved n (max_tx_size c.args.bsize)) c.if-depth-eq1.true

pub write_part-requires-clause-placed : goal.write_part-requires-clause-placed
write_part-requires-clause-placed g c = c.requires.placed

pub write_part-requires-clause-shift : goal.write_part-requires-clause-shift
write_part-requires-clause-shift g c = omega (arith, c.requires.early)

pub returns-then-depth-eq1-clause-wrote : goal.returns-then-depth-eq1-clause-wrote
returns-then-depth-eq1-clause-wrote g c =
    inter_part c.write_part.result c.args.self.now.bc c.args.bo.0 c.args.bsize c.args.tx_size c.args.tbx c.args.tby c.args.depth c.args.txfm_split _ _ c.if-depth-eq1.true (c.requires.whole c.if-depth-eq1.true) c.write_part.ensures.wrote

pub returns-then-depth-eq1-clause-moves : goal.returns-then-depth-eq1-clause-moves
returns-then-depth-eq1-clause-moves g c = moves_as g.W.Known 13 65 _ _ _ _ _ _ (omega arith) c.write_part.ensures.moves

pub returns-then-depth-eq1-clause-entered : goal.returns-then-depth-eq1-clause-entered
returns-then-depth-eq1-clause-entered g c = entered_part c.write_part.result c.args.bo.0 c.args.bsize c.args.tx_size c.args.txfm_split _ _ (c.requires.whole c.if-depth-eq1.true) c.write_part.ensures.entered

pub returns-then-depth-eq1-clause-refused : goal.returns-then-depth-eq1-clause-refused
returns-then-depth-eq1-clause-refused g c =
    none_entered c.write_part.result c.args.bo.0 (halved 1 c.args.tx_size) (if c.args.txfm_split then parts_of c.args.bsize (halved 1 c.args.tx_size) else []) _ _ c.write_part.ensures.refused

pub write_split-requires-clause-inside : goal.write_split-requires-clause-inside
write_split-requires-clause-inside g c = c.requires.inside (only_whole c.args.depth c.requires.depth c.if-depth-eq1.false)

pub write_split-requires-clause-placed : goal.write_split-requires-clause-placed
write_split-requires-clause-placed g c = c.requires.placed (c.requires.inside (only_whole c.args.depth c.requires.depth c.if-depth-eq1.false))

pub write_split-requires-clause-size : goal.write_split-requires-clause-size
write_split-requires-clause-size g c = c.requires.size ∙ ap (λ n. halved n (max_tx_size c.args.bsize)) (only_whole c.args.depth c.requires.depth c.if-depth-eq1.false)

pub returns-clause-wrote : goal.returns-clause-wrote
returns-clause-wrote g c =
    inter_whole c.write_split.result c.args.self.now.bc c.args.bo.0 c.args.bsize c.args.tx_size c.args.tbx c.args.tby c.args.depth c.args.txfm_split _ _ (only_whole c.args.depth c.requires.depth c.if-depth-eq1.false) c.write_split.ensures.wrote

pub returns-clause-moves : goal.returns-clause-moves
returns-clause-moves g c = c.write_split.ensures.moves

pub returns-clause-entered : goal.returns-clause-entered
returns-clause-entered g c = c.write_split.ensures.entered

pub returns-clause-refused : goal.returns-clause-refused
returns-clause-refused g c = c.write_split.ensures.refused
