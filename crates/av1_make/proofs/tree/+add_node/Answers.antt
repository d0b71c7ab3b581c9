use Rattle.std.proofs.Common.{◌≡◌, ◌<◌, Bool, true, false, arith, subst, sym, ◌∙◌}
use Rattle.av1_geometry.specs.declared.block_size.BlockSize.{BlockSize}
use Rattle.av1_geometry.specs.declared.partition_type.PartitionType.TheVariants.{PARTITION_SPLIT}
use Rattle.av1_step.specs.declared.step.TileStep.TheVariants.{Partition}
use Rattle.av1_make.specs.Draws.{Makes, step}
use Rattle.av1_make.specs.Tree.{Chooses, is_inside, split}
use Rattle.av1_make.proofs.Making.{leaf_parted, split_parted, then_makes, then_parted}
use Rattle.av1_make.proofs.tree.+add_node.Goals as goal

pub returns-then-stays_whole : goal.returns-then-stays_whole
returns-then-stays_whole t c =
    let half = c.half-half.result in
    let some : 0 < c.args.level = omega (arith, c.if-level-eq0.false) in
    let inside : is_inside c.args.area c.args.x c.args.y ≡ true = sym c.is_inside.ensures ∙ c.if-not-is_inside.false in
    let Is : Bool → Type 0 = λ is. Chooses c.is_inside-2.result is c.args.maker.now c.stays_whole.new.maker in
    let Fits : Bool → Type 0 = λ fits. Chooses fits true c.args.maker.now c.stays_whole.new.maker in
    let chooses = subst Fits c.is_inside-2.ensures (subst Is c.if-stays_whole.true c.stays_whole.ensures) in
    then_parted _ _ _ half _ _ _ _ some c.half-half.ensures.value inside (leaf_parted _ _ _ _ _ _ _ _ _ _ chooses c.add_leaf-then-stays_whole.ensures)

pub returns : goal.returns
unfolding split
returns t c =
    let half = c.half-half.result in
    let some : 0 < c.args.level = omega (arith, c.if-level-eq0.false) in
    let inside : is_inside c.args.area c.args.x c.args.y ≡ true = sym c.is_inside.ensures ∙ c.if-not-is_inside.false in
    let Is : Bool → Type 0 = λ is. Chooses c.is_inside-2.result is c.args.maker.now c.stays_whole.new.maker in
    let Fits : Bool → Type 0 = λ fits. Chooses fits false c.args.maker.now c.stays_whole.new.maker in
    let First : BlockSize → Type 0 = λ s. Makes (step (Partition c.args.x c.args.y s PARTITION_SPLIT)) c.stays_whole.new.maker c.add_step.new.self in
    let chooses = subst Fits c.is_inside-2.ensures (subst Is c.if-stays_whole.false c.stays_whole.ensures) in
    then_parted _ _ _ half _ _ _ _ some c.half-half.ensures.value inside
    (split_parted _ _ _ _ _ _ _ _ _ _ chooses
    (then_makes _ _ _ _ _ _ (subst First c.square.ensures c.in_ok-add_step.ensures)
    (then_makes _ _ _ _ _ _ c.in_ok-add_node.ensures
    (then_makes _ _ _ _ _ _ c.in_ok-add_node-2.ensures
    (then_makes _ _ _ _ _ _ c.in_ok-add_node-3.ensures c.add_node-4.ensures)))))
