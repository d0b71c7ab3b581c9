use Rattle.std.proofs.Common.{◌≡◌, true, false, Some, None, refl, sym, ap, subst, ◌∙◌, arith, rules}
use Rattle.av1_blocks.specs.declared.block_context.BlockContext.{BlockContext}
use Rattle.av1_blocks.specs.Edges.{with_partition}
use Rattle.av1_geometry.specs.declared.block_offset.BlockOffset.{BlockOffset}
use Rattle.av1_geometry.specs.BlockTables.{subsize_of}
use Rattle.av1_step.specs.declared.step.TileStep.TheVariants.{Partition}
use Rattle.av1_step.specs.Kept.{IsKept}
use Rattle.av1_step.specs.State.{tile_of}
use Rattle.av1_step.specs.Step.{entered, is_split_on, partition_kind}
use Rattle.av1_step.specs.Tile.{with_numbers}
use Rattle.av1_step.proofs.Arms.{writes_whole, writes_front, partition_allowed, parted_split, parted_one, block_within}
use Rattle.av1_step.proofs.Effects.{numbers_kept}
use Rattle.av1_step.proofs.StepLaws.{kept_after, parted_block}
use Rattle.av1_step.proofs.Switches.{switched}
use Rattle.av1_step.proofs.tile.TileState.write_partition.Goals as goal

pub write_partition-requires-clause-place : goal.write_partition-requires-clause-place
write_partition-requires-clause-place g c = (partition_allowed c.args.x c.args.y c.args.size c.args.p (tile_of c.args.self.now) c.args.self.now.kept c.requires.rules).0

pub write_partition-requires-clause-allowed : goal.write_partition-requires-clause-allowed
write_partition-requires-clause-allowed g c = (partition_allowed c.args.x c.args.y c.args.size c.args.p (tile_of c.args.self.now) c.args.self.now.kept c.requires.rules).1

pub invariant_of-self : goal.invariant_of-self
invariant_of-self g c =
    let t = tile_of c.args.self.now in
    let fc = c.write_partition.new.self.fc in
    let e : record t { numbers = fc; bc = c.write_partition.new.self.bc } ≡ with_numbers fc t = ap (λ (bc : BlockContext). record t { numbers = fc; bc = bc }) c.write_partition.ensures.rest in
    record { cdfs = c.write_partition.ensures.moves.cdfs; kept = subst IsKept (sym e) (numbers_kept fc t c.args.self.now.kept); switches = switched _ _ _ _ _ _ _ _ _ c.write_partition.ensures.moves c.args.self.now.switches }

pub invariant_of-self-then-is_split_on : goal.invariant_of-self-then-is_split_on
invariant_of-self-then-is_split_on g c =
    let t = tile_of c.args.self.now in
    let fc = c.write_partition.new.self.fc in
    let e : record t { numbers = fc; bc = c.write_partition.new.self.bc } ≡ with_numbers fc t = ap (λ (bc : BlockContext). record t { numbers = fc; bc = bc }) c.write_partition.ensures.rest in
    record { cdfs = c.write_partition.ensures.moves.cdfs; kept = subst IsKept (sym e) (numbers_kept fc t c.args.self.now.kept); switches = switched _ _ _ _ _ _ _ _ _ c.write_partition.ensures.moves c.args.self.now.switches }

pub invariant_of-self-in_default : goal.invariant_of-self-in_default
invariant_of-self-in_default g c =
    let t = tile_of c.args.self.now in
    let fc = c.write_partition.new.self.fc in
    let e : record t { numbers = fc; bc = c.write_partition.new.self.bc } ≡ with_numbers fc t = ap (λ (bc : BlockContext). record t { numbers = fc; bc = bc }) c.write_partition.ensures.rest in
    record { cdfs = c.write_partition.ensures.moves.cdfs; kept = subst IsKept (sym e) (numbers_kept fc t c.args.self.now.kept); switches = switched _ _ _ _ _ _ _ _ _ c.write_partition.ensures.moves c.args.self.now.switches }

pub returns-in_err-write_partition : goal.returns-in_err-write_partition
returns-in_err-write_partition g c =
    let t = tile_of c.args.self.now in
    let fc = c.write_partition.new.self.fc in
    let bo : BlockOffset = record { x = c.args.x; y = c.args.y } in
    let e : record t { numbers = fc; bc = c.write_partition.new.self.bc } ≡ with_numbers fc t = ap (λ (bc : BlockContext). record t { numbers = fc; bc = bc }) c.in_err-write_partition.ensures.rest in
    writes_front g.W.Known c.from_residual.result c.in_err-write_partition.field-0.0 (search rules) (Partition c.args.x c.args.y c.args.size c.args.p) (partition_kind bo c.args.size t) c.args.p _ _ _ _ 13 refl refl c.requires.rules
    c.in_err-write_partition.ensures.wrote e (omega arith) c.in_err-write_partition.ensures.moves

pub returns-then-is_split_on : goal.returns-then-is_split_on
returns-then-is_split_on g c =
    let t = tile_of c.args.self.now in
    let fc = c.write_partition.new.self.fc in
    let bo : BlockOffset = record { x = c.args.x; y = c.args.y } in
    let e : record t { numbers = fc; bc = c.write_partition.new.self.bc } ≡ with_numbers fc t = ap (λ (bc : BlockContext). record t { numbers = fc; bc = bc }) c.in_ok-write_partition.ensures.rest in
    let split : is_split_on c.args.size c.args.p ≡ true = sym c.is_split_on.ensures ∙ c.if-is_split_on.true in
    writes_whole g.W.Known _ tt refl (Partition c.args.x c.args.y c.args.size c.args.p) (partition_kind bo c.args.size t) c.args.p _ _ _ _ 13 refl refl c.requires.rules
    c.in_ok-write_partition.ensures.wrote (e ∙ sym (parted_split c.args.x c.args.y c.args.size c.args.p (with_numbers fc t) split)) (omega arith) c.in_ok-write_partition.ensures.moves

pub update_partition_context-requires-clause-column : goal.update_partition_context-requires-clause-column
update_partition_context-requires-clause-column g c =
    let t = tile_of c.args.self.now in
    let bo : BlockOffset = record { x = c.args.x; y = c.args.y } in
    (block_within t bo c.args.size c.args.self.now.kept (parted_block t bo c.args.size (partition_allowed c.args.x c.args.y c.args.size c.args.p t c.args.self.now.kept c.requires.rules).0)).0

pub update_partition_context-requires-clause-row : goal.update_partition_context-requires-clause-row
update_partition_context-requires-clause-row g c =
    let t = tile_of c.args.self.now in
    let bo : BlockOffset = record { x = c.args.x; y = c.args.y } in
    (block_within t bo c.args.size c.args.self.now.kept (parted_block t bo c.args.size (partition_allowed c.args.x c.args.y c.args.size c.args.p t c.args.self.now.kept c.requires.rules).0)).1

pub invariant_of-self-in-Some : goal.invariant_of-self-in-Some
invariant_of-self-in-Some g c =
    let t = tile_of c.args.self.now in
    let fc = c.write_partition.new.self.fc in
    let u = with_numbers fc t in
    let bo : BlockOffset = record { x = c.args.x; y = c.args.y } in
    let s = c.in-Some.subsize in
    let split : is_split_on c.args.size c.args.p ≡ false = sym c.is_split_on.ensures ∙ c.if-is_split_on.false in
    let sub : subsize_of c.args.size c.args.p ≡ Some s = sym c.subsize.ensures ∙ c.in-Some.is in
    let e : record t { numbers = fc; bc = c.update_partition_context.new.self } ≡ entered (Partition c.args.x c.args.y c.args.size c.args.p) u =
    ap (λ (bc : BlockContext). record t { numbers = fc; bc = bc }) (c.update_partition_context.ensures ∙ ap (λ (bc : BlockContext). with_partition bo s c.args.size bc) c.write_partition.ensures.rest)
    ∙ sym (parted_one c.args.x c.args.y c.args.size c.args.p u (Some s) split sub) in
    record { cdfs = c.write_partition.ensures.moves.cdfs; kept = subst IsKept (sym e) (kept_after (Partition c.args.x c.args.y c.args.size c.args.p) fc t c.write_partition.ensures.moves.cdfs c.args.self.now.kept c.requires.rules); switches = switched _ _ _ _ _ _ _ _ _ c.write_partition.ensures.moves c.args.self.now.switches }

pub returns-in-Some : goal.returns-in-Some
returns-in-Some g c =
    let t = tile_of c.args.self.now in
    let fc = c.write_partition.new.self.fc in
    let u = with_numbers fc t in
    let bo : BlockOffset = record { x = c.args.x; y = c.args.y } in
    let s = c.in-Some.subsize in
    let split : is_split_on c.args.size c.args.p ≡ false = sym c.is_split_on.ensures ∙ c.if-is_split_on.false in
    let sub : subsize_of c.args.size c.args.p ≡ Some s = sym c.subsize.ensures ∙ c.in-Some.is in
    let e : record t { numbers = fc; bc = c.update_partition_context.new.self } ≡ entered (Partition c.args.x c.args.y c.args.size c.args.p) u =
    ap (λ (bc : BlockContext). record t { numbers = fc; bc = bc }) (c.update_partition_context.ensures ∙ ap (λ (bc : BlockContext). with_partition bo s c.args.size bc) c.in_ok-write_partition.ensures.rest)
    ∙ sym (parted_one c.args.x c.args.y c.args.size c.args.p u (Some s) split sub) in
    writes_whole g.W.Known _ tt refl (Partition c.args.x c.args.y c.args.size c.args.p) (partition_kind bo c.args.size t) c.args.p _ _ _ _ 13 refl refl c.requires.rules
    c.in_ok-write_partition.ensures.wrote e (omega arith) c.in_ok-write_partition.ensures.moves

pub returns-in_default : goal.returns-in_default
returns-in_default g c =
    let t = tile_of c.args.self.now in
    let fc = c.write_partition.new.self.fc in
    let u = with_numbers fc t in
    let bo : BlockOffset = record { x = c.args.x; y = c.args.y } in
    let split : is_split_on c.args.size c.args.p ≡ false = sym c.is_split_on.ensures ∙ c.if-is_split_on.false in
    let none : c.subsize.result ≡ None = search rules in
    let e : record t { numbers = fc; bc = c.write_partition.new.self.bc } ≡ entered (Partition c.args.x c.args.y c.args.size c.args.p) u =
    ap (λ (bc : BlockContext). record t { numbers = fc; bc = bc }) c.in_ok-write_partition.ensures.rest ∙ sym (parted_one c.args.x c.args.y c.args.size c.args.p u None split (sym c.subsize.ensures ∙ none)) in
    writes_whole g.W.Known _ tt refl (Partition c.args.x c.args.y c.args.size c.args.p) (partition_kind bo c.args.size t) c.args.p _ _ _ _ 13 refl refl c.requires.rules
    c.in_ok-write_partition.ensures.wrote e (omega arith) c.in_ok-write_partition.ensures.moves
