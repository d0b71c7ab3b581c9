use Rattle.std.proofs.Common.{◌≡◌, Some, refl, sym, subst, ◌∙◌, arith, rules}
use Rattle.av1_blocks.specs.declared.block.Block.{Block}
use Rattle.av1_blocks.specs.declared.block_context.BlockContext.{BlockContext}
use Rattle.av1_blocks.specs.Grid.{IsInside}
use Rattle.av1_step.specs.declared.step.TileStep.TheVariants.{Segment}
use Rattle.av1_step.specs.DeltaSteps.{segment_kind}
use Rattle.av1_step.specs.Kept.{IsKept}
use Rattle.av1_step.specs.State.{tile_of}
use Rattle.av1_step.specs.Step.{entered}
use Rattle.av1_step.specs.Tile.{with_numbers}
use Rattle.av1_step.proofs.Arms.{writes_whole, writes_front}
use Rattle.av1_step.proofs.DeltaSteps.{is_whole, over_entered, segment_allowed}
use Rattle.av1_step.proofs.Effects.{numbers_kept}
use Rattle.av1_step.proofs.FilterArms.{only_numbers}
use Rattle.av1_step.proofs.OfCurrent.{current_there, current_allowed, current_tree, current_entered}
use Rattle.av1_step.proofs.StepLaws.{kept_after}
use Rattle.av1_step.proofs.Switches.{switched}
use Rattle.av1_step.proofs.tile.TileState.write_segment.Goals as goal

pub unwrap-size-requires : goal.unwrap-size-requires
unwrap-size-requires g c = let t = tile_of c.args.self.now in current_there Segment (segment_kind t) t.current c.args.segment c.requires.rules

pub code_segment-requires-clause-inside : goal.code_segment-requires-clause-inside
code_segment-requires-clause-inside g c =
    let current : c.args.self.now.current ≡ Some c.unwrap-size.result = search rules in
    let b = c.args.self.now.kept.current c.unwrap-size.result current in
    record { column = b.column; row = b.row }

pub code_segment-requires-clause-whole : goal.code_segment-requires-clause-whole
code_segment-requires-clause-whole g c = is_whole (tile_of c.args.self.now) c.args.self.now.kept

pub code_segment-requires-clause-last : goal.code_segment-requires-clause-last
code_segment-requires-clause-last g c =
    let t = tile_of c.args.self.now in
    let b = c.unwrap-size.result in
    let current : t.current ≡ Some b = search rules in
    (segment_allowed t b c.args.segment (current_allowed Segment (segment_kind t) t.current b c.args.segment current c.requires.rules)).last

pub code_segment-requires-clause-segment : goal.code_segment-requires-clause-segment
code_segment-requires-clause-segment g c =
    let t = tile_of c.args.self.now in
    let b = c.unwrap-size.result in
    let current : t.current ≡ Some b = search rules in
    (segment_allowed t b c.args.segment (current_allowed Segment (segment_kind t) t.current b c.args.segment current c.requires.rules)).segment

pub set_segmentation_idx-requires : goal.set_segmentation_idx-requires
set_segmentation_idx-requires g c =
    let current : c.args.self.now.current ≡ Some c.unwrap-size.result = search rules in
    let b = c.args.self.now.kept.current c.unwrap-size.result current in
    subst (λ (bc : BlockContext). IsInside bc.blocks c.unwrap-size.result.0.0) (sym c.in_ok-code_segment.ensures.rest) (record { column = b.column; row = b.row })

pub invariant_of-self : goal.invariant_of-self
invariant_of-self g c =
    let t = tile_of c.args.self.now in
    let fc = c.code_segment.new.cw.fc in
    record { cdfs = c.code_segment.ensures.moves.cdfs; kept = subst IsKept (sym (only_numbers t fc c.code_segment.new.cw.bc c.code_segment.ensures.rest)) (numbers_kept fc t c.args.self.now.kept); switches = switched _ _ _ _ _ _ _ _ _ c.code_segment.ensures.moves c.args.self.now.switches }

pub returns-in_err-code_segment : goal.returns-in_err-code_segment
returns-in_err-code_segment g c =
    let t = tile_of c.args.self.now in
    let fc = c.code_segment.new.cw.fc in
    let b = c.unwrap-size.result in
    let i = c.args.segment in
    let current : t.current ≡ Some b = search rules in
    writes_front g.W.Known c.from_residual.result c.in_err-code_segment.field-0.0 (search rules) (Segment i) (segment_kind t b) i _ _ _ _ 13 (current_tree Segment (segment_kind t) t.current b current) refl
    (current_allowed Segment (segment_kind t) t.current b i current c.requires.rules) c.in_err-code_segment.ensures.wrote
    (only_numbers t fc c.code_segment.new.cw.bc c.in_err-code_segment.ensures.rest) (omega arith) c.in_err-code_segment.ensures.moves

pub invariant_of-self-2 : goal.invariant_of-self-2
invariant_of-self-2 g c =
    let t = tile_of c.args.self.now in
    let fc = c.code_segment.new.cw.fc in
    let u = with_numbers fc t in
    let b = c.unwrap-size.result in
    let i = c.args.segment in
    let current : t.current ≡ Some b = search rules in
    let bc = c.code_segment.new.cw.bc in
    let e : record t { numbers = fc; bc = record bc { blocks = c.set_segmentation_idx.new.self } } ≡ entered (Segment i) u =
    over_entered t b (λ (x : Block). record x { segmentation_idx = i }) fc bc c.set_segmentation_idx.new.self c.code_segment.ensures.rest c.set_segmentation_idx.ensures ∙ current_entered Segment (segment_kind u) u.current b current u i in
    record { cdfs = c.code_segment.ensures.moves.cdfs; kept = subst IsKept (sym e) (kept_after (Segment i) fc t c.code_segment.ensures.moves.cdfs c.args.self.now.kept c.requires.rules); switches = switched _ _ _ _ _ _ _ _ _ c.code_segment.ensures.moves c.args.self.now.switches }

pub returns : goal.returns
returns g c =
    let t = tile_of c.args.self.now in
    let fc = c.code_segment.new.cw.fc in
    let u = with_numbers fc t in
    let b = c.unwrap-size.result in
    let i = c.args.segment in
    let current : t.current ≡ Some b = search rules in
    let bc = c.code_segment.new.cw.bc in
    let e : record t { numbers = fc; bc = record bc { blocks = c.set_segmentation_idx.new.self } } ≡ entered (Segment i) u =
    over_entered t b (λ (x : Block). record x { segmentation_idx = i }) fc bc c.set_segmentation_idx.new.self c.in_ok-code_segment.ensures.rest c.set_segmentation_idx.ensures ∙ current_entered Segment (segment_kind u) u.current b current u i in
    writes_whole g.W.Known _ tt refl (Segment i) (segment_kind t b) i _ _ _ _ 13 (current_tree Segment (segment_kind t) t.current b current) refl (current_allowed Segment (segment_kind t) t.current b i current c.requires.rules)
    c.in_ok-code_segment.ensures.wrote e (omega arith) c.in_ok-code_segment.ensures.moves
