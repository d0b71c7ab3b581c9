use Rattle.std.proofs.Common.{◌≡◌, Some, refl, sym, subst, ◌∙◌, arith, rules}
use Rattle.av1_blocks.specs.declared.block.Block.{Block}
use Rattle.av1_blocks.specs.declared.block_context.BlockContext.{BlockContext}
use Rattle.av1_blocks.specs.Grid.{IsInside}
use Rattle.av1_geometry.specs.ChromaSampling.{planes_of}
use Rattle.av1_syntax.specs.Deltas.{delta_count, AreDeltas}
use Rattle.av1_step.specs.declared.step.TileStep.TheVariants.{DeltaLf}
use Rattle.av1_step.specs.DeltaSteps.{delta_lf_kind}
use Rattle.av1_step.specs.Kept.{IsKept}
use Rattle.av1_step.specs.State.{tile_of}
use Rattle.av1_step.specs.Step.{entered}
use Rattle.av1_step.specs.Tile.{sampling, with_numbers}
use Rattle.av1_step.proofs.Arms.{writes_whole, writes_front}
use Rattle.av1_step.proofs.DeltaSteps.{is_whole, over_entered, delta_lf_allowed, planes_are, deltas_front, deltas_whole}
use Rattle.av1_step.proofs.Effects.{numbers_kept}
use Rattle.av1_step.proofs.FilterArms.{only_numbers}
use Rattle.av1_step.proofs.OfCurrent.{current_there, current_allowed, current_tree, current_entered}
use Rattle.av1_step.proofs.StepLaws.{kept_after}
use Rattle.av1_step.proofs.Switches.{switched}
use Rattle.av1_step.proofs.tile.TileState.write_delta_lf.Goals as goal

pub unwrap-size-requires : goal.unwrap-size-requires
unwrap-size-requires g c = let t = tile_of c.args.self.now in current_there DeltaLf (delta_lf_kind t) t.current c.args.deltas c.requires.rules

pub code_deltas-requires-clause-inside : goal.code_deltas-requires-clause-inside
code_deltas-requires-clause-inside g c =
    let current : c.args.self.now.current ≡ Some c.unwrap-size.result = search rules in
    let b = c.args.self.now.kept.current c.unwrap-size.result current in
    record { column = b.column; row = b.row }

pub code_deltas-requires-clause-whole : goal.code_deltas-requires-clause-whole
code_deltas-requires-clause-whole g c = is_whole (tile_of c.args.self.now) c.args.self.now.kept

pub code_deltas-requires-clause-planes_from : goal.code_deltas-requires-clause-planes_from
code_deltas-requires-clause-planes_from g c = (planes_are (sampling (tile_of c.args.self.now)) c.planes-planes.result c.planes-planes.ensures).0

pub code_deltas-requires-clause-planes_to : goal.code_deltas-requires-clause-planes_to
code_deltas-requires-clause-planes_to g c = (planes_are (sampling (tile_of c.args.self.now)) c.planes-planes.result c.planes-planes.ensures).1

pub code_deltas-requires-clause-deltas : goal.code_deltas-requires-clause-deltas
code_deltas-requires-clause-deltas g c =
    let t = tile_of c.args.self.now in
    let b = c.unwrap-size.result in
    let current : t.current ≡ Some b = search rules in
    subst (λ n. AreDeltas 63 (delta_count t.given.fs.deblock.block_delta_multi n) c.args.deltas) (sym c.planes-planes.ensures)
    (delta_lf_allowed t b c.args.deltas (current_allowed DeltaLf (delta_lf_kind t) t.current b c.args.deltas current c.requires.rules))

pub set_deblock_deltas-requires : goal.set_deblock_deltas-requires
set_deblock_deltas-requires g c =
    let current : c.args.self.now.current ≡ Some c.unwrap-size.result = search rules in
    let b = c.args.self.now.kept.current c.unwrap-size.result current in
    subst (λ (bc : BlockContext). IsInside bc.blocks c.unwrap-size.result.0.0) (sym c.in_ok-code_deltas.ensures.rest) (record { column = b.column; row = b.row })

pub invariant_of-self : goal.invariant_of-self
invariant_of-self g c =
    let t = tile_of c.args.self.now in
    let fc = c.code_deltas.new.cw.fc in
    record { cdfs = c.code_deltas.ensures.moves.cdfs; kept = subst IsKept (sym (only_numbers t fc c.code_deltas.new.cw.bc c.code_deltas.ensures.rest)) (numbers_kept fc t c.args.self.now.kept); switches = switched _ _ _ _ _ _ _ _ _ c.code_deltas.ensures.moves c.args.self.now.switches }

pub returns-in_err-code_deltas : goal.returns-in_err-code_deltas
returns-in_err-code_deltas g c =
    let t = tile_of c.args.self.now in
    let fc = c.code_deltas.new.cw.fc in
    let b = c.unwrap-size.result in
    let ds = c.args.deltas in
    let current : t.current ≡ Some b = search rules in
    writes_front g.W.Known c.from_residual.result c.in_err-code_deltas.field-0.0 (search rules) (DeltaLf ds) (delta_lf_kind t b) ds _ _ _ _ 520 (current_tree DeltaLf (delta_lf_kind t) t.current b current) refl
    (current_allowed DeltaLf (delta_lf_kind t) t.current b ds current c.requires.rules) (deltas_front t.given.fs.deblock.block_delta_multi c.planes-planes.result (planes_of (sampling t)) ds _ _ c.planes-planes.ensures c.in_err-code_deltas.ensures.wrote)
    (only_numbers t fc c.code_deltas.new.cw.bc c.in_err-code_deltas.ensures.rest) (omega arith) c.in_err-code_deltas.ensures.moves

pub invariant_of-self-2 : goal.invariant_of-self-2
invariant_of-self-2 g c =
    let t = tile_of c.args.self.now in
    let fc = c.code_deltas.new.cw.fc in
    let u = with_numbers fc t in
    let b = c.unwrap-size.result in
    let ds = c.args.deltas in
    let current : t.current ≡ Some b = search rules in
    let bc = c.code_deltas.new.cw.bc in
    let e : record t { numbers = fc; bc = record bc { blocks = c.set_deblock_deltas.new.self } } ≡ entered (DeltaLf ds) u =
    over_entered t b (λ (x : Block). record x { deblock_deltas = ds }) fc bc c.set_deblock_deltas.new.self c.code_deltas.ensures.rest c.set_deblock_deltas.ensures ∙ current_entered DeltaLf (delta_lf_kind u) u.current b current u ds in
    record { cdfs = c.code_deltas.ensures.moves.cdfs; kept = subst IsKept (sym e) (kept_after (DeltaLf ds) fc t c.code_deltas.ensures.moves.cdfs c.args.self.now.kept c.requires.rules); switches = switched _ _ _ _ _ _ _ _ _ c.code_deltas.ensures.moves c.args.self.now.switches }

pub returns : goal.returns
returns g c =
    let t = tile_of c.args.self.now in
    let fc = c.code_deltas.new.cw.fc in
    let u = with_numbers fc t in
    let b = c.unwrap-size.result in
    let ds = c.args.deltas in
    let current : t.current ≡ Some b = search rules in
    let bc = c.code_deltas.new.cw.bc in
    let e : record t { numbers = fc; bc = record bc { blocks = c.set_deblock_deltas.new.self } } ≡ entered (DeltaLf ds) u =
    over_entered t b (λ (x : Block). record x { deblock_deltas = ds }) fc bc c.set_deblock_deltas.new.self c.in_ok-code_deltas.ensures.rest c.set_deblock_deltas.ensures ∙ current_entered DeltaLf (delta_lf_kind u) u.current b current u ds in
    writes_whole g.W.Known _ tt refl (DeltaLf ds) (delta_lf_kind t b) ds _ _ _ _ 520 (current_tree DeltaLf (delta_lf_kind t) t.current b current) refl (current_allowed DeltaLf (delta_lf_kind t) t.current b ds current c.requires.rules)
    (deltas_whole t.given.fs.deblock.block_delta_multi c.planes-planes.result (planes_of (sampling t)) ds _ _ c.planes-planes.ensures c.in_ok-code_deltas.ensures.wrote) e (omega arith) c.in_ok-code_deltas.ensures.moves
