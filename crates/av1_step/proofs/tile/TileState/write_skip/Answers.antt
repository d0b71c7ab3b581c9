use Rattle.std.proofs.Common.{◌≡◌, [], ◌∷◌, Some, refl, sym, ap, subst, ◌∙◌, arith, rules, if◌then◌else◌}
use Rattle.av1_blocks.specs.declared.block.Block.{Block}
use Rattle.av1_blocks.specs.declared.block_context.BlockContext.{BlockContext}
use Rattle.av1_blocks.specs.Edges.{with_skip_reset, planes_coded}
use Rattle.av1_blocks.specs.Grid.{Grid, IsInside, over}
use Rattle.av1_geometry.specs.ChromaSampling.{xdec_of, ydec_of}
use Rattle.av1_step.specs.declared.step.TileStep.TheVariants.{Skip}
use Rattle.av1_step.specs.Effect.{Over, Unfilled, changed_by_all}
use Rattle.av1_step.specs.Kept.{IsKept}
use Rattle.av1_step.specs.State.{tile_of}
use Rattle.av1_step.specs.Step.{entered, skip_kind}
use Rattle.av1_step.specs.Tile.{with_numbers, sampling}
use Rattle.av1_step.proofs.Arms.{writes_whole, writes_front, block_within, skip_tree, skip_entered, skip_rules}
use Rattle.av1_step.proofs.Effects.{numbers_kept}
use Rattle.av1_step.proofs.StepLaws.{kept_after}
use Rattle.av1_step.proofs.Switches.{switched}
use Rattle.av1_step.proofs.tile.TileState.write_skip.Goals as goal

pub write_skip-requires-clause-inside : goal.write_skip-requires-clause-inside
write_skip-requires-clause-inside g c =
    let current : c.args.self.now.current ≡ Some c.unwrap-size.result = search rules in
    let b = c.args.self.now.kept.current c.unwrap-size.result current in
    record { column = b.column; row = b.row }

pub set_skip-requires : goal.set_skip-requires
set_skip-requires g c =
    let current : c.args.self.now.current ≡ Some c.unwrap-size.result = search rules in
    let b = c.args.self.now.kept.current c.unwrap-size.result current in
    subst (λ (bc : BlockContext). IsInside bc.blocks c.unwrap-size.result.0.0) (sym c.in_ok-write_skip.ensures.rest) (record { column = b.column; row = b.row })

pub reset_skip_context-requires-clause-column : goal.reset_skip_context-requires-clause-column
reset_skip_context-requires-clause-column g c =
    let current : c.args.self.now.current ≡ Some c.unwrap-size.result = search rules in
    let b = c.args.self.now.kept.current c.unwrap-size.result current in
    (block_within (tile_of c.args.self.now) c.unwrap-size.result.0.0 c.unwrap-size.result.1 c.args.self.now.kept b).0

pub invariant_of-self : goal.invariant_of-self
invariant_of-self g c =
    let t = tile_of c.args.self.now in
    let fc = c.write_skip.new.self.fc in
    let e : record t { numbers = fc; bc = c.write_skip.new.self.bc } ≡ with_numbers fc t = ap (λ (bc : BlockContext). record t { numbers = fc; bc = bc }) c.write_skip.ensures.rest in
    record { cdfs = c.write_skip.ensures.moves.cdfs; kept = subst IsKept (sym e) (numbers_kept fc t c.args.self.now.kept); switches = switched _ _ _ _ _ _ _ _ _ c.write_skip.ensures.moves c.args.self.now.switches }

pub returns-in_err-write_skip : goal.returns-in_err-write_skip
returns-in_err-write_skip g c =
    let t = tile_of c.args.self.now in
    let fc = c.write_skip.new.self.fc in
    let b = c.unwrap-size.result in
    let current : t.current ≡ Some b = search rules in
    let e : record t { numbers = fc; bc = c.write_skip.new.self.bc } ≡ with_numbers fc t = ap (λ (bc : BlockContext). record t { numbers = fc; bc = bc }) c.in_err-write_skip.ensures.rest in
    writes_front g.W.Known c.from_residual.result c.in_err-write_skip.field-0.0 (search rules) (Skip c.args.skip) (skip_kind t b) c.args.skip _ _ _ _ 13 (skip_tree t b current) refl (skip_rules t c.args.skip b)
    c.in_err-write_skip.ensures.wrote e (omega arith) c.in_err-write_skip.ensures.moves

pub invariant_of-self-then-skip : goal.invariant_of-self-then-skip
invariant_of-self-then-skip g c =
    let t = tile_of c.args.self.now in
    let fc = c.write_skip.new.self.fc in
    let u = with_numbers fc t in
    let b = c.unwrap-size.result in
    let bo = b.0.0 in
    let size = b.1 in
    let cs = sampling t in
    let xdec = xdec_of cs in
    let ydec = ydec_of cs in
    let planes = planes_coded bo size xdec ydec cs in
    let current : t.current ≡ Some b = search rules in
    let f = λ (x : Block). record x { skip = c.args.skip } in
    let grid : record c.write_skip.new.self.bc { blocks = c.set_skip.new.self } ≡ record t.bc { blocks = over bo size f t.bc.blocks } =
    ap (λ (k : Grid). record c.write_skip.new.self.bc { blocks = k }) c.set_skip.ensures ∙ ap (λ (bc : BlockContext). record bc { blocks = over bo size f bc.blocks }) c.write_skip.ensures.rest in
    let edges = c.reset_skip_context.ensures
    ∙ ap (λ n. with_skip_reset (planes_coded bo size n c.ydec.result cs) n c.ydec.result bo size (record c.write_skip.new.self.bc { blocks = c.set_skip.new.self })) c.xdec.ensures
    ∙ ap (λ n. with_skip_reset (planes_coded bo size xdec n cs) xdec n bo size (record c.write_skip.new.self.bc { blocks = c.set_skip.new.self })) c.ydec.ensures
    ∙ ap (λ (bc : BlockContext). with_skip_reset planes xdec ydec bo size bc) grid in
    let e : record t { numbers = fc; bc = c.reset_skip_context.new.self } ≡ entered (Skip c.args.skip) u =
    ap (λ (bc : BlockContext). record t { numbers = fc; bc = bc }) edges
    ∙ sym (skip_entered u c.args.skip b current ∙ ap (λ d. changed_by_all (Over bo size f ∷ (if d then Unfilled bo size ∷ [] else [])) u) c.if-skip.true) in
    record { cdfs = c.write_skip.ensures.moves.cdfs; kept = subst IsKept (sym e) (kept_after (Skip c.args.skip) fc t c.write_skip.ensures.moves.cdfs c.args.self.now.kept c.requires.rules); switches = switched _ _ _ _ _ _ _ _ _ c.write_skip.ensures.moves c.args.self.now.switches }

pub returns-then-skip : goal.returns-then-skip
returns-then-skip g c =
    let t = tile_of c.args.self.now in
    let fc = c.write_skip.new.self.fc in
    let u = with_numbers fc t in
    let b = c.unwrap-size.result in
    let bo = b.0.0 in
    let size = b.1 in
    let cs = sampling t in
    let xdec = xdec_of cs in
    let ydec = ydec_of cs in
    let planes = planes_coded bo size xdec ydec cs in
    let current : t.current ≡ Some b = search rules in
    let f = λ (x : Block). record x { skip = c.args.skip } in
    let grid : record c.write_skip.new.self.bc { blocks = c.set_skip.new.self } ≡ record t.bc { blocks = over bo size f t.bc.blocks } =
    ap (λ (k : Grid). record c.write_skip.new.self.bc { blocks = k }) c.set_skip.ensures ∙ ap (λ (bc : BlockContext). record bc { blocks = over bo size f bc.blocks }) c.in_ok-write_skip.ensures.rest in
    let edges = c.reset_skip_context.ensures
    ∙ ap (λ n. with_skip_reset (planes_coded bo size n c.ydec.result cs) n c.ydec.result bo size (record c.write_skip.new.self.bc { blocks = c.set_skip.new.self })) c.xdec.ensures
    ∙ ap (λ n. with_skip_reset (planes_coded bo size xdec n cs) xdec n bo size (record c.write_skip.new.self.bc { blocks = c.set_skip.new.self })) c.ydec.ensures
    ∙ ap (λ (bc : BlockContext). with_skip_reset planes xdec ydec bo size bc) grid in
    let e : record t { numbers = fc; bc = c.reset_skip_context.new.self } ≡ entered (Skip c.args.skip) u =
    ap (λ (bc : BlockContext). record t { numbers = fc; bc = bc }) edges
    ∙ sym (skip_entered u c.args.skip b current ∙ ap (λ d. changed_by_all (Over bo size f ∷ (if d then Unfilled bo size ∷ [] else [])) u) c.if-skip.true) in
    writes_whole g.W.Known _ tt refl (Skip c.args.skip) (skip_kind t b) c.args.skip _ _ _ _ 13 (skip_tree t b current) refl (skip_rules t c.args.skip b)
    c.in_ok-write_skip.ensures.wrote e (omega arith) c.in_ok-write_skip.ensures.moves

pub invariant_of-self-else-skip : goal.invariant_of-self-else-skip
invariant_of-self-else-skip g c =
    let t = tile_of c.args.self.now in
    let fc = c.write_skip.new.self.fc in
    let u = with_numbers fc t in
    let b = c.unwrap-size.result in
    let bo = b.0.0 in
    let size = b.1 in
    let current : t.current ≡ Some b = search rules in
    let f = λ (x : Block). record x { skip = c.args.skip } in
    let grid : record c.write_skip.new.self.bc { blocks = c.set_skip.new.self } ≡ record t.bc { blocks = over bo size f t.bc.blocks } =
    ap (λ (k : Grid). record c.write_skip.new.self.bc { blocks = k }) c.set_skip.ensures ∙ ap (λ (bc : BlockContext). record bc { blocks = over bo size f bc.blocks }) c.write_skip.ensures.rest in
    let e : record t { numbers = fc; bc = record c.write_skip.new.self.bc { blocks = c.set_skip.new.self } } ≡ entered (Skip c.args.skip) u =
    ap (λ (bc : BlockContext). record t { numbers = fc; bc = bc }) grid
    ∙ sym (skip_entered u c.args.skip b current ∙ ap (λ d. changed_by_all (Over bo size f ∷ (if d then Unfilled bo size ∷ [] else [])) u) c.if-skip.false) in
    record { cdfs = c.write_skip.ensures.moves.cdfs; kept = subst IsKept (sym e) (kept_after (Skip c.args.skip) fc t c.write_skip.ensures.moves.cdfs c.args.self.now.kept c.requires.rules); switches = switched _ _ _ _ _ _ _ _ _ c.write_skip.ensures.moves c.args.self.now.switches }

pub returns-else-skip : goal.returns-else-skip
returns-else-skip g c =
    let t = tile_of c.args.self.now in
    let fc = c.write_skip.new.self.fc in
    let u = with_numbers fc t in
    let b = c.unwrap-size.result in
    let bo = b.0.0 in
    let size = b.1 in
    let current : t.current ≡ Some b = search rules in
    let f = λ (x : Block). record x { skip = c.args.skip } in
    let grid : record c.write_skip.new.self.bc { blocks = c.set_skip.new.self } ≡ record t.bc { blocks = over bo size f t.bc.blocks } =
    ap (λ (k : Grid). record c.write_skip.new.self.bc { blocks = k }) c.set_skip.ensures ∙ ap (λ (bc : BlockContext). record bc { blocks = over bo size f bc.blocks }) c.in_ok-write_skip.ensures.rest in
    let e : record t { numbers = fc; bc = record c.write_skip.new.self.bc { blocks = c.set_skip.new.self } } ≡ entered (Skip c.args.skip) u =
    ap (λ (bc : BlockContext). record t { numbers = fc; bc = bc }) grid
    ∙ sym (skip_entered u c.args.skip b current ∙ ap (λ d. changed_by_all (Over bo size f ∷ (if d then Unfilled bo size ∷ [] else [])) u) c.if-skip.false) in
    writes_whole g.W.Known _ tt refl (Skip c.args.skip) (skip_kind t b) c.args.skip _ _ _ _ 13 (skip_tree t b current) refl (skip_rules t c.args.skip b)
    c.in_ok-write_skip.ensures.wrote e (omega arith) c.in_ok-write_skip.ensures.moves
