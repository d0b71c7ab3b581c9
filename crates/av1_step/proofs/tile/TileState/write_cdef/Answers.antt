use Rattle.std.proofs.Common.{◌≡◌, Some, refl, sym, subst, arith, rules}
use Rattle.av1_blocks.specs.declared.block_context.BlockContext.{BlockContext}
use Rattle.av1_blocks.specs.Grid.{IsInside}
use Rattle.av1_step.specs.declared.step.TileStep.TheVariants.{Cdef}
use Rattle.av1_step.specs.FilterSteps.{cdef_kind}
use Rattle.av1_step.specs.Kept.{IsKept}
use Rattle.av1_step.specs.State.{tile_of}
use Rattle.av1_step.proofs.Arms.{writes_whole, writes_front}
use Rattle.av1_step.proofs.Effects.{numbers_kept}
use Rattle.av1_step.proofs.FilterArms.{cdef_entered, only_numbers}
use Rattle.av1_step.proofs.FilterSteps.{cdef_allowed}
use Rattle.av1_step.proofs.OfCurrent.{current_allowed, current_tree}
use Rattle.av1_step.proofs.StepLaws.{kept_after}
use Rattle.av1_step.proofs.Switches.{switched}
use Rattle.av1_step.proofs.tile.TileState.write_cdef.Goals as goal

pub write_cdef-requires-clause-bits : goal.write_cdef-requires-clause-bits
write_cdef-requires-clause-bits g c =
    let t = tile_of c.args.self.now in
    let b = c.unwrap-size.result in
    let current : t.current ≡ Some b = search rules in
    (cdef_allowed t b c.args.index c.args.self.now.kept (current_allowed Cdef (cdef_kind t) t.current b c.args.index current c.requires.rules)).0

pub write_cdef-requires-clause-index : goal.write_cdef-requires-clause-index
write_cdef-requires-clause-index g c =
    let t = tile_of c.args.self.now in
    let b = c.unwrap-size.result in
    let current : t.current ≡ Some b = search rules in
    (cdef_allowed t b c.args.index c.args.self.now.kept (current_allowed Cdef (cdef_kind t) t.current b c.args.index current c.requires.rules)).1

pub set_cdef_index-requires : goal.set_cdef_index-requires
set_cdef_index-requires g c =
    let current : c.args.self.now.current ≡ Some c.unwrap-size.result = search rules in
    let b = c.args.self.now.kept.current c.unwrap-size.result current in
    subst (λ (bc : BlockContext). IsInside bc.blocks c.unwrap-size.result.0.0) (sym c.in_ok-write_cdef.ensures.rest) (record { column = b.column; row = b.row })

pub invariant_of-self : goal.invariant_of-self
invariant_of-self g c =
    let t = tile_of c.args.self.now in
    let fc = c.write_cdef.new.self.fc in
    record { cdfs = c.write_cdef.ensures.moves.cdfs; kept = subst IsKept (sym (only_numbers t fc c.write_cdef.new.self.bc c.write_cdef.ensures.rest)) (numbers_kept fc t c.args.self.now.kept); switches = switched _ _ _ _ _ _ _ _ _ c.write_cdef.ensures.moves c.args.self.now.switches }

pub returns-in_err-write_cdef : goal.returns-in_err-write_cdef
returns-in_err-write_cdef g c =
    let t = tile_of c.args.self.now in
    let fc = c.write_cdef.new.self.fc in
    let b = c.unwrap-size.result in
    let i = c.args.index in
    let current : t.current ≡ Some b = search rules in
    writes_front g.W.Known c.from_residual.result c.in_err-write_cdef.field-0.0 (search rules) (Cdef i) (cdef_kind t b) i _ _ _ _ 39 (current_tree Cdef (cdef_kind t) t.current b current) refl (current_allowed Cdef (cdef_kind t) t.current b i current c.requires.rules)
    c.in_err-write_cdef.ensures.wrote (only_numbers t fc c.write_cdef.new.self.bc c.in_err-write_cdef.ensures.rest) (omega arith) c.in_err-write_cdef.ensures.moves

pub invariant_of-self-2 : goal.invariant_of-self-2
invariant_of-self-2 g c =
    let t = tile_of c.args.self.now in
    let fc = c.write_cdef.new.self.fc in
    let b = c.unwrap-size.result in
    let current : t.current ≡ Some b = search rules in
    let e = cdef_entered t fc b c.args.index c.write_cdef.new.self.bc c.set_cdef_index.new.self current c.write_cdef.ensures.rest c.set_cdef_index.ensures in
    record { cdfs = c.write_cdef.ensures.moves.cdfs; kept = subst IsKept (sym e) (kept_after (Cdef c.args.index) fc t c.write_cdef.ensures.moves.cdfs c.args.self.now.kept c.requires.rules); switches = switched _ _ _ _ _ _ _ _ _ c.write_cdef.ensures.moves c.args.self.now.switches }

pub returns : goal.returns
returns g c =
    let t = tile_of c.args.self.now in
    let fc = c.write_cdef.new.self.fc in
    let b = c.unwrap-size.result in
    let i = c.args.index in
    let current : t.current ≡ Some b = search rules in
    let e = cdef_entered t fc b i c.write_cdef.new.self.bc c.set_cdef_index.new.self current c.in_ok-write_cdef.ensures.rest c.set_cdef_index.ensures in
    writes_whole g.W.Known _ tt refl (Cdef i) (cdef_kind t b) i _ _ _ _ 39 (current_tree Cdef (cdef_kind t) t.current b current) refl (current_allowed Cdef (cdef_kind t) t.current b i current c.requires.rules)
    c.in_ok-write_cdef.ensures.wrote e (omega arith) c.in_ok-write_cdef.ensures.moves
