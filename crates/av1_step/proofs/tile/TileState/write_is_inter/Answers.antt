use Rattle.std.proofs.Common.{◌≡◌, Some, refl, sym, subst, arith, rules}
use Rattle.av1_blocks.specs.declared.block_context.BlockContext.{BlockContext}
use Rattle.av1_blocks.specs.Grid.{IsInside}
use Rattle.av1_step.specs.declared.step.TileStep.TheVariants.{IsInter}
use Rattle.av1_step.specs.InterSteps.{is_inter_kind}
use Rattle.av1_step.specs.Kept.{IsKept}
use Rattle.av1_step.specs.State.{tile_of}
use Rattle.av1_step.proofs.Arms.{writes_whole, writes_front}
use Rattle.av1_step.proofs.Effects.{numbers_kept}
use Rattle.av1_step.proofs.FilterArms.{only_numbers}
use Rattle.av1_step.proofs.InterArms.{is_inter_entered}
use Rattle.av1_step.proofs.OfCurrent.{current_there, current_allowed, current_tree}
use Rattle.av1_step.proofs.StepLaws.{kept_after}
use Rattle.av1_step.proofs.Switches.{switched}
use Rattle.av1_step.proofs.tile.TileState.write_is_inter.Goals as goal

pub unwrap-size-requires : goal.unwrap-size-requires
unwrap-size-requires g c = let t = tile_of c.args.self.now in current_there IsInter (is_inter_kind t) t.current c.args.is_inter c.requires.rules

pub write_is_inter-requires-clause-inside : goal.write_is_inter-requires-clause-inside
write_is_inter-requires-clause-inside g c =
    let current : c.args.self.now.current ≡ Some c.unwrap-size.result = search rules in
    let b = c.args.self.now.kept.current c.unwrap-size.result current in
    record { column = b.column; row = b.row }

pub enter_refs-requires : goal.enter_refs-requires
enter_refs-requires g c =
    let current : c.args.self.now.current ≡ Some c.unwrap-size.result = search rules in
    let b = c.args.self.now.kept.current c.unwrap-size.result current in
    subst (λ (bc : BlockContext). IsInside bc.blocks c.unwrap-size.result.0.0) (sym c.in_ok-write_is_inter.ensures.rest) (record { column = b.column; row = b.row })

pub invariant_of-self : goal.invariant_of-self
invariant_of-self g c =
    let t = tile_of c.args.self.now in
    let fc = c.write_is_inter.new.self.fc in
    record { cdfs = c.write_is_inter.ensures.moves.cdfs; kept = subst IsKept (sym (only_numbers t fc c.write_is_inter.new.self.bc c.write_is_inter.ensures.rest)) (numbers_kept fc t c.args.self.now.kept); switches = switched _ _ _ _ _ _ _ _ _ c.write_is_inter.ensures.moves c.args.self.now.switches }

pub returns-in_err-write_is_inter : goal.returns-in_err-write_is_inter
returns-in_err-write_is_inter g c =
    let t = tile_of c.args.self.now in
    let fc = c.write_is_inter.new.self.fc in
    let b = c.unwrap-size.result in
    let on = c.args.is_inter in
    let current : t.current ≡ Some b = search rules in
    writes_front g.W.Known c.from_residual.result c.in_err-write_is_inter.field-0.0 (search rules) (IsInter on) (is_inter_kind t b) on _ _ _ _ 13 (current_tree IsInter (is_inter_kind t) t.current b current) refl
    (current_allowed IsInter (is_inter_kind t) t.current b on current c.requires.rules) c.in_err-write_is_inter.ensures.wrote
    (only_numbers t fc c.write_is_inter.new.self.bc c.in_err-write_is_inter.ensures.rest) (omega arith) c.in_err-write_is_inter.ensures.moves

pub invariant_of-self-2 : goal.invariant_of-self-2
invariant_of-self-2 g c =
    let t = tile_of c.args.self.now in
    let fc = c.write_is_inter.new.self.fc in
    let b = c.unwrap-size.result in
    let on = c.args.is_inter in
    let current : t.current ≡ Some b = search rules in
    let e = is_inter_entered t fc b on c.first_refs.result c.first_mode.result c.write_is_inter.new.self.bc c.enter_refs.new.blocks current c.write_is_inter.ensures.rest c.first_refs.ensures c.first_mode.ensures c.enter_refs.ensures in
    record { cdfs = c.write_is_inter.ensures.moves.cdfs; kept = subst IsKept (sym e) (kept_after (IsInter on) fc t c.write_is_inter.ensures.moves.cdfs c.args.self.now.kept c.requires.rules); switches = switched _ _ _ _ _ _ _ _ _ c.write_is_inter.ensures.moves c.args.self.now.switches }

pub returns : goal.returns
returns g c =
    let t = tile_of c.args.self.now in
    let fc = c.write_is_inter.new.self.fc in
    let b = c.unwrap-size.result in
    let on = c.args.is_inter in
    let current : t.current ≡ Some b = search rules in
    let e = is_inter_entered t fc b on c.first_refs.result c.first_mode.result c.write_is_inter.new.self.bc c.enter_refs.new.blocks current c.in_ok-write_is_inter.ensures.rest c.first_refs.ensures c.first_mode.ensures c.enter_refs.ensures in
    writes_whole g.W.Known _ tt refl (IsInter on) (is_inter_kind t b) on _ _ _ _ 13 (current_tree IsInter (is_inter_kind t) t.current b current) refl (current_allowed IsInter (is_inter_kind t) t.current b on current c.requires.rules)
    c.in_ok-write_is_inter.ensures.wrote e (omega arith) c.in_ok-write_is_inter.ensures.moves
