use Rattle.std.proofs.Common.{◌≡◌, List, Some, refl, sym, ap, subst, arith, rules}
use Rattle.av1_step.specs.declared.step.TileStep.TheVariants.{FilterIntra}
use Rattle.av1_step.specs.Effect.{Effect, changed_by_all}
use Rattle.av1_step.specs.FilterSteps.{filter_intra_kind}
use Rattle.av1_step.specs.Kept.{IsKept}
use Rattle.av1_step.specs.State.{tile_of}
use Rattle.av1_step.specs.Tile.{with_numbers}
use Rattle.av1_step.proofs.Effects.{numbers_kept}
use Rattle.av1_step.proofs.FilterArms.{only_numbers, writes_same}
use Rattle.av1_step.proofs.OfCurrent.{current_allowed, current_effects, current_tree}
use Rattle.av1_step.proofs.Switches.{switched}
use Rattle.av1_step.proofs.tile.TileState.write_filter_intra.Goals as goal

pub invariant_of-self : goal.invariant_of-self
invariant_of-self g c =
    let t = tile_of c.args.self.now in
    let fc = c.write_use_filter_intra.new.self.fc in
    record { cdfs = c.write_use_filter_intra.ensures.moves.cdfs; kept = subst IsKept (sym (only_numbers t fc c.write_use_filter_intra.new.self.bc c.write_use_filter_intra.ensures.rest)) (numbers_kept fc t c.args.self.now.kept); switches = switched _ _ _ _ _ _ _ _ _ c.write_use_filter_intra.ensures.moves c.args.self.now.switches }

pub returns : goal.returns
returns g c =
    let t = tile_of c.args.self.now in
    let fc = c.write_use_filter_intra.new.self.fc in
    let u = with_numbers fc t in
    let b = c.unwrap-size.result in
    let on = c.args.on in
    let current : t.current ≡ Some b = search rules in
    writes_same g.W.Known _ (FilterIntra on) (filter_intra_kind t b) on _ _ _ _ 13 (current_tree FilterIntra (filter_intra_kind t) t.current b current) refl
    (current_allowed FilterIntra (filter_intra_kind t) t.current b on current c.requires.rules) c.write_use_filter_intra.ensures.wrote (only_numbers t fc c.write_use_filter_intra.new.self.bc c.write_use_filter_intra.ensures.rest)
    (ap (λ (es : List Effect). changed_by_all es u) (current_effects FilterIntra (filter_intra_kind u) u.current b on current)) (omega arith) c.write_use_filter_intra.ensures.moves
