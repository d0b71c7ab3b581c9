use Rattle.std.proofs.Common.{◌≡◌, ◌++◌, List, ℤ, sym, ◌∙◌, ap}
use Rattle.av1_geometry.specs.Rules.{first_broken}
use Rattle.av1_geometry.specs.declared.block_offset.BlockOffset.{BlockOffset}
use Rattle.av1_step.specs.CoeffSteps.{coeffs_answering, coeffs_asking}
use Rattle.av1_step.specs.State.{tile_of}
use Rattle.av1_step.proofs.CoeffWriting.{rules_are}
use Rattle.av1_step.proofs.tile.TileState.check_coeffs.Goals as goal

pub returns : goal.returns
returns c =
    let a = c.args in
    let t = tile_of a.self.now in
    let place : BlockOffset = record { x = a.x; y = a.y } in
    let same : c.deref.result.now ≡ a.levels.now = c.deref.ensures.value ∙ c.levels.view_is in
    c.broken_coeffs.ensures
    ∙ ap (λ (l : List ℤ). first_broken (coeffs_asking t t.current a.plane place ++ coeffs_answering t t.current a.plane a.tx_type l)) same
    ∙ sym (ap first_broken (rules_are a.plane a.x a.y a.tx_type a.levels.now t))
