use Rattle.std.proofs.Common.{ap, ◌∙◌}
use Rattle.av1_unit.specs.Framing.{bytes_for}
use Rattle.av1_unit.proofs.TileSizes.{size_bytes_told}
use Rattle.av1_unit.proofs.lengths.size_bytes.Goals as goal

pub returns-clause-value : goal.returns-clause-value
returns-clause-value c =
    c.bytes_for.ensures.value ∙ ap bytes_for c.greatest_size.ensures ∙ size_bytes_told c.args.tiles.now c.saturating_sub-said.result c.saturating_sub-said.ensures
