use Rattle.std.proofs.Common.{◌<◌, Bool, List, sym, ◌∙◌, ap, rules}
use Rattle.std.specs.Prelude.{All}
use Rattle.av1_model.specs.WholeBytes.{to_bytes}
use Rattle.av1_model.proofs.WholeBytes.{to_bytes-bits_of_bytes}
use Rattle.av1_unit.proofs.framing.whole_bytes.Goals as goal

pub returns : goal.returns
returns c =
    let bytes = c.bytes.result.items in
    let below : All (λ b. b < 256) bytes = search rules in
    sym (to_bytes-bits_of_bytes bytes below) ∙ ap (λ (l : List Bool). to_bytes l) c.bytes.ensures
