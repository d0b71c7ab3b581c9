use Rattle.std.proofs.Common.{◌≡◌, ◌+◌, ◌∙◌, List, ℕ, sym, ap, length, rules}
use Rattle.av1_step.specs.Given.{given_of}
use Rattle.av1_unit.specs.Framing.{frame_header}
use Rattle.av1_unit.proofs.TileSizes.{frame_told}
use Rattle.av1_unit.proofs.lengths.frame_len.Goals as goal

pub returns : goal.returns
returns c ts has =
    let g = given_of c.args.unit.now in
    let width = c.size_bytes-bytes.result in
    let len : c.len.result ≡ length c.in_ok-header.header.items = search rules in
    let header : c.len.result ≡ length (frame_header g width) = len ∙ ap (λ (l : List ℕ). length l) c.in_ok-header.ensures.is in
    ap (λ n. n + c.group_len.result) header ∙ ap (λ n. length (frame_header g width) + n) (c.group_len.ensures.value ts has) ∙ sym (frame_told g ts c.args.tiles.now width c.size_bytes-bytes.ensures.value has)
