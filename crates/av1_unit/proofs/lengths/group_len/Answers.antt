use Rattle.std.proofs.Common.{◌≡◌, ◌+◌, ◌-◌, ◌*◌, length, nat_lt, sym, ap, ◌∙◌}
use Rattle.av1_unit.specs.Lengths.{count_of}
use Rattle.av1_unit.proofs.TileSizes.{as_count, group_told}
use Rattle.av1_unit.proofs.lengths.group_len.Goals as goal

pub returns-clause-value : goal.returns-clause-value
returns-clause-value c ts has =
    let tiles = c.args.tiles.now in
    let several : c.from.result ≡ count_of (nat_lt 1 (length tiles)) = c.from.ensures ∙ as_count (nat_lt 1 (length tiles)) in
    ap (λ n. c.from.result + n * c.args.bytes + c.bytes_of.result) c.saturating_sub.ensures
    ∙ ap (λ n. n + (length tiles - 1) * c.args.bytes + c.bytes_of.result) several
    ∙ ap (λ n. count_of (nat_lt 1 (length tiles)) + (length tiles - 1) * c.args.bytes + n) c.bytes_of.ensures.value
    ∙ sym (group_told c.args.bytes ts tiles has)
