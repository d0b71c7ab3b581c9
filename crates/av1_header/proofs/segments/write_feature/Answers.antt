use Rattle.std.proofs.Common.{ap, refl, rules, ◌+◌, Bool, not}
use Rattle.std.specs.Prelude.{◌&&◌}
use Rattle.av1_header.specs.Rows.{f}
use Rattle.av1_header.proofs.RowLaws.{flag_then, signed_then, number_then, wrote_done}
use Rattle.av1_header.specs.Segments.{feature}
use Rattle.av1_header.proofs.segments.write_feature.Goals as goal

pub returns : goal.returns
unfolding feature
returns c =
    let sign = c.is_signed-signed.ensures in
    let bits = c.bits_of_values-count.ensures.value in
    flag_then _ _ _ _ _ _ _ _ _ _ _ _ _ _ _ _ _ c.flag_or-coded.ensures refl refl refl
    (signed_then _ _ _ _ _ _ _ _ _ _ _ _ _ _ _ _ _ c.signed_if.ensures (ap (λ (b : Bool). c.flag_or-coded.result && b) sign) (ap (λ n. n + 1) bits) (search rules)
    (number_then _ _ _ _ _ _ _ _ _ _ _ _ _ _ _ _ _ _ _ c.number_or.ensures (ap (λ (b : Bool). c.flag_or-coded.result && not b) sign) refl (ap f bits) (search (rules, c.magnitude.ensures))
    (wrote_done _ _ _ _ _ refl)))
