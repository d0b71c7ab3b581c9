use Rattle.std.proofs.Common.{◌≡◌, ◌+◌, ◌^◌, ◌/◌, ◌%◌, min, false, ap, ◌∙◌, sym}
use Rattle.av1_coef.specs.Contexts.{base_magnitude, place_offset, is_corner}
use Rattle.av1_coef.specs.Padded.{level_in}
use Rattle.av1_coef.proofs.NearPlace.{base_from}
use Rattle.av1_coef.proofs.contexts.get_nz_map_ctx.Goals as goal

pub returns-clause-value : goal.returns-clause-value
returns-clause-value c =
    let h = 2 ^ c.args.bhl in
    let p = c.args.coeff_idx in
    let level = level_in h c.args.levels.now in
    let mag : c.min.result ≡ base_magnitude c.args.tx_class level (p / h) (p % h) =
    c.min.ensures ∙ ap (λ n. min ((n + 1) / 2) 4) (c.get_nz_mag-mag.ensures.value ∙ base_from c.args.tx_class h p c.args.levels.now) in
    let offset : c.get_nz_offset.result ≡ place_offset c.args.tx_class c.args.tx_size (p / h) (p % h) =
    c.get_nz_offset.ensures.value ∙ ap (place_offset c.args.tx_class c.args.tx_size (p / h)) c.row_of-row.ensures.value in
    let corner : is_corner c.args.tx_class (p / h) (p % h) ≡ false =
    sym (c.if-is_corner.ensures ∙ ap (is_corner c.args.tx_class (p / h)) c.row_of-row.ensures.value) in
    rw (c.if-is_eob.false, corner)
    (ap (λ m. m + c.get_nz_offset.result) mag ∙ ap (λ o. base_magnitude c.args.tx_class level (p / h) (p % h) + o) offset)
