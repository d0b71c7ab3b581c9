use Rattle.std.proofs.Common.{◌≡◌, ◌+◌, ◌^◌, ◌/◌, ◌%◌, ap, ◌∙◌}
use Rattle.av1_coef.specs.Contexts.{range_magnitude, range_offset}
use Rattle.av1_coef.specs.Padded.{level_in}
use Rattle.av1_coef.proofs.NearPlace.{range_from}
use Rattle.av1_coef.proofs.Causal.{range_causal}
use Rattle.av1_coef.proofs.contexts.get_br_ctx.Goals as goal

pub returns-clause-value : goal.returns-clause-value
returns-clause-value c =
    let h = 2 ^ c.args.bhl in
    let p = c.args.coeff_idx in
    let level = level_in h c.args.levels.now in
    let mag : c.get_br_mag-mag.result ≡ range_magnitude c.args.tx_class level (p / h) (p % h) = c.get_br_mag-mag.ensures ∙ range_from c.args.tx_class h p c.args.levels.now in
    let offset : c.get_br_offset.result ≡ range_offset c.args.tx_class (p / h) (p % h) = c.get_br_offset.ensures.value ∙ ap (range_offset c.args.tx_class (p / h)) c.row_of-row.ensures.value in
    ap (λ m. m + c.get_br_offset.result) mag ∙ ap (λ o. range_magnitude c.args.tx_class level (p / h) (p % h) + o) offset

pub returns-clause-causal : goal.returns-clause-causal
returns-clause-causal c = λ size e. range_causal size c.args.tx_class c.args.levels.now c.args.coeff_idx c.args.bhl _ e (returns-clause-value c)
