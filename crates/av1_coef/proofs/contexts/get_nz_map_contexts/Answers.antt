use Rattle.std.proofs.Common.{◌≡◌, ℕ, ◌+◌, ◌*◌, ◌^◌, ◌/◌, ◌%◌, ◌<◌, ap, ◌∙◌, length, nat_eq, pos, if◌then◌else◌, map, drop, ◌++◌, ℤ, subst, arith}
use Rattle.std.specs.List.{range_with_len}
use Rattle.av1_coef.specs.Contexts.{scan_context, base_context, last_context, coded_width, coded_height, coded_height_log2, coded_area}
use Rattle.av1_geometry.specs.TxSize.{tx_height_log2}
use Rattle.av1_coef.specs.Padded.{level_in}
use Rattle.av1_coef.proofs.Causal.{scan_causal}
use Rattle.av1_coef.proofs.Filling.{filled_more}
use Rattle.av1_coef.proofs.Offsets.{context_byte}
use Rattle.av1_coef.proofs.contexts.get_nz_map_contexts.Goals as goal

pub loop-i-preserved : goal.loop-i-preserved
loop-i-preserved c =
    let size = c.args.tx_size in
    let class = c.args.tx_class in
    let levels = c.args.levels.now in
    let scan = c.args.scan.now in
    let i = c.loop-i.i in
    let context : ℕ → ℕ → ℕ → ℕ → ℕ = λ (area : ℕ) (n : ℕ) (b : ℕ) (p : ℕ).
    if nat_eq (i + 1) n then last_context area i else base_context class size (level_in (2 ^ b) levels) (p / 2 ^ b) (p % 2 ^ b) in
    let area : c.area-area.result ≡ coded_area size = c.area-area.ensures.value ∙ ap (λ w. 2 ^ w * 2 ^ tx_height_log2 c.av1_get_coded_tx_size.result) c.av1_get_coded_tx_size.ensures.width
    ∙ ap (λ h. coded_width size * 2 ^ h) c.av1_get_coded_tx_size.ensures.height in
    let is : c.get_nz_map_ctx.result ≡ scan_context class size (level_in (coded_height size) levels) scan c.args.eob i =
    c.get_nz_map_ctx.ensures.value
    ∙ ap (λ a. context a c.from-n.result c.get_txb_bhl-bhl.result c.from-coeff_idx.result) area
    ∙ ap (λ n. context (coded_area size) n c.get_txb_bhl-bhl.result c.from-coeff_idx.result) c.from-n.ensures
    ∙ ap (λ b. context (coded_area size) c.args.eob b c.from-coeff_idx.result) c.get_txb_bhl-bhl.ensures.value
    ∙ ap (λ p. context (coded_area size) c.args.eob (coded_height_log2 size) p) c.from-coeff_idx.ensures in
    let room : i < length c.args.contexts.now = omega arith in
    filled_more (λ i. pos (scan_context class size (level_in (coded_height size) levels) scan c.args.eob i)) c.args.contexts.now c.loop-i.contexts i _ room c.loop-i.invariant
    (context_byte c.get_nz_map_ctx.result c.get_nz_map_ctx.ensures.most ∙ ap pos is)

pub returns-clause-contexts : goal.returns-clause-contexts
returns-clause-contexts c =
    let size = c.args.tx_size in
    let context : ℕ → ℤ = λ (i : ℕ). pos (scan_context c.args.tx_class size (level_in (coded_height size) c.args.levels.now) c.args.scan.now c.args.eob i) in
    let end : c.loop-i.i ≡ c.args.eob = omega (arith, c.from-n.ensures, c.loop-i-test.false, c.loop-i.auto.i-end) in
    subst (λ n. c.loop-i.contexts ≡ map context (range_with_len 0 n) ++ drop n c.args.contexts.now) end c.loop-i.invariant

pub returns-clause-causal : goal.returns-clause-causal
returns-clause-causal c =
    scan_causal c.args.tx_size c.args.tx_class c.args.levels.now c.args.scan.now c.args.eob c.loop-i.contexts c.args.contexts.now c.requires.scan c.requires.places (returns-clause-contexts c)
