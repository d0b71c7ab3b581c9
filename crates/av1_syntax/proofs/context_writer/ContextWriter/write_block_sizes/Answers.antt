use Rattle.std.proofs.Common.{◌≡◌, ◌*◌, ◌^◌, ◌≤◌, ◌∙◌, ℕ, List, length, map, sym, ap, subst, arith}
use Rattle.std.proofs.lemmas.List.{length-map}
use Rattle.av1_coef.specs.Causal.{AreCausal}
use Rattle.av1_coef.specs.Contexts.{coded_area, coded_width, coded_height}
use Rattle.av1_coef.proofs.Causal.{scan_inside}
use Rattle.av1_coef.proofs.CodedSizes.{area_few}
use Rattle.av1_geometry.specs.TxSize.{tx_height_log2}
use Rattle.av1_syntax.specs.Coefficients.{ArePadded, AreContexts}
use Rattle.av1_syntax.proofs.CoeffBlocks.{room_is, are_padded}
use Rattle.av1_syntax.proofs.CoeffKnown.{long}
use Rattle.av1_syntax.proofs.context_writer.ContextWriter.write_block_sizes.Goals as goal

pub get_nz_map_contexts-requires-clause-scan : goal.get_nz_map_contexts-requires-clause-scan
get_nz_map_contexts-requires-clause-scan g c = long c.args.block.tx_size c.args.block.tx_class c.args.scan.now c.args.eob (map g.T.Coefficient.value c.args.coeffs.now) c.requires.coded

pub get_nz_map_contexts-requires-clause-places : goal.get_nz_map_contexts-requires-clause-places
get_nz_map_contexts-requires-clause-places g c i l =
    let n = long c.args.block.tx_size c.args.block.tx_class c.args.scan.now c.args.eob (map g.T.Coefficient.value c.args.coeffs.now) c.requires.coded in
    scan_inside c.args.block.tx_size c.args.block.tx_class c.args.scan.now i c.requires.coded.order (omega (arith, l, n))

pub write_coeff_sizes-requires-clause-padded : goal.write_coeff_sizes-requires-clause-padded
write_coeff_sizes-requires-clause-padded g c =
    let value = g.T.Coefficient.value in
    let size = c.args.block.tx_size in
    let coded = c.av1_get_coded_tx_size-coded.ensures in
    let height : c.height-height.result ≡ coded_height size = c.height-height.ensures.value ∙ ap (λ k. 2 ^ k) coded.height in
    let area : c.area.result ≡ coded_area size = c.area.ensures.value ∙ ap (λ k. 2 ^ k * 2 ^ tx_height_log2 c.av1_get_coded_tx_size-coded.result) coded.width ∙ ap (λ k. coded_width size * 2 ^ k) coded.height in
    let enough : coded_area size ≤ length c.args.coeffs.now = let n = length-map c.args.coeffs.now value in let a = c.requires.coded.area in omega (arith, n, a) in
    let padded = c.txb_init_levels.ensures.padded (coded_width size) (room_is c.args.coeffs.now size c.area.result c.height-height.result area height enough) in
    subst (λ (l : List ℕ). ArePadded size (map value c.args.coeffs.now) l) (sym c.get_nz_map_contexts.ensures.levels)
    (are_padded value c.args.coeffs.now size c.txb_init_levels.new.levels c.area.result c.height-height.result area height (omega arith) padded)

pub write_coeff_sizes-requires-clause-contexts : goal.write_coeff_sizes-requires-clause-contexts
write_coeff_sizes-requires-clause-contexts g c =
    let size = c.args.block.tx_size in
    let causal = subst (λ (l : List ℕ). AreCausal size c.args.block.tx_class l c.args.scan.now c.args.eob c.get_nz_map_contexts.new.contexts) (sym c.get_nz_map_contexts.ensures.levels) c.get_nz_map_contexts.ensures.causal in
    subst (λ n. AreContexts size c.args.block.tx_class c.get_nz_map_contexts.new.levels c.args.scan.now n c.get_nz_map_contexts.new.contexts) (sym c.from.ensures)
    (record { causal = causal; long = let a = area_few size in let f = c.requires.coded.few in omega (arith, a, f) })
