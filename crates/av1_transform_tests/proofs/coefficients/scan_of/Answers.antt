use Rattle.std.proofs.Common.{List, ℕ, sym, ap, subst, ◌∙◌}
use Rattle.av1_coef.specs.Scans.{IsScan, scan_of}
use Rattle.av1_geometry.specs.BlockTables.{max_tx_size}
use Rattle.av1_geometry.specs.TxTables.{class_of}
use Rattle.av1_geometry.specs.declared.tx_size.TxSize.{TxSize}
use Rattle.av1_geometry.specs.declared.tx_type.TxClass.{TxClass}
use Rattle.av1_transform_tests.proofs.coefficients.scan_of.Goals as goal

pub returns : goal.returns
returns c =
    let size = max_tx_size c.args.bsize in
    let class = class_of c.args.tx_type in
    let same = c.scan.ensures ∙ ap (λ (s : TxSize). scan_of c.args.scans.now s c.class.result) c.tx_size.ensures.value ∙ ap (λ (k : TxClass). scan_of c.args.scans.now size k) c.class.ensures in
    subst (λ (s : List ℕ). IsScan size class s) (sym same) (c.law_of_scans.ensures.scan c.args.scans.now size class c.requires)

pub scan-requires : goal.scan-requires
scan-requires c = c.law_of_scans.ensures.each c.args.scans.now c.requires
