use Rattle.std.proofs.Common.{◌≡◌, Bool, true, take, sym, subst, ◌∙◌, arith}
use Rattle.std.specs.List.{list_all}
use Rattle.av1_geometry.specs.declared.tx_size.TxSize.{TxSize}
use Rattle.av1_coef.specs.declared.scans.TheConstants.{TX_SIZES}
use Rattle.av1_coef.specs.Scans.{is_whole, scan_of, classes}
use Rattle.av1_coef.proofs.AllScans.{sizes_more, sizes_refused}
use Rattle.av1_coef.proofs.scans.all_whole.Goals as goal

pub returns-then-not-size_is_whole : goal.returns-then-not-size_is_whole
returns-then-not-size_is_whole c =
    let holds : TxSize → Bool = λ (size : TxSize). list_all (λ class. is_whole size class (scan_of c.args.scans.now size class)) classes in
    sym (sizes_refused holds c.loop-tx_size.tx_size-index _ c.loop-tx_size-test.true (sym c.size_is_whole.ensures ∙ c.if-not-size_is_whole.true))

pub loop-tx_size-preserved : goal.loop-tx_size-preserved
loop-tx_size-preserved c =
    let holds : TxSize → Bool = λ (size : TxSize). list_all (λ class. is_whole size class (scan_of c.args.scans.now size class)) classes in
    sizes_more holds c.loop-tx_size.tx_size-index _ c.loop-tx_size-test.true c.loop-tx_size.invariant (sym c.size_is_whole.ensures ∙ c.if-not-size_is_whole.false)

pub returns : goal.returns
returns c =
    let holds : TxSize → Bool = λ (size : TxSize). list_all (λ class. is_whole size class (scan_of c.args.scans.now size class)) classes in
    let end : c.loop-tx_size.tx_size-index ≡ 19 = omega (arith, c.loop-tx_size-test.false, c.loop-tx_size.auto.tx_size-index-end) in
    sym (subst (λ n. list_all holds (take n TX_SIZES) ≡ true) end c.loop-tx_size.invariant)
