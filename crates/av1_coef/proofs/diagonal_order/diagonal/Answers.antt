use Rattle.std.proofs.Common.{◌≡◌, ℕ, List, Vec, Global, map, subst, arith}
use Rattle.av1_coef.specs.declared.scans.Scan.{Scan}
use Rattle.av1_coef.proofs.AllScans.{SizesBegun, sizes_none, sizes_push, are_of_each, are_diagonal, are_passing, are_scans}
use Rattle.av1_coef.proofs.diagonal_order.diagonal.Goals as goal

pub loop-tx_size-init : goal.loop-tx_size-init
loop-tx_size-init c = sizes_none (Vec Scan Global) (λ v. v.items) c.in_ok-scans.scans.items c.in_ok-scans.ensures.items

pub loop-tx_size-preserved : goal.loop-tx_size-preserved
loop-tx_size-preserved c =
    sizes_push (Vec Scan Global) (λ v. v.items) c.loop-tx_size.scans.items _ c.in_ok-diagonal_of_size.field-0 c.loop-tx_size.tx_size-index _ c.in_ok-push.ensures.items
    c.loop-tx_size-test.true c.loop-tx_size.invariant c.in_ok-diagonal_of_size.ensures

pub returns : goal.returns
returns c =
    let end : c.loop-tx_size.tx_size-index ≡ 19 = omega (arith, c.loop-tx_size-test.false, c.loop-tx_size.auto.tx_size-index-end) in
    let scans : List (List (List ℕ)) = map (λ (v : Vec Scan Global). v.items) c.loop-tx_size.scans.items in
    let all : SizesBegun scans 19 = subst (SizesBegun scans) end c.loop-tx_size.invariant in
    record { each = are_of_each scans all.long all.each; value = are_scans scans all.long all.each; diagonal = are_diagonal scans all.long all.each; passes = are_passing scans all.long all.each }
