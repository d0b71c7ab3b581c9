use Rattle.std.proofs.Common.{◌≡◌, ◌^◌, ◌<◌, ◌≤◌, length, ap, ◌∙◌, sym, subst, arith}
use Rattle.av1_coef.specs.Contexts.{coded_width, coded_height}
use Rattle.av1_coef.specs.Diagonal.{IsDiagonal}
use Rattle.av1_coef.proofs.AllScans.{ClassesBegun, classes_none, classes_push, classes_done}
use Rattle.av1_coef.proofs.diagonal_order.diagonal_of_size.Goals as goal

pub loop-alloc-init : goal.loop-alloc-init
loop-alloc-init c = subst (ClassesBegun c.args.tx_size) (sym c.in_ok-scans.ensures.items) (classes_none c.args.tx_size)

pub loop-alloc-preserved : goal.loop-alloc-preserved
loop-alloc-preserved c =
    let size = c.args.tx_size in
    let positions = c.in_ok-positions.positions.items in
    let w : c.width.result ≡ coded_width size = c.width.ensures.value ∙ ap (λ n. 2 ^ n) c.av1_get_coded_tx_size-coded.ensures.width in
    let h : c.height.result ≡ coded_height size = c.height.ensures.value ∙ ap (λ n. 2 ^ n) c.av1_get_coded_tx_size-coded.ensures.height in
    let diagonal : IsDiagonal (coded_width size) (coded_height size) positions =
    subst (λ n. IsDiagonal (coded_width size) n positions) h (subst (λ n. IsDiagonal n c.height.result positions) w c.in_ok-positions.ensures) in
    let few : length c.loop-alloc.scans.items < 3 = omega (arith, c.loop-alloc.scans.ok.0, c.len.ensures, c.loop-alloc-test.true) in
    classes_push size c.loop-alloc.scans.items _ positions few c.loop-alloc.invariant diagonal c.in_ok-push.ensures.items

pub returns : goal.returns
returns c =
    let three : 3 ≤ length c.loop-alloc.scans.items = omega (arith, c.loop-alloc.scans.ok.0, c.len.ensures, c.loop-alloc-test.false) in
    classes_done c.args.tx_size c.loop-alloc.scans.items c.loop-alloc.invariant three
