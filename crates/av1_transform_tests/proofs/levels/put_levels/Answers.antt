use Rattle.std.proofs.Common.{◌≡◌, ◌+◌, ◌<◌, ◌≤◌, ◌∙◌, ℕ, length, set, pos, w32, to_z, of_z, sym, subst, arith}
use Rattle.std.specs.Prelude.{slice_index_or}
use Rattle.std.proofs.lemmas.List.{length-set}
use Rattle.av1_coef.specs.Contexts.{coded_area}
use Rattle.av1_coef.proofs.Causal.{scan_inside}
use Rattle.av1_syntax.proofs.CoeffKnown.{scan_long}
use Rattle.av1_transform_tests.proofs.Putting.{ArePut, put_none, put_more, levels_put, put_all, level_back}
use Rattle.av1_transform_tests.proofs.levels.put_levels.Goals as goal

pub loop-i-init : goal.loop-i-init
loop-i-init c = record { long = λ i. length c.args.coeffs.now; put = put_none c.args.tx_size c.args.tx_class c.args.scan.now c.requires.order c.args.levels.now c.args.coeffs.now c.requires.zeros }

pub bounds-scan-i : goal.bounds-scan-i
bounds-scan-i c = omega (arith, c.loop-i-test.true, c.requires.levels.few, scan_long c.args.tx_size c.args.tx_class c.args.scan.now c.requires.order)

pub bounds-coeffs-from : goal.bounds-coeffs-from
bounds-coeffs-from c =
    let within : c.loop-i.i < length c.args.scan.now = omega (arith, c.loop-i-test.true, c.requires.levels.few, scan_long c.args.tx_size c.args.tx_class c.args.scan.now c.requires.order) in
    omega (arith, c.from.ensures, scan_inside c.args.tx_size c.args.tx_class c.args.scan.now c.loop-i.i c.requires.order within, c.loop-i.invariant.long, c.requires.room)

pub loop-i-preserved : goal.loop-i-preserved
loop-i-preserved c =
    let i = c.loop-i.i in
    let v = to_z w32 (of_z w32 (slice_index_or c.args.levels.now i (pos 0))) in
    let within : i < length c.args.scan.now = omega (arith, c.loop-i-test.true, c.requires.levels.few, scan_long c.args.tx_size c.args.tx_class c.args.scan.now c.requires.order) in
    let room : coded_area c.args.tx_size ≤ length c.loop-i.coeffs = omega (arith, c.loop-i.invariant.long, c.requires.room) in
    let put = put_more c.args.tx_size c.args.tx_class c.args.scan.now c.requires.order c.args.levels.now c.loop-i.coeffs i within room c.loop-i.invariant.put v (level_back c.args.levels.now i (c.requires.levels.small i c.loop-i-test.true)) in
    record {
      long = length-set c.loop-i.coeffs c.from.result v ∙ c.loop-i.invariant.long;
      put = subst (λ (p : ℕ). ArePut c.args.scan.now c.args.levels.now (i + 1) (set c.loop-i.coeffs p v)) (sym c.from.ensures) put;
    }

pub returns-clause-coded : goal.returns-clause-coded
returns-clause-coded c =
    let end : c.loop-i.i ≡ length c.args.levels.now = omega (arith, c.loop-i-test.false, c.loop-i.auto.i-end) in
    let room : coded_area c.args.tx_size ≤ length c.loop-i.coeffs = omega (arith, c.loop-i.invariant.long, c.requires.room) in
    put_all c.args.tx_size c.args.tx_class c.args.scan.now c.requires.order c.args.levels.now c.loop-i.coeffs room c.requires.levels (subst (λ (n : ℕ). ArePut c.args.scan.now c.args.levels.now n c.loop-i.coeffs) end c.loop-i.invariant.put)

pub returns-clause-levels : goal.returns-clause-levels
returns-clause-levels c =
    let end : c.loop-i.i ≡ length c.args.levels.now = omega (arith, c.loop-i-test.false, c.loop-i.auto.i-end) in
    levels_put c.args.tx_size c.args.tx_class c.args.scan.now c.requires.order c.args.levels.now c.loop-i.coeffs c.requires.levels (subst (λ (n : ℕ). ArePut c.args.scan.now c.args.levels.now n c.loop-i.coeffs) end c.loop-i.invariant.put)
