use Rattle.std.proofs.Common.{◌≡◌, ◌-◌, ◌∷◌, ◌||◌, nat_eq, drop, slice_index, true, false, sym, ◌∙◌, ap, arith}
use Rattle.std.specs.Prelude.{slice_index_or}
use Rattle.std.proofs.Math.Seq.{drop-length}
use Rattle.av1_coef.specs.Contexts.{base_steps}
use Rattle.av1_coef.specs.Scans.{is_in, steps_later, keeps_order}
use Rattle.av1_coef.proofs.ScanSteps.{one_back, seen_none, steps_same, order_more, order_refused}
use Rattle.av1_coef.proofs.scans.keeps_order.Goals as goal

pub loop-left-init : goal.loop-left-init
loop-left-init c =
    let none = drop-length c.args.scan.now in
    record { most = omega arith; kept = ap (keeps_order c.args.w c.args.h (base_steps c.args.tx_class)) none; seen = λ q l. seen_none 1024 q ∙ sym (ap (λ l. is_in l q) none) }

pub loop-left-preserved : goal.loop-left-preserved
loop-left-preserved c =
    let i = c.loop-left.invariant in
    let scan = c.args.scan.now in
    let p = c.from-p.result in
    let later = drop c.loop-left.left scan in
    let steps = base_steps c.args.tx_class in
    let same : steps_later c.args.w c.args.h (λ q. slice_index_or c.loop-left.seen q false) p steps ≡ steps_later c.args.w c.args.h (is_in later) p steps =
    steps_same c.args.w c.args.h (λ q. slice_index_or c.loop-left.seen q false) (is_in later) p steps (λ q l. i.seen q (omega (arith, l, c.requires.area))) in
    let now : steps_later c.args.w c.args.h (is_in later) (slice_index scan (c.loop-left.left - 1)) steps ≡ true =
    sym (ap (λ p. steps_later c.args.w c.args.h (is_in later) p steps) c.from-p.ensures) ∙ sym same ∙ sym c.if-not-steps_seen.ensures in
    let back = one_back scan c.loop-left.left c.loop-left-test.true i.most in
    record {
      most = omega (arith, i.most);
      kept = order_more c.args.w c.args.h steps scan c.loop-left.left c.loop-left-test.true i.most now i.kept;
      seen = λ q l. c.mark.ensures q l ∙ ap (λ b. nat_eq p q || b) (i.seen q l) ∙ ap (λ p. is_in (p ∷ later) q) c.from-p.ensures ∙ sym (ap (λ l. is_in l q) back);
    }

pub returns-then-not-steps_seen : goal.returns-then-not-steps_seen
returns-then-not-steps_seen c =
    let i = c.loop-left.invariant in
    let scan = c.args.scan.now in
    let p = c.from-p.result in
    let later = drop c.loop-left.left scan in
    let steps = base_steps c.args.tx_class in
    let same : steps_later c.args.w c.args.h (λ q. slice_index_or c.loop-left.seen q false) p steps ≡ steps_later c.args.w c.args.h (is_in later) p steps =
    steps_same c.args.w c.args.h (λ q. slice_index_or c.loop-left.seen q false) (is_in later) p steps (λ q l. i.seen q (omega (arith, l, c.requires.area))) in
    order_refused c.args.w c.args.h steps scan c.loop-left.left c.loop-left-test.true i.most
    (sym (ap (λ p. steps_later c.args.w c.args.h (is_in later) p steps) c.from-p.ensures) ∙ sym same ∙ sym c.if-not-steps_seen.ensures)
