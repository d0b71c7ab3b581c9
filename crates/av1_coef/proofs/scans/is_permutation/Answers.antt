use Rattle.std.proofs.Common.{◌≡◌, ◌-◌, ◌<◌, drop, slice_index, false, ◌||◌, nat_eq, sym, ◌∙◌, ap, arith, ◌∷◌}
use Rattle.std.proofs.Math.Seq.{drop-length}
use Rattle.av1_coef.specs.Scans.{is_in, each_once}
use Rattle.av1_coef.proofs.ScanSteps.{one_back, seen_none, out_of_area, there_twice, once_more, once_refused, none_missing}
use Rattle.av1_coef.proofs.scans.is_permutation.Goals.{then-p-area-via-then-p-area, then-p-area-via-else-p-area+then-seen-p}
use Rattle.av1_coef.proofs.scans.is_permutation.Goals as goal

pub loop-left-init : goal.loop-left-init
loop-left-init c =
    let none = drop-length c.args.scan.now in
    record { most = omega arith; once = ap (each_once c.args.area) none; seen = λ q l. seen_none 1024 q ∙ sym (ap (λ l. is_in l q) none) }

pub loop-left-preserved : goal.loop-left-preserved
loop-left-preserved c =
    let i = c.loop-left.invariant in
    let back = one_back c.args.scan.now c.loop-left.left c.loop-left-test.true i.most in
    let p = c.from-p.result in
    let later = drop c.loop-left.left c.args.scan.now in
    let small : p < 1024 = omega (arith, c.if-p-area.false, c.requires) in
    let not_later : is_in later p ≡ false = sym (i.seen p small) ∙ c.if-seen-p.false in
    let is = ap (λ p. is_in later p) c.from-p.ensures in
    record {
      most = omega (arith, i.most);
      once = ap (each_once c.args.area) back ∙ once_more c.args.area (slice_index c.args.scan.now (c.loop-left.left - 1)) later (omega (arith, c.if-p-area.false, c.from-p.ensures)) (sym is ∙ not_later) i.once;
      seen = λ q l. c.mark.ensures q l ∙ ap (λ b. nat_eq p q || b) (i.seen q l) ∙ ap (λ p. is_in (p ∷ later) q) c.from-p.ensures ∙ sym (ap (λ l. is_in l q) back);
    }

pub returns-then-p-area : goal.returns-then-p-area
returns-then-p-area c =
    let i = c.loop-left.invariant in
    let scan = c.args.scan.now in
    let later = drop c.loop-left.left scan in
    elim c.then-p-area.branch [
      | then-p-area-via-then-p-area w ↦
          once_refused c.args.area scan c.loop-left.left c.loop-left-test.true i.most (λ t. out_of_area c.args.area (slice_index scan (c.loop-left.left - 1)) later (omega (arith, w.if-p-area.true, c.from-p.ensures)) t)
      | then-p-area-via-else-p-area+then-seen-p w ↦
          once_refused c.args.area scan c.loop-left.left c.loop-left-test.true i.most
          (λ t. there_twice c.args.area (slice_index scan (c.loop-left.left - 1)) later (sym (ap (is_in later) c.from-p.ensures) ∙ sym (i.seen c.from-p.result (omega (arith, w.if-p-area.false, c.requires))) ∙ w.if-seen-p.true) t)
    ]

pub returns-then-not-seen-p : goal.returns-then-not-seen-p
returns-then-not-seen-p c =
    let i = c.loop-left.invariant in
    let scan = c.args.scan.now in
    let z : c.loop-left.left ≡ 0 = omega (arith, c.loop-left-test.false) in
    none_missing c.args.area scan c.loop-p.p c.loop-p-test.true (sym (ap (λ k. is_in (drop k scan) c.loop-p.p) z) ∙ sym (i.seen c.loop-p.p (omega (arith, c.loop-p-test.true, c.requires))) ∙ c.if-not-seen-p.true)
