use Rattle.std.proofs.Common.{◌&&◌, sym, ◌∙◌, ap}
use Rattle.av1_coef.specs.Scans.{of_each, all_scans, is_whole, is_ordered}
use Rattle.av1_coef.proofs.ScanRules.{breaks_4, breaks_5, none_broken}
use Rattle.av1_coef.proofs.scans.check_scans.Goals as goal

pub returns-then-not-of_each : goal.returns-then-not-of_each
returns-then-not-of_each c =
    let scans = c.args.scans.now in
    breaks_4 (of_each scans && all_scans is_whole scans) (all_scans is_ordered scans) (ap (λ b. b && all_scans is_whole scans) (sym c.of_each.ensures ∙ c.if-not-of_each.true))

pub all_ordered-requires : goal.all_ordered-requires
all_ordered-requires c = sym c.of_each.ensures ∙ c.if-not-of_each.false

pub returns-then-not-all_whole : goal.returns-then-not-all_whole
returns-then-not-all_whole c =
    let scans = c.args.scans.now in
    breaks_4 (of_each scans && all_scans is_whole scans) (all_scans is_ordered scans)
    (ap (λ b. b && all_scans is_whole scans) (sym c.of_each.ensures ∙ c.if-not-of_each.false) ∙ sym c.all_whole.ensures ∙ c.if-not-all_whole.true)

pub returns-then-not-all_ordered : goal.returns-then-not-all_ordered
returns-then-not-all_ordered c =
    let scans = c.args.scans.now in
    breaks_5 (of_each scans && all_scans is_whole scans) (all_scans is_ordered scans)
    (ap (λ b. b && all_scans is_whole scans) (sym c.of_each.ensures ∙ c.if-not-of_each.false) ∙ sym c.all_whole.ensures ∙ c.if-not-all_whole.false)
    (sym c.all_ordered.ensures ∙ c.if-not-all_ordered.true)

pub returns-else-not-all_ordered : goal.returns-else-not-all_ordered
returns-else-not-all_ordered c =
    let scans = c.args.scans.now in
    sym (none_broken (of_each scans && all_scans is_whole scans) (all_scans is_ordered scans)
    (ap (λ b. b && all_scans is_whole scans) (sym c.of_each.ensures ∙ c.if-not-of_each.false) ∙ sym c.all_whole.ensures ∙ c.if-not-all_whole.false)
    (sym c.all_ordered.ensures ∙ c.if-not-all_ordered.false))
