use Rattle.std.proofs.Common.{IsTrue, take, drop, lit<, subst, sym, ap, ◌∙◌}
use Rattle.av1_cdf.specs.Log.{small_saves, large_saves}
use Rattle.av1_cdf.specs.Part.{undone_part}
use Rattle.av1_cdf.specs.Windows.{short_windows, long_windows, all_short, all_long}
use Rattle.av1_cdf.proofs.Undoing.{all_take, short_fit, long_fit, rolled_back}
use Rattle.av1_cdf.proofs.log.CDFContextLog.rollback.Goals as goal

pub undo-requires : goal.undo-requires
undo-requires c = (lit< tt, (c.requires.0, short_fit (small_saves c.args.self.now) c.args.self.now.short))

pub undo-requires-2 : goal.undo-requires-2
undo-requires-2 c = (lit< tt, (c.requires.1, long_fit (large_saves c.args.self.now) c.args.self.now.long))

pub invariant_of-self : goal.invariant_of-self
invariant_of-self c =
    let log = c.args.self.now in
    let to = c.args.checkpoint.now in
    record {
      short = subst (λ xs. IsTrue (all_short xs)) (sym c.undo.ensures.cut) (all_take (λ s. short_windows s.place s.place) to.small (small_saves log) log.short);
      long = subst (λ xs. IsTrue (all_long xs)) (sym c.undo-2.ensures.cut) (all_take (λ s. long_windows s.place s.place) to.large (large_saves log) log.long);
    }

pub returns-clause-kept : goal.returns-clause-kept
returns-clause-kept c d w =
    let log = c.args.self.now in
    let to = c.args.checkpoint.now in
    let small = take to.small (small_saves log) in
    let large = take to.large (large_saves log) in
    ap (λ xs. undone_part 16 (drop d.large xs) (undone_part 4 (drop d.small c.undo.new.self.saves.items) c.undo-2.new.fc)) c.undo-2.ensures.cut
    ∙ ap (λ xs. undone_part 16 (drop d.large large) (undone_part 4 (drop d.small xs) c.undo-2.new.fc)) c.undo.ensures.cut
    ∙ ap (λ x. undone_part 16 (drop d.large large) (undone_part 4 (drop d.small small) x)) (c.undo-2.ensures.undone ∙ ap (undone_part 16 (drop to.large (large_saves log))) c.undo.ensures.undone)
    ∙ rolled_back log c.args.fc.now d to w c.requires
