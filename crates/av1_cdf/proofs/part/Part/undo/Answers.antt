use Rattle.std.proofs.Common.{◌≡◌, ◌+◌, ◌-◌, drop, take, sym, ap, ◌∙◌, arith, length-take}
use Rattle.av1_cdf.specs.Context.{written_between}
use Rattle.av1_cdf.specs.Part.{undone_part}
use Rattle.av1_cdf.proofs.Undoing.{undo_step, undone_all}
use Rattle.av1_cdf.proofs.part.Part.undo.Goals as goal

pub loop-at-preserved : goal.loop-at-preserved
loop-at-preserved g c =
    let N = g.row.N in
    let saves = c.args.self.now.saves.items in
    let left = c.args.left in
    let before = c.loop-at.fc-inside.numbers.xs in
    let j = c.loop-at.at - 1 in
    let s = c.index.result.now in
    let on : j + 1 ≡ c.loop-at.at = omega arith in
    record {
      least = omega arith;
      most = omega (arith, c.loop-at.invariant.most);
      same = ap (λ p. undone_part N (drop left (take j saves)) (written_between before p (p + N) c.copy_from_slice.new.self)) c.from-place.ensures
          ∙ ap (λ ws. undone_part N (drop left (take j saves)) (written_between before s.place (s.place + N) ws)) c.copy_from_slice.ensures.after
          ∙ sym (undo_step N saves before j s (omega (arith, c.loop-at.invariant.most)) (sym c.index.ensures) left (omega arith))
          ∙ ap (λ n. undone_part N (drop left (take n saves)) before) on
          ∙ c.loop-at.invariant.same;
    }

pub returns-clause-undone : goal.returns-clause-undone
returns-clause-undone g c =
    let N = g.row.N in
    let saves = c.args.self.now.saves.items in
    let left = c.args.left in
    let context = c.loop-at.fc-inside.numbers.xs in
    let at_end : left ≡ c.loop-at.at = omega (arith, c.loop-at.invariant.least) in
    sym (undone_all N (take left saves) context left (omega (arith, length-take left saves)))
    ∙ ap (λ n. undone_part N (drop left (take n saves)) context) at_end
    ∙ c.loop-at.invariant.same
