use Rattle.std.proofs.Common.{List, Some, refl, ap, subst}
use Rattle.av1_step.specs.declared.trial.TrialMark.{TrialMark}
use Rattle.av1_tile.specs.Marks.{AreMarks}
use Rattle.av1_tile.proofs.Items.{settled_marks, settled_still}
use Rattle.av1_tile.proofs.Marks.{all_still, marks_split}
use Rattle.av1_tile.proofs.item.keep_trial.Goals as goal

pub told_since-eighths-requires : goal.told_since-eighths-requires
told_since-eighths-requires g c =
    let a = subst (λ (l : List TrialMark). AreMarks g.W.Known c.args.w.now c.args.state.now l) c.in-Some.ensures.items c.requires.marks in
    (marks_split g.W.Known c.args.w.now c.args.state.now c.pop.new.self.items c.in-Some.mark a).1.told_by_now

pub returns-clause-ends : goal.returns-clause-ends
returns-clause-ends g c = record {
  mark = c.in-Some.mark;
  ends = record {
    marks_are = c.in-Some.ensures.items;
    told = ap Some c.told_since-eighths.ensures;
    still = settled_still g.W.Known c.args.w.now c.args.w.now c.args.state.now c.args.state.now c.settle.new.state c.pop.new.self.items c.settle.ensures.same (all_still g.W.Known c.args.w.now c.args.state.now c.pop.new.self.items);
  };
  tile = c.settle.ensures.tile;
  writer_is = refl;
}

pub returns-clause-marks : goal.returns-clause-marks
returns-clause-marks g c =
    let a = subst (λ (l : List TrialMark). AreMarks g.W.Known c.args.w.now c.args.state.now l) c.in-Some.ensures.items c.requires.marks in
    settled_marks g.W.Known c.args.w.now c.args.state.now c.settle.new.state c.pop.new.self.items c.settle.ensures.same (marks_split g.W.Known c.args.w.now c.args.state.now c.pop.new.self.items c.in-Some.mark a).0
