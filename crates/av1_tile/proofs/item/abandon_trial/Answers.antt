use Rattle.std.proofs.Common.{List, Some, ap, subst, ◌∙◌}
use Rattle.av1_step.specs.declared.trial.TrialMark.{TrialMark}
use Rattle.av1_tile.specs.Marks.{AreMarks}
use Rattle.av1_tile.proofs.Items.{back_still, settled_marks, settled_still}
use Rattle.av1_tile.proofs.Marks.{marks_split}
use Rattle.av1_tile.proofs.item.abandon_trial.Goals as goal

pub told_since-eighths-requires : goal.told_since-eighths-requires
told_since-eighths-requires g c =
    let a = subst (λ (l : List TrialMark). AreMarks g.W.Known c.args.w.now c.args.state.now l) c.in-Some.ensures.items c.requires.marks in
    (marks_split g.W.Known c.args.w.now c.args.state.now c.pop.new.self.items c.in-Some.mark a).1.told_by_now

pub go_back-requires-clause-reached : goal.go_back-requires-clause-reached
go_back-requires-clause-reached g c =
    let a = subst (λ (l : List TrialMark). AreMarks g.W.Known c.args.w.now c.args.state.now l) c.in-Some.ensures.items c.requires.marks in
    (marks_split g.W.Known c.args.w.now c.args.state.now c.pop.new.self.items c.in-Some.mark a).1.reached

pub go_back-requires-clause-has_saves : goal.go_back-requires-clause-has_saves
go_back-requires-clause-has_saves g c =
    let a = subst (λ (l : List TrialMark). AreMarks g.W.Known c.args.w.now c.args.state.now l) c.in-Some.ensures.items c.requires.marks in
    (marks_split g.W.Known c.args.w.now c.args.state.now c.pop.new.self.items c.in-Some.mark a).1.saves

pub go_back-requires-clause-of_tile : goal.go_back-requires-clause-of_tile
go_back-requires-clause-of_tile g c =
    let a = subst (λ (l : List TrialMark). AreMarks g.W.Known c.args.w.now c.args.state.now l) c.in-Some.ensures.items c.requires.marks in
    (marks_split g.W.Known c.args.w.now c.args.state.now c.pop.new.self.items c.in-Some.mark a).1.of_tile

pub go_back-requires-clause-kept : goal.go_back-requires-clause-kept
go_back-requires-clause-kept g c =
    let a = subst (λ (l : List TrialMark). AreMarks g.W.Known c.args.w.now c.args.state.now l) c.in-Some.ensures.items c.requires.marks in
    (marks_split g.W.Known c.args.w.now c.args.state.now c.pop.new.self.items c.in-Some.mark a).1.kept

pub go_back-requires-clause-cdfs : goal.go_back-requires-clause-cdfs
go_back-requires-clause-cdfs g c =
    let a = subst (λ (l : List TrialMark). AreMarks g.W.Known c.args.w.now c.args.state.now l) c.in-Some.ensures.items c.requires.marks in
    (marks_split g.W.Known c.args.w.now c.args.state.now c.pop.new.self.items c.in-Some.mark a).1.cdfs

pub returns-clause-ends : goal.returns-clause-ends
returns-clause-ends g c =
    let w = c.args.w.now in
    let later = c.go_back.new.w in
    let old = c.args.state.now in
    let mid = c.go_back.new.self in
    let left = c.pop.new.self.items in
    let a = subst (λ (l : List TrialMark). AreMarks g.W.Known w old l) c.in-Some.ensures.items c.requires.marks in
    let still = back_still g.W.Known w later old mid left c.in-Some.mark a c.go_back.ensures.tile c.go_back.ensures.writer c.go_back.ensures.saves c.go_back.ensures.undone in
    record {
      mark = c.in-Some.mark;
      ends = record {
        marks_are = c.in-Some.ensures.items;
        told = ap Some c.told_since-eighths.ensures;
        still = settled_still g.W.Known w later old mid c.settle.new.state left c.settle.ensures.same still.1;
      };
      tile = c.settle.ensures.tile ∙ c.go_back.ensures.tile;
      writer_went = c.go_back.ensures.writer;
    }

pub returns-clause-marks : goal.returns-clause-marks
returns-clause-marks g c =
    let w = c.args.w.now in
    let later = c.go_back.new.w in
    let old = c.args.state.now in
    let mid = c.go_back.new.self in
    let left = c.pop.new.self.items in
    let a = subst (λ (l : List TrialMark). AreMarks g.W.Known w old l) c.in-Some.ensures.items c.requires.marks in
    let still = back_still g.W.Known w later old mid left c.in-Some.mark a c.go_back.ensures.tile c.go_back.ensures.writer c.go_back.ensures.saves c.go_back.ensures.undone in
    settled_marks g.W.Known later mid c.settle.new.state left c.settle.ensures.same still.0
