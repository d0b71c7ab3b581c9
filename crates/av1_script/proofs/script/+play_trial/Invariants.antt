use Rattle.std.proofs.Common.{length, ◌≤◌}
use Rattle.av1_ec.specs.Checkpoint.{reach, IsBeginning}
use Rattle.av1_ec.specs.declared.storage.WriterCheckpoint.{WriterCheckpoint}
use Rattle.av1_script.proofs.script.+play_trial.Given as goal

abbrev pub decreases-play_trial : goal.decreases-play_trial
decreases-play_trial g l = length l.lines.now

abbrev pub invariant-loop-line : goal.invariant-loop-line
invariant-loop-line g l = record {
  fewer : length l.left ≤ length l.fn.lines;
  stored : reach l.start ≤ length l.w.s.precarry.items;
  reached : (c : WriterCheckpoint) → reach c ≤ reach l.start → IsBeginning l.fn.w.s.precarry.items c → IsBeginning l.w.s.precarry.items c;
}

abbrev pub decreases-loop-line : goal.decreases-loop-line
decreases-loop-line g l = length l.left
