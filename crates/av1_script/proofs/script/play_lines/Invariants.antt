use Rattle.std.proofs.Common.{length}
use Rattle.av1_script.proofs.script.play_lines.Given as goal

abbrev pub decreases-loop-line : goal.decreases-loop-line
decreases-loop-line g l = length l.left
