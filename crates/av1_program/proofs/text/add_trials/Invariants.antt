use Rattle.std.proofs.Common.{◌≡◌, ◌++◌, take, string_bytes}
use Rattle.av1_program.specs.Text.{trial_lines}
use Rattle.av1_program.proofs.text.add_trials.Given as goal

abbrev pub invariant-loop-trial : goal.invariant-loop-trial
invariant-loop-trial l = string_bytes l.text ≡ string_bytes l.initial.text ++ trial_lines (take l.trial-index l.trials)
