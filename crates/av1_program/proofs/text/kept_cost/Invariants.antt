use Rattle.std.proofs.Common.{◌≡◌, ◌≤◌, ◌*◌, ◌^◌, take}
use Rattle.av1_program.specs.Text.{kept_cost}
use Rattle.av1_program.proofs.text.kept_cost.Given as goal

abbrev pub invariant-loop-trial : goal.invariant-loop-trial
invariant-loop-trial l = (l.sum ≡ kept_cost (take l.trial-index l.trials)) × (l.sum ≤ l.trial-index * 2 ^ 32)
