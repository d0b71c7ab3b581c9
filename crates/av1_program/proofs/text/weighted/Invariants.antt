use Rattle.std.proofs.Common.{◌≡◌, ◌<◌, ◌*◌, ◌%◌, ◌^◌, take}
use Rattle.std.specs.List.{enumerate_from, sum_by}
use Rattle.av1_program.proofs.text.weighted.Given as goal

abbrev pub invariant-loop-place : goal.invariant-loop-place
invariant-loop-place l = (l.sum ≡ sum_by (λ b. b.0 * b.1) (enumerate_from 1 (take l.place l.bytes)) % 2 ^ 16) × (l.sum < 65536)
