-- The places of superblocks in planes.
use Rattle.std.proofs.Common.{◌≡◌, ℕ, zero, suc, ◌-◌, ◌*◌, ◌%◌, ◌^◌, ◌<◌, ◌≤◌, pos, to_z, w64, arith, ap, ◌∙◌}
use Rattle.std.proofs.Math.Nat.{mod-eq_of_lt}
use Rattle.std.proofs.lemmas.Int.{to_z_pos}

small : (n : ℕ) → n < 2 ^ 40 → to_z w64 (n % 18446744073709551616) ≡ pos n
small n h = ap (to_z w64) (mod-eq_of_lt (omega (arith, h))) ∙ to_z_pos w64 n (omega (arith, h))

pub superblock_place : (x d : ℕ) → x < 2 ^ 24 → d ≤ 1 → to_z w64 (x * 2 ^ (6 - d) % 18446744073709551616) ≡ pos (x * 2 ^ (6 - d))
superblock_place x zero h k = small (x * 64) (omega (arith, h))
superblock_place x (suc zero) h k = small (x * 32) (omega (arith, h))
superblock_place x (suc (suc d)) h k = absurd (omega (arith, k))
