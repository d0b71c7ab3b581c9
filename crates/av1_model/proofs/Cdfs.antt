-- Numbers that fall from neighbour to neighbour fall throughout.
use Rattle.std.proofs.Common.{◌≡◌, ℕ, zero, suc, ◌+◌, ◌-◌, ◌<◌, ◌≤◌, subst, arith, List, length}
use Rattle.std.specs.Prelude.{slice_index}

falls_over : (cdf : List ℕ) → ((k : ℕ) → k + 2 < length cdf → slice_index cdf (k + 1) ≤ slice_index cdf k) → (n j k : ℕ) → j + n ≡ k → k + 1 < length cdf → slice_index cdf k ≤ slice_index cdf j
falls_over cdf f zero j k e h = let i : j ≡ k = omega arith in subst (λ m. slice_index cdf m ≤ slice_index cdf j) i (omega arith)
falls_over cdf f (suc n) j k e h =
    let i : j + n + 1 ≡ k = omega arith in
    subst (λ m. slice_index cdf m ≤ slice_index cdf j) i (omega (arith, f (j + n) (omega arith), falls_over cdf f n j (j + n) (omega arith) (omega arith)))

-- a check may run along a table
pub falls_from_steps : (cdf : List ℕ) → ((k : ℕ) → k + 2 < length cdf → slice_index cdf (k + 1) ≤ slice_index cdf k) → (j k : ℕ) → j ≤ k → k + 1 < length cdf → slice_index cdf k ≤ slice_index cdf j
falls_from_steps cdf f j k a h = falls_over cdf f (k - j) j k (omega arith) h
