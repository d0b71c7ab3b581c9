-- Sums over lists, one item more at a time.
use Rattle.std.proofs.Common.{◌≡◌, ℕ, ◌+◌, ◌*◌, ◌%◌, ◌^◌, ◌<◌, List, [], ◌∷◌, length, take, get_or, sym, ap, ◌∙◌, arith, length-take, if◌then◌else◌}
use Rattle.std.specs.List.{enumerate_from, sum_by}
use Rattle.std.proofs.lemmas.List.{take_more}
use Rattle.std.proofs.lemmas.List.Sums.{fold-append}
use Rattle.std.proofs.Math.Nat.{mod-add-mod}
use Rattle.av1_tile.specs.declared.report.TrialCost.{TrialCost}
use Rattle.av1_program.specs.Text.{abandoned_cost, kept_cost}
use Rattle.av1_program.proofs.Lines.{enumerate_more}

-- a sum over one item more
pub sum_more : {X : Type 0} (f : X → ℕ) (xs : List X) (i : ℕ) (x : X) → i < length xs → sum_by f (take (i + 1) xs) ≡ sum_by f (take i xs) + f (get_or xs i x)
sum_more f xs i x lt = ap (sum_by f) (take_more xs i x lt) ∙ fold-append (λ a y. a + f y) 0 (take i xs) (get_or xs i x ∷ [])

-- a sum over places and bytes, of one byte more
pub weighted_more : (bytes : List ℕ) (i byte : ℕ) → i < length bytes → sum_by (λ b. b.0 * b.1) (enumerate_from 1 (take (i + 1) bytes)) ≡ sum_by (λ b. b.0 * b.1) (enumerate_from 1 (take i bytes)) + (i + 1) * get_or bytes i byte
weighted_more bytes i byte lt =
    let weight : ℕ × ℕ → ℕ = λ b. b.0 * b.1 in
    let here = get_or bytes i byte in
    let place : 1 + length (take i bytes) ≡ i + 1 = omega (arith, length-take i bytes) in
    ap (λ xs. sum_by weight (enumerate_from 1 xs)) (take_more bytes i byte lt)
    ∙ ap (sum_by weight) (enumerate_more 1 (take i bytes) here)
    ∙ fold-append (λ a b. a + weight b) 0 (enumerate_from 1 (take i bytes)) ((1 + length (take i bytes), here) ∷ [])
    ∙ ap (λ n. sum_by weight (enumerate_from 1 (take i bytes)) + n * here) place

-- its last 16 bits
pub weighted_so_far : (bytes : List ℕ) (i byte old new : ℕ) → i < length bytes → old ≡ sum_by (λ b. b.0 * b.1) (enumerate_from 1 (take i bytes)) % 2 ^ 16
    → new ≡ (old + (i + 1) * get_or bytes i byte) % 65536 → new ≡ sum_by (λ b. b.0 * b.1) (enumerate_from 1 (take (i + 1) bytes)) % 2 ^ 16
weighted_so_far bytes i byte old new lt so_far more =
    let before = sum_by (λ b. b.0 * b.1) (enumerate_from 1 (take i bytes)) in
    more
    ∙ ap (λ n. (n + (i + 1) * get_or bytes i byte) % 65536) so_far
    ∙ mod-add-mod before 65536 ((i + 1) * get_or bytes i byte)
    ∙ ap (λ n. n % 65536) (sym (weighted_more bytes i byte lt))

-- what trials cost, of one trial more
pub kept_more : (trials : List TrialCost) (i : ℕ) (trial : TrialCost) → i < length trials
    → kept_cost (take (i + 1) trials) ≡ kept_cost (take i trials) + (if (get_or trials i trial).kept then (get_or trials i trial).eighths else 0)
kept_more trials i trial lt = sum_more (λ t. if t.kept then t.eighths else 0) trials i trial lt

pub abandoned_more : (trials : List TrialCost) (i : ℕ) (trial : TrialCost) → i < length trials
    → abandoned_cost (take (i + 1) trials) ≡ abandoned_cost (take i trials) + (if (get_or trials i trial).kept then 0 else (get_or trials i trial).eighths)
abandoned_more trials i trial lt = sum_more (λ t. if t.kept then 0 else t.eighths) trials i trial lt
