-- The blocks along a line: where they are, and what is left of them.
use Rattle.std.proofs.Common.{◌≡◌, ℕ, zero, suc, ◌+◌, ◌-◌, ◌%◌, ◌^◌, ◌<◌, ◌≤◌, min, max, List, [], ◌∷◌, ◌⊎◌, nat_lt, nat_le, if◌then◌else◌, refl, sym, ap, ◌∙◌, arith, subst, inl, inr}
use Rattle.std.proofs.lemmas.Bool.{cases_lt}
use Rattle.std.proofs.lemmas.Bool.Decides.{nat_tests}
use Rattle.av1_geometry.specs.declared.block_offset.BlockOffset.{BlockOffset}
use Rattle.av1_geometry.specs.declared.block_size.BlockSize.{BlockSize}
use Rattle.av1_geometry.specs.BlockSize.{width_mi, height_mi, width_log2, height_log2}
use Rattle.av1_blocks.specs.declared.block.Block.{Block}
use Rattle.av1_blocks.specs.Grid.{Grid, IsInside}
use Rattle.av1_blocks.specs.Sound.{IsSound, IsReady}
use Rattle.av1_mvref.specs.declared.edge.Direction.{Direction}
use Rattle.av1_mvref.specs.declared.edge.Direction.TheVariants.{Upper, Left}
use Rattle.av1_mvref.specs.Neighbours.{Edge, edge, half, shown, at_distance, steps, blocks_along}

fuel : (at : ℕ → Block) (long : Block → ℕ) (n end i : ℕ) → ((j : ℕ) → j < end → 1 ≤ long (at j)) → end ≤ i + n → blocks_along at long (suc n) end i ≡ blocks_along at long n end i
unfolding blocks_along
fuel at long zero end i p h = grind (arith, nat_tests)
fuel at long (suc n) end i p h = elim (cases_lt i end) [
  | inl l ↦
      let one = p i l in
      ap (λ bs. if nat_lt i end then at i ∷ bs else []) (fuel at long n end (i + long (at i)) p (omega arith))
  | inr g ↦ grind (arith, nat_tests)
]

pub along-step : (at : ℕ → Block) (long : Block → ℕ) (end i : ℕ) → ((j : ℕ) → j < end → 1 ≤ long (at j)) → end ≤ 16 → i < end →
    blocks_along at long 16 end i ≡ at i ∷ blocks_along at long 16 end (i + long (at i))
unfolding blocks_along
along-step at long end i p h l =
    let one = p i l in
    let less : (if nat_lt i end then at i ∷ blocks_along at long 15 end (i + long (at i)) else []) ≡ at i ∷ blocks_along at long 15 end (i + long (at i)) = grind (arith, nat_tests) in
    less ∙ ap (λ bs. at i ∷ bs) (sym (fuel at long 15 end (i + long (at i)) p (omega arith)))

pub along-end : (at : ℕ → Block) (long : Block → ℕ) (end i : ℕ) → end ≤ i → blocks_along at long 16 end i ≡ []
unfolding blocks_along
along-end at long end i h = grind (arith, nat_tests)

-- what is left of a line from a place on
abbrev pub rest : Edge → ℕ → ℕ → List Block
rest e d i = blocks_along (at_distance e d) (steps e d) 16 (shown e) i

-- powers of two
power_parity : (k : ℕ) → (2 ^ k ≡ 1) ⊎ ((2 ^ k) % 2 ≡ 0)
power_parity zero = inl refl
power_parity (suc k) = inr (omega arith)

pub power_positive : (k : ℕ) → 1 ≤ 2 ^ k
power_positive zero = omega arith
power_positive (suc k) = let h = power_positive k in omega arith

number_even : (m n : ℕ) → (m ≡ 1) ⊎ (m % 2 ≡ 0) → (n ≡ 1) ⊎ (n % 2 ≡ 0) → (min m n ≡ 1) ⊎ ((min m n) % 2 ≡ 0)
number_even m n (inl h) (inl l) = inl (omega arith)
number_even m n (inl h) (inr l) = elim (cases_lt n 1) [ inl k ↦ inr (omega arith) | inr k ↦ inl (omega arith) ]
number_even m n (inr h) (inl l) = elim (cases_lt m 1) [ inl k ↦ inr (omega arith) | inr k ↦ inl (omega arith) ]
number_even m n (inr h) (inr l) = elim (cases_lt m n) [ inl k ↦ inr (omega arith) | inr k ↦ inr (omega arith) ]

max_even : (n : ℕ) → (n ≡ 1) ⊎ (n % 2 ≡ 0) → (max 2 n) % 2 ≡ 0
max_even n (inl h) = omega arith
max_even n (inr h) = elim (cases_lt n 2) [ inl k ↦ omega arith | inr k ↦ omega arith ]

max_even_4 : (n : ℕ) → (n ≡ 1) ⊎ (n % 2 ≡ 0) → (max 4 n) % 2 ≡ 0
max_even_4 n (inl h) = omega arith
max_even_4 n (inr h) = elim (cases_lt n 4) [ inl k ↦ omega arith | inr k ↦ omega arith ]

-- places are inside the tile
inside_end : (side x end d i : ℕ) → x < end → end % 2 ≡ 0 → (2 ≤ side → x % 2 ≡ 0) → i < min (min side (end - x)) 16 → (1 < d → i % 2 ≡ 0) →
    x + (if nat_lt 1 d then 1 - half side x else 0) + i < end
inside_end side x end d i l e a s h = elim (cases_lt 1 d) [
  | inl m ↦ let even = h m in elim (cases_lt side 2) [
    | inl n ↦ grind (arith, nat_tests)
    | inr n ↦ let even_x = a n in grind (arith, nat_tests)
  ]
  | inr m ↦ grind (arith, nat_tests)
]

pub place_inside : (to : Direction) (g : Grid) (bo : BlockOffset) (size : BlockSize) (d i : ℕ) → IsReady g → IsInside g bo →
    let e = edge to g bo size in
    (2 ≤ e.side → e.x % 2 ≡ 0) → i < shown e → (1 < d → i % 2 ≡ 0) → e.x + (if nat_lt 1 d then 1 - half e.side e.x else 0) + i < e.end
place_inside Upper g bo size d i r n a s h = inside_end (width_mi size) bo.x g.cols d i n.column r.columns a s h
place_inside Left g bo size d i r n a s h = inside_end (height_mi size) bo.y g.rows d i n.row r.rows a s h

pub rest-step : (e : Edge) (d i : ℕ) → ((j : ℕ) → j < shown e → 1 ≤ steps e d (at_distance e d j)) → i < shown e →
    rest e d i ≡ at_distance e d i ∷ rest e d (i + steps e d (at_distance e d i))
rest-step e d i p l = along-step (at_distance e d) (steps e d) (shown e) i p (omega arith) l

pub rest-end : (e : Edge) (d i : ℕ) → shown e ≤ i → rest e d i ≡ []
rest-end e d i l = along-end (at_distance e d) (steps e d) (shown e) i l

-- a sound block's sides, and the steps by them
steps_of : (side n d : ℕ) → 1 ≤ n → 1 ≤ side → 1 ≤ (if nat_le 16 side then max 4 (min side n) else (if nat_lt 1 d then max 2 (min side n) else min side n))
steps_of side n d h l = grind (arith, nat_tests)

even_of : (side n d : ℕ) → (side ≡ 1) ⊎ (side % 2 ≡ 0) → (n ≡ 1) ⊎ (n % 2 ≡ 0) → 1 < d →
    (if nat_le 16 side then max 4 (min side n) else (if nat_lt 1 d then max 2 (min side n) else min side n)) % 2 ≡ 0
even_of side n d h l k =
    let two = max_even (min side n) (number_even side n h l) in
    let four = max_even_4 (min side n) (number_even side n h l) in
    elim (cases_lt side 16) [
      | inl m ↦ grind (arith, nat_tests)
      | inr m ↦ grind (arith, nat_tests)
    ]

far_steps : (side n d : ℕ) → 1 < d → 1 ≤ (if nat_le 16 side then max 4 (min side n) else (if nat_lt 1 d then max 2 (min side n) else min side n))
far_steps side n d h = grind (arith, nat_tests)

pub steps-even : (to : Direction) (g : Grid) (bo : BlockOffset) (size : BlockSize) (d : ℕ) (b : Block) → IsSound b → 1 < d → steps (edge to g bo size) d b % 2 ≡ 0
steps-even Upper g bo size d b s h = even_of (width_mi size) b.n4_w d (power_parity (width_log2 size - 2)) (subst (λ n. (n ≡ 1) ⊎ (n % 2 ≡ 0)) (sym s.width) (power_parity (width_log2 b.bsize - 2))) h
steps-even Left g bo size d b s h = even_of (height_mi size) b.n4_h d (power_parity (height_log2 size - 2)) (subst (λ n. (n ≡ 1) ⊎ (n % 2 ≡ 0)) (sym s.height) (power_parity (height_log2 b.bsize - 2))) h

-- the block at a place of a line is sound
pub sound_at : (to : Direction) (g : Grid) (bo : BlockOffset) (size : BlockSize) (d i : ℕ) → IsReady g → IsInside g bo → 1 ≤ d → d ≤ (edge to g bo size).y →
    let e = edge to g bo size in
    e.x + (if nat_lt 1 d then 1 - half e.side e.x else 0) + i < e.end → IsSound (at_distance e d i)
sound_at Upper g bo size d i r n o l h = r.sound _ _ h (let row = n.row in omega arith)
sound_at Left g bo size d i r n o l h = r.sound _ _ (let column = n.column in omega arith) h

pub steps-positive : (to : Direction) (g : Grid) (bo : BlockOffset) (size : BlockSize) (d j : ℕ) → IsReady g → IsInside g bo → 1 ≤ d → d ≤ (edge to g bo size).y →
    j < shown (edge to g bo size) → 1 ≤ steps (edge to g bo size) d (at_distance (edge to g bo size) d j)
steps-positive Upper g bo size d j r n o l h = elim (cases_lt 1 d) [
  | inl k ↦ far_steps (width_mi size) _ d k
  | inr k ↦
      let s = sound_at Upper g bo size d j r n o l (grind (arith, nat_tests)) in
      let w = s.width in
      let long = power_positive (width_log2 (at_distance (edge Upper g bo size) d j).bsize - 2) in
      steps_of (width_mi size) _ d (omega arith) (power_positive (width_log2 size - 2))
]
steps-positive Left g bo size d j r n o l h = elim (cases_lt 1 d) [
  | inl k ↦ far_steps (height_mi size) _ d k
  | inr k ↦
      let s = sound_at Left g bo size d j r n o l (grind (arith, nat_tests)) in
      let w = s.height in
      let long = power_positive (height_log2 (at_distance (edge Left g bo size) d j).bsize - 2) in
      steps_of (height_mi size) _ d (omega arith) (power_positive (height_log2 size - 2))
]
