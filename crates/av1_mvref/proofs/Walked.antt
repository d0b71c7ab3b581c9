-- Half way along the blocks beside an edge: what is left to do comes to what there was to do.
use Rattle.std.proofs.Common.{◌≡◌, ℕ, ◌+◌, ◌-◌, ◌<◌, ◌≤◌, List, ◌++◌, length, sym, ap, ◌∙◌, subst, arith}
use Rattle.std.specs.Prelude.{fold}
use Rattle.std.proofs.lemmas.Bool.Decides.{nat_tests}
use Rattle.std.proofs.lemmas.List.Sums.{fold-append}
use Rattle.av1_geometry.specs.declared.block_offset.BlockOffset.{BlockOffset}
use Rattle.av1_geometry.specs.declared.block_size.BlockSize.{BlockSize}
use Rattle.av1_geometry.specs.declared.motion_vector.MotionVector.{MotionVector}
use Rattle.av1_geometry.specs.BlockSize.{width_log2, height_log2}
use Rattle.av1_blocks.specs.declared.block.Block.{Block}
use Rattle.av1_blocks.specs.Grid.{Grid, IsInside}
use Rattle.av1_blocks.specs.Sound.{IsSound, IsReady}
use Rattle.av1_mvref.specs.declared.edge.Direction.{Direction}
use Rattle.av1_mvref.specs.declared.edge.Direction.TheVariants.{Upper, Left}
use Rattle.av1_mvref.specs.Neighbours.{Edge, edge, reach, shown, at_distance, blocks_along}
use Rattle.av1_mvref.proofs.Lines.{along-step, along-end, power_positive, sound_at}

pub record IsPartWalked {S : Type 0} (f : S → Block → S) (at : ℕ → Block) (long : Block → ℕ) (n : ℕ) (first state : S) (i : ℕ) : Type 0 where
  pub folds : fold f state (blocks_along at long 16 n i) ≡ fold f first (blocks_along at long 16 n 0)

pub walked-next : {S : Type 0} (f : S → Block → S) (at : ℕ → Block) (long : Block → ℕ) (n : ℕ) (first state : S) (i : ℕ) (b : Block) (after : S) (m : ℕ) →
    b ≡ at i → after ≡ f state b → m ≡ long b → IsPartWalked f at long n first state i → ((j : ℕ) → j < n → 1 ≤ long (at j)) → n ≤ 16 → i < n →
    IsPartWalked f at long n first after (i + m)
walked-next f at long n first state i b after m eb es em h p few l = record {
  folds =
      ap (λ s. fold f s (blocks_along at long 16 n (i + m))) (es ∙ ap (f state) eb)
      ∙ ap (λ k. fold f (f state (at i)) (blocks_along at long 16 n (i + k))) (em ∙ ap long eb)
      ∙ ap (fold f state) (sym (along-step at long n i p few l))
      ∙ h.folds;
}

pub walked-end : {S : Type 0} (f : S → Block → S) (at : ℕ → Block) (long : Block → ℕ) (n : ℕ) (first state : S) (i : ℕ) →
    IsPartWalked f at long n first state i → n ≤ i → state ≡ fold f first (blocks_along at long 16 n 0)
walked-end f at long n first state i h l = ap (fold f state) (sym (along-end at long n i l)) ∙ h.folds

-- two lists of vectors
pub record IsPartKept (f g : List MotionVector → Block → List MotionVector) (at : ℕ → Block) (long : Block → ℕ) (n : ℕ) (same_0 others_0 kept turned : List MotionVector) (i : ℕ) : Type 0 where
  pub same : IsPartWalked f at long n same_0 kept i
  pub others : IsPartWalked g at long n others_0 turned i
  pub few : length kept ≤ 2
  pub few_others : length turned ≤ 2

-- the places next to an edge
pub reach-near : (e : Edge) → 1 ≤ e.y → 1 ≤ reach e
reach-near e h = grind (arith, nat_tests)

pub near_inside : (to : Direction) (g : Grid) (bo : BlockOffset) (size : BlockSize) (i : ℕ) → let e = edge to g bo size in i < shown e → e.x + 0 + i < e.end
near_inside to g bo size i h = omega arith

pub side_of-positive : (to : Direction) (g : Grid) (bo : BlockOffset) (size : BlockSize) (b : Block) → IsSound b → 1 ≤ (edge to g bo size).side_of b
side_of-positive Upper g bo size b s = subst (λ n. 1 ≤ n) (sym s.width) (power_positive (width_log2 b.bsize - 2))
side_of-positive Left g bo size b s = subst (λ n. 1 ≤ n) (sym s.height) (power_positive (height_log2 b.bsize - 2))

pub near-sound : (to : Direction) (g : Grid) (bo : BlockOffset) (size : BlockSize) (i : ℕ) → IsReady g → IsInside g bo → 1 ≤ (edge to g bo size).y → i < shown (edge to g bo size) →
    IsSound (at_distance (edge to g bo size) 1 i)
near-sound to g bo size i r n near l = sound_at to g bo size 1 i r n (omega arith) near (near_inside to g bo size i l)

pub near-positive : (to : Direction) (g : Grid) (bo : BlockOffset) (size : BlockSize) (n : ℕ) → IsReady g → IsInside g bo → 1 ≤ (edge to g bo size).y → n ≤ shown (edge to g bo size) →
    (j : ℕ) → j < n → 1 ≤ (edge to g bo size).side_of (at_distance (edge to g bo size) 1 j)
near-positive to g bo size n r i near most j l = side_of-positive to g bo size _ (near-sound to g bo size j r i near (omega arith))

-- one line after the other
pub two-lines : {S : Type 0} (f : S → Block → S) (first middle last : S) (above left : List Block) → middle ≡ fold f first above → last ≡ fold f middle left → last ≡ fold f first (above ++ left)
two-lines f first middle last above left h l = l ∙ ap (λ s. fold f s left) h ∙ sym (fold-append f first above left)
