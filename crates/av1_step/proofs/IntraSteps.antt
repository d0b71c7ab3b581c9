-- What the steps of intra blocks bring.
use Rattle.std.proofs.Common.{◌≡◌, ℕ, ◌-◌, ◌<◌, List, [], ◌∷◌, true, Some, None, refl, ap, ◌∙◌, arith, nat_lt, inl, inr}
use Rattle.std.proofs.lemmas.Bool.Decides.{nat_tests}
use Rattle.av1_blocks.specs.declared.block_context.BlockContext.{BlockContext}
use Rattle.av1_blocks.specs.Grid.{Grid, block_at, over}
use Rattle.av1_geometry.specs.Rules.{first_broken}
use Rattle.av1_geometry.specs.declared.prediction_mode.PredictionMode.{PredictionMode}
use Rattle.av1_geometry.specs.PredictionMode.{prediction_mode_number}
use Rattle.av1_syntax.specs.IntraModes.{HasIntraNeighbours, uv_modes}
use Rattle.av1_syntax.proofs.Elements.{intra_mode_reads, intra_mode_kf_reads, uv_mode_reads}
use Rattle.av1_step.specs.Effect.{changed_by_all}
use Rattle.av1_step.specs.IntraSteps.{mode_at, is_intra, gets_mode, intra_mode_kf_kind, intra_mode_kind, uv_mode_kind}
use Rattle.av1_step.specs.Kept.{IsBlock, IsFine, IsKept}
use Rattle.av1_step.specs.Kind.{rules_of, IsKind}
use Rattle.av1_step.specs.Tile.{Tile, CurrentBlock, place_of_block, size_of_block, with_numbers}
use Rattle.av1_step.proofs.Effects.{place_there, says_alike, sound_within}
use Rattle.av1_step.proofs.KindLaws.{kind_reads, none_is}
use Rattle.av1_step.proofs.Places.{all_hold}

pub is_less : (n m : ℕ) → nat_lt n m ≡ true → n < m
is_less n m h = grind (arith, nat_tests)

-- each block of the grid is fine
pub fine_at : (t : Tile) → IsKept t → (x y : ℕ) → x < t.bc.blocks.cols → y < t.bc.blocks.rows → IsFine t.given.fi (block_at t.bc.blocks x y)
fine_at t k x y column row = k.fine _ (place_there t k.sides x y column row).1

-- in an intra frame the blocks above and to the left are intra blocks
pub intra_neighbours : (t : Tile) (b : CurrentBlock) → IsKept t → IsBlock t.bc.blocks.cols t.bc.blocks.rows (place_of_block b) (size_of_block b) → t.given.fi.intra_only ≡ true → HasIntraNeighbours t.bc.blocks (place_of_block b)
intra_neighbours t b k s h =
    let bo = place_of_block b in
    record {
      above = λ some. (fine_at t k bo.x (bo.y - 1) s.column (omega (arith, s.row))).mode (inl h);
      left = λ some. (fine_at t k (bo.x - 1) bo.y (omega (arith, s.column)) s.row).mode (inl h);
    }

-- a luma mode is entered
pub mode_entered : (t : Tile) (b : CurrentBlock) (m : PredictionMode) (ns : List ℕ) (bc : BlockContext) (g : Grid) → bc ≡ t.bc → g ≡ over (place_of_block b) (size_of_block b) (λ x. record x { mode = m }) bc.blocks →
    record t { numbers = ns; bc = record bc { blocks = g } } ≡ changed_by_all (gets_mode b m ∷ []) (with_numbers ns t)
mode_entered t b m ns bc g same entered =
    ap (λ (h : Grid). record t { numbers = ns; bc = record bc { blocks = h } }) entered
    ∙ ap (λ (c : BlockContext). record t { numbers = ns; bc = record c { blocks = over (place_of_block b) (size_of_block b) (λ x. record x { mode = m }) c.blocks } }) same

-- what an allowed luma mode of an intra frame has
pub intra_mode_kf_allowed : (t : Tile) (b : CurrentBlock) (m : PredictionMode) → first_broken (rules_of (intra_mode_kf_kind t b) m) ≡ None → (t.given.fi.intra_only ≡ true) × (prediction_mode_number m < 13)
intra_mode_kf_allowed t b m h = let all = all_hold (rules_of (intra_mode_kf_kind t b) m) h in (all.1.0, is_less _ _ all.1.1.1.0)

pub intra_mode_kf_is_kind : (t : Tile) (b : CurrentBlock) → t.current ≡ Some b → IsBlock t.bc.blocks.cols t.bc.blocks.rows (place_of_block b) (size_of_block b) → IsKind t (intra_mode_kf_kind t b)
intra_mode_kf_is_kind t b e s = record {
  reads = kind_reads (intra_mode_kf_kind t b) (λ m. prediction_mode_number m < 13) 1 (omega arith) (λ m h g. is_less _ _ (all_hold ((intra_mode_kf_kind t b).answering m) (none_is _ g)).0)
      (λ h. intra_mode_kf_reads t.bc.blocks (place_of_block b));
  fit = λ m h.
      let low = (intra_mode_kf_allowed t b m (none_is _ h)).1 in
      ((s, λ x like fine. record { mode = λ intra. low; segment = fine.segment; sound = sound_within x m low fine.sound }, λ c is x e. e, says_alike t b (λ x. record x { mode = m }) e (λ x y. refl)), tt);
  at_place = λ m. (refl, tt);
}

-- what an allowed luma mode of another frame has
pub intra_mode_allowed : (t : Tile) (b : CurrentBlock) (m : PredictionMode) → first_broken (rules_of (intra_mode_kind t b) m) ≡ None → prediction_mode_number m < 13
intra_mode_allowed t b m h = let all = all_hold (rules_of (intra_mode_kind t b) m) h in is_less _ _ all.1.1.1.0

pub intra_mode_is_kind : (t : Tile) (b : CurrentBlock) → t.current ≡ Some b → IsBlock t.bc.blocks.cols t.bc.blocks.rows (place_of_block b) (size_of_block b) → IsKind t (intra_mode_kind t b)
intra_mode_is_kind t b e s = record {
  reads = kind_reads (intra_mode_kind t b) (λ m. prediction_mode_number m < 13) 1 (omega arith) (λ m h g. is_less _ _ (all_hold ((intra_mode_kind t b).answering m) (none_is _ g)).0)
      (λ h. intra_mode_reads (size_of_block b));
  fit = λ m h.
      let low = intra_mode_allowed t b m (none_is _ h) in
      ((s, λ x like fine. record { mode = λ intra. low; segment = fine.segment; sound = sound_within x m low fine.sound }, λ c is x e. e, says_alike t b (λ x. record x { mode = m }) e (λ x y. refl)), tt);
  at_place = λ m. (refl, tt);
}

-- an intra block has one of the thirteen modes of luma
pub luma_below : (t : Tile) (b : CurrentBlock) → IsKept t → IsBlock t.bc.blocks.cols t.bc.blocks.rows (place_of_block b) (size_of_block b) → is_intra t b ≡ true → prediction_mode_number (mode_at t b) < 13
luma_below t b k s h = (fine_at t k (place_of_block b).x (place_of_block b).y s.column s.row).mode (inr (is_less _ _ h))

-- what an allowed chroma mode has
pub uv_mode_allowed : (t : Tile) (b : CurrentBlock) (m : PredictionMode) → first_broken (rules_of (uv_mode_kind t b) m) ≡ None → (is_intra t b ≡ true) × (prediction_mode_number m < uv_modes (size_of_block b))
uv_mode_allowed t b m h = let all = all_hold (rules_of (uv_mode_kind t b) m) h in (all.1.0, is_less _ _ all.1.1.1.0)

pub uv_mode_is_kind : (t : Tile) (b : CurrentBlock) → IsKept t → IsBlock t.bc.blocks.cols t.bc.blocks.rows (place_of_block b) (size_of_block b) → IsKind t (uv_mode_kind t b)
uv_mode_is_kind t b k s = record {
  reads = kind_reads (uv_mode_kind t b) (λ m. prediction_mode_number m < uv_modes (size_of_block b)) 1 (omega arith) (λ m h g. is_less _ _ (all_hold ((uv_mode_kind t b).answering m) (none_is _ g)).0)
      (λ h. uv_mode_reads (mode_at t b) (size_of_block b) (luma_below t b k s (all_hold (uv_mode_kind t b).asking (none_is _ h)).1.0));
  fit = λ m h. (tt, tt);
  at_place = λ m. (tt, tt);
}
