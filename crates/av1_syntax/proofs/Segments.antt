-- The segments by their distance from a prediction, and what a call that codes one writes.
use Rattle.std.proofs.Common.{◌≡◌, ℕ, ◌+◌, ◌<◌, ◌≤◌, [], ◌∷◌, Bool, true, false, Some, None, Result, if◌then◌else◌, nat_lt, codes, ap, ◌∙◌, arith}
use Rattle.std.specs.Prelude.{OnOk, OnErr}
use Rattle.std.proofs.lemmas.Bool.Decides.{nat_tests}
use Rattle.av1_blocks.specs.Grid.{Grid, block_at}
use Rattle.av1_cdf.specs.Distribution.Distribution.{Adaptive}
use Rattle.av1_cdf.specs.Layout.{Slot, slot}
use Rattle.av1_geometry.specs.declared.block_offset.BlockOffset.{BlockOffset}
use Rattle.av1_model.specs.Comes.{Standing, Stores, Wrote, Writes}
use Rattle.av1_model.specs.Syntax.Syntax.{Done}
use Rattle.av1_model.proofs.ComesLaws.{stays}
use Rattle.av1_syntax.specs.Calls.{Context, coded_in, learnt_in}
use Rattle.av1_syntax.specs.Segments.{interleaved, deinterleaved, predicted_segment, segment_context, segment_of, segment_element}
use Rattle.av1_syntax.proofs.Values.{below}
use Rattle.av1_syntax.proofs.Writing.{wrote_symbol}

pub interleaved_below : (n r x : ℕ) → x < n → r < n → interleaved n r x < n
interleaved_below n r x a b = grind (arith, nat_tests)

pub interleaved_back : (n r x : ℕ) → x < n → r < n → deinterleaved n r (interleaved n r x) ≡ x
interleaved_back n r x a b = grind (arith, nat_tests)

pub deinterleaved_below : (n r s : ℕ) → s < n → r < n → deinterleaved n r s < n
deinterleaved_below n r s a b = grind (arith, nat_tests)

pub deinterleaved_back : (n r s : ℕ) → s < n → r < n → interleaved n r (deinterleaved n r s) ≡ s
deinterleaved_back n r s a b = grind (arith, nat_tests)

pub segment_told : (n r a : ℕ) → r < n → a < n → (if nat_lt (interleaved n r a) n then Some (deinterleaved n r (interleaved n r a)) else None) ≡ Some a
segment_told n r a h l = below n (interleaved n r a) (Some (deinterleaved n r (interleaved n r a))) (interleaved_below n r a l h) ∙ ap Some (interleaved_back n r a l h)

pub predicted_few : (g : Grid) (bo : BlockOffset) (last : ℕ) → predicted_segment g bo last < last + 1
predicted_few g bo last = omega arith

-- a skipped block has the predicted segment
pub segment_skipped : (g : Grid) (bo : BlockOffset) (skip : Bool) (last : ℕ) (at : Standing Context) → skip ≡ true → Writes coded_in learnt_in (segment_element g bo skip last).tree (segment_of g bo skip last) at at
segment_skipped g bo true last at h = stays coded_in learnt_in (Done (predicted_segment g bo last)) at
segment_skipped g bo false last at h = absurd cc

-- the segment of another block is coded by its number
pub segment_wrote : {U E : Type 0} (r : Result U E) (g : Grid) (bo : BlockOffset) (skip : Bool) (last s : ℕ) (p : Slot) (old new : Standing Context) → skip ≡ false → p ≡ slot (codes "spatial_segmentation_cdfs") (segment_context g bo ∷ []) →
    (block_at g bo.x bo.y).segmentation_idx ≤ last → s ≡ interleaved (last + 1) (predicted_segment g bo last) (block_at g bo.x bo.y).segmentation_idx → OnOk r (Stores coded_in learnt_in (Adaptive p) s old new) → OnErr r (new ≡ old) →
    Wrote coded_in learnt_in r (segment_element g bo skip last).tree (segment_of g bo skip last) old new
segment_wrote r g bo true last s p old new h is few e ok err = absurd cc
segment_wrote r g bo false last s p old new h is few e ok err =
    let n = last + 1 in
    let k = predicted_segment g bo last in
    let value = λ (s : ℕ). if nat_lt s n then Some (deinterleaved n k s) else None in
    let q = slot (codes "spatial_segmentation_cdfs") (segment_context g bo ∷ []) in
    let idx = (block_at g bo.x bo.y).segmentation_idx in
    wrote_symbol r p q value (interleaved n k) s idx old new is e (segment_told n k idx (predicted_few g bo last) (omega (arith, few))) ok err
