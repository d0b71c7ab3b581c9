-- What the steps of transform blocks bring.
use Rattle.std.proofs.Common.{◌≡◌, ℕ, zero, suc, ◌+◌, ◌-◌, ◌*◌, ◌/◌, ◌%◌, ◌^◌, ◌<◌, ◌≤◌, ◌&&◌, ◌||◌, ◌==◌, min, max, List, [], ◌∷◌, Bool, true, false, IsTrue, Option, Some, None, is_some, length, nat_eq, nat_lt, nat_le, find, slice_index_or, ℤ, pos, unsigned_abs, if◌then◌else◌, inl, inr, refl, sym, ap, subst, ◌∙◌, arith}
use Rattle.std.specs.Prelude.{unwrap_or}
use Rattle.std.proofs.lemmas.Bool.Decides.{nat_tests}
use Rattle.std.proofs.lemmas.List.Folds.{list_all_at}
use Rattle.av1_blocks.proofs.GoingBack.{halved_once}
use Rattle.av1_blocks.specs.Coefficients.{block_contexts, entries_above, entries_left, greatest, has_sides, is_any, is_larger, txb_context}
use Rattle.av1_blocks.specs.Edges.{halvings}
use Rattle.av1_cdf.specs.Distribution.{HasSymbols}
use Rattle.av1_coef.proofs.Tests.{either, false_true}
use Rattle.av1_coef.specs.Contexts.{coded_area}
use Rattle.av1_coef.specs.Scans.{scan_of}
use Rattle.av1_geometry.specs.BlockSize.{width_log2, height_log2, with_sides}
use Rattle.av1_geometry.specs.BlockTables.{max_tx_size, subsampled_size_of}
use Rattle.av1_geometry.specs.ChromaSampling.{xdec_of, ydec_of}
use Rattle.av1_geometry.specs.PredictionMode.{prediction_mode_number}
use Rattle.av1_geometry.specs.TxSize.{tx_width_log2, tx_height_log2}
use Rattle.av1_geometry.specs.TxTables.{coded_size, is_type, tx_set, uses}
use Rattle.av1_geometry.specs.declared.block_offset.BlockOffset.{BlockOffset}
use Rattle.av1_geometry.specs.declared.block_size.BlockSize.{BlockSize}
use Rattle.av1_geometry.specs.declared.block_size.BlockSize.TheVariants.{BLOCK_4X4, BLOCK_4X8, BLOCK_8X4, BLOCK_8X8, BLOCK_8X16, BLOCK_16X8, BLOCK_16X16, BLOCK_16X32, BLOCK_32X16, BLOCK_32X32, BLOCK_32X64, BLOCK_64X32, BLOCK_64X64, BLOCK_64X128, BLOCK_128X64, BLOCK_128X128, BLOCK_4X16, BLOCK_16X4, BLOCK_8X32, BLOCK_32X8, BLOCK_16X64, BLOCK_64X16}
use Rattle.av1_geometry.specs.declared.chroma_sampling.ChromaSampling.{ChromaSampling}
use Rattle.av1_geometry.specs.declared.chroma_sampling.ChromaSampling.TheVariants.{Cs420, Cs422, Cs444, Cs400}
use Rattle.av1_geometry.specs.declared.prediction_mode.PredictionMode.{PredictionMode}
use Rattle.av1_geometry.specs.declared.tx_size.TxSize.{TxSize}
use Rattle.av1_geometry.specs.declared.tx_size.TxSize.TheVariants.{TX_4X4, TX_8X8, TX_16X16, TX_32X32, TX_64X64, TX_4X8, TX_8X4, TX_8X16, TX_16X8, TX_16X32, TX_32X16, TX_32X64, TX_64X32, TX_4X16, TX_16X4, TX_8X32, TX_32X8, TX_16X64, TX_64X16}
use Rattle.av1_geometry.specs.declared.tx_type.TxType.{TxType}
use Rattle.av1_geometry.specs.declared.tx_type.TxType.TheVariants.{DCT_DCT, ADST_DCT, DCT_ADST, ADST_ADST, FLIPADST_DCT, DCT_FLIPADST, FLIPADST_FLIPADST, ADST_FLIPADST, FLIPADST_ADST, IDTX, V_DCT, H_DCT, V_ADST, H_ADST, V_FLIPADST, H_FLIPADST}
use Rattle.av1_model.specs.Element.{Reads}
use Rattle.av1_model.proofs.ElementLaws.{renamed_reads}
use Rattle.av1_syntax.proofs.CoeffWhole.{element_reads}
use Rattle.av1_syntax.specs.Coefficients.{is_inter, type_without, AreCoeffs, AreLevels, IsTyped}
use Rattle.av1_step.specs.CoeffSteps.{are_levels, chroma_coeffs_kind, coeffs_answering, coeffs_asking, coeffs_of, has_coeffs, has_type, is_transform, is_whole_steps, luma_coeffs_kind, size_in, transform_of, tx_in, xdec_in, ydec_in}
use Rattle.av1_step.specs.IntraSteps.{mode_at}
use Rattle.av1_step.specs.Kept.{IsKept, IsTransform}
use Rattle.av1_step.specs.Kind.{holds, IsKind}
use Rattle.av1_step.specs.Tile.{Tile, CurrentBlock, grid_block, has_chroma_size, is_inside, place_of_block, sampling, size_of_block}
use Rattle.av1_step.proofs.Effects.{largest_sides}
use Rattle.av1_step.proofs.IntraSteps.{fine_at}
use Rattle.av1_step.proofs.KindLaws.{asking_holds, kind_reads, none_is}
use Rattle.av1_step.proofs.Places.{all_hold, both, is_at_most}

-- the sides of a coded transform
coded_sides : (size : TxSize) → (tx_width_log2 (coded_size size) ≡ min (tx_width_log2 size) 5) × (tx_height_log2 (coded_size size) ≡ min (tx_height_log2 size) 5)
coded_sides TX_4X4 = (refl, refl)
coded_sides TX_8X8 = (refl, refl)
coded_sides TX_16X16 = (refl, refl)
coded_sides TX_32X32 = (refl, refl)
coded_sides TX_64X64 = (refl, refl)
coded_sides TX_4X8 = (refl, refl)
coded_sides TX_8X4 = (refl, refl)
coded_sides TX_8X16 = (refl, refl)
coded_sides TX_16X8 = (refl, refl)
coded_sides TX_16X32 = (refl, refl)
coded_sides TX_32X16 = (refl, refl)
coded_sides TX_32X64 = (refl, refl)
coded_sides TX_64X32 = (refl, refl)
coded_sides TX_4X16 = (refl, refl)
coded_sides TX_16X4 = (refl, refl)
coded_sides TX_8X32 = (refl, refl)
coded_sides TX_32X8 = (refl, refl)
coded_sides TX_16X64 = (refl, refl)
coded_sides TX_64X16 = (refl, refl)

-- one type has the number of DCT
is_dct : (t : TxType) → is_type t DCT_DCT ≡ true → t ≡ DCT_DCT
is_dct DCT_DCT h = refl
is_dct ADST_DCT h = cc
is_dct DCT_ADST h = cc
is_dct ADST_ADST h = cc
is_dct FLIPADST_DCT h = cc
is_dct DCT_FLIPADST h = cc
is_dct FLIPADST_FLIPADST h = cc
is_dct ADST_FLIPADST h = cc
is_dct FLIPADST_ADST h = cc
is_dct IDTX h = cc
is_dct V_DCT h = cc
is_dct H_DCT h = cc
is_dct V_ADST h = cc
is_dct H_ADST h = cc
is_dct V_FLIPADST h = cc
is_dct H_FLIPADST h = cc

-- what is found passes the test
found : {X : Type 0} (p : X → Bool) (xs : List X) (x : X) → find p xs ≡ Some x → p x ≡ true
found p [] x h = cc
found p (y ∷ ys) x h = elim (either (p y)) [
  | inl e ↦ (let same : y ≡ x = cc (e, h) in subst (λ z. p z ≡ true) same e)
  | inr e ↦ found p ys x (let rest : find p ys ≡ Some x = cc (e, h) in rest)
]

is_equal : (n m : ℕ) → nat_eq n m ≡ true → n ≡ m
is_equal n m h = grind (arith, nat_tests)

abbrev all_sizes : List BlockSize
all_sizes =
    BLOCK_4X4 ∷ BLOCK_4X8 ∷ BLOCK_8X4 ∷ BLOCK_8X8 ∷ BLOCK_8X16 ∷ BLOCK_16X8 ∷ BLOCK_16X16 ∷ BLOCK_16X32 ∷ BLOCK_32X16 ∷ BLOCK_32X32 ∷ BLOCK_32X64 ∷
    BLOCK_64X32 ∷ BLOCK_64X64 ∷ BLOCK_64X128 ∷ BLOCK_128X64 ∷ BLOCK_128X128 ∷ BLOCK_4X16 ∷ BLOCK_16X4 ∷ BLOCK_8X32 ∷ BLOCK_32X8 ∷ BLOCK_16X64 ∷ BLOCK_64X16 ∷ []

-- the size with these sides has them
sides_of : (w h : ℕ) (size : BlockSize) → with_sides w h ≡ Some size → (width_log2 size ≡ w) × (height_log2 size ≡ h)
sides_of w h size e =
    let b = both _ _ (found (λ s. nat_eq (width_log2 s) w && nat_eq (height_log2 s) h) all_sizes size e) in
    (is_equal _ _ b.0, is_equal _ _ b.1)

sides_there : (w h : ℕ) (o : Option BlockSize) (other : BlockSize) → with_sides w h ≡ o → is_some o ≡ true → (width_log2 (unwrap_or o other) ≡ w) × (height_log2 (unwrap_or o other) ≡ h)
sides_there w h None other e s = cc
sides_there w h (Some size) other e s = sides_of w h size e

pub halved_down : (cs : ChromaSampling) → ydec_of cs < 2
halved_down Cs420 = omega arith
halved_down Cs422 = omega arith
halved_down Cs444 = omega arith
halved_down Cs400 = omega arith

-- a block has a size in each plane, whose sides are halved as the plane's, but not below 4
size_sides : (t : Tile) (plane : ℕ) (size : BlockSize) → has_chroma_size (sampling t) size ≡ true →
    (width_log2 (size_in t plane size) - 2 ≡ width_log2 size - 2 - xdec_in t plane) × (height_log2 (size_in t plane size) - 2 ≡ height_log2 size - 2 - ydec_in t plane)
unfolding has_chroma_size
size_sides t plane size h =
    let xdec = xdec_of (sampling t) in
    let ydec = ydec_of (sampling t) in
    let chroma = unwrap_or (subsampled_size_of size xdec ydec) size in
    let s = sides_there (max (width_log2 size - xdec) 2) (max (height_log2 size - ydec) 2) (subsampled_size_of size xdec ydec) size refl h in
    elim (plane == 0) as (λ luma. (width_log2 (if luma then size else chroma) - 2 ≡ width_log2 size - 2 - (if luma then 0 else xdec)) × (height_log2 (if luma then size else chroma) - 2 ≡ height_log2 size - 2 - (if luma then 0 else ydec))) [
      | true ↦ (omega arith, omega arith)
      | false ↦ (omega (arith, s.0), omega (arith, s.1))
    ]

-- no side of a transform is longer than its block's in the plane
tx_within : (t : Tile) (plane : ℕ) (b : CurrentBlock) → IsKept t → t.current ≡ Some b →
    let size = size_in t plane (size_of_block b) in (tx_width_log2 (tx_in t plane b) ≤ width_log2 size) × (tx_height_log2 (tx_in t plane b) ≤ height_log2 size)
tx_within t plane b k e =
    let whole = size_of_block b in
    let chroma = unwrap_or (subsampled_size_of whole (xdec_of (sampling t)) (ydec_of (sampling t))) whole in
    let luma = k.entered b e in
    elim (plane == 0) as (λ is_luma.
    let size = if is_luma then whole else chroma in
    let tx = if is_luma then (grid_block t b).txsize else coded_size (max_tx_size size) in
    (tx_width_log2 tx ≤ width_log2 size) × (tx_height_log2 tx ≤ height_log2 size)) [
      | true ↦ (luma.3, luma.4)
      | false ↦ (let c = coded_sides (max_tx_size chroma) in let m = largest_sides chroma in (omega (arith, c.0, m.0), omega (arith, c.1, m.1)))
    ]

-- where a place is whole steps behind the beginning of a block of at most 64 and within it, what is as long as a step lies in the superblock's part of a plane
along : (n d a bx x : ℕ) → n ≤ 4 → d ≤ 1 → a ≤ n - d → bx % 2 ^ n ≡ 0 → bx ≤ x → x - bx < 2 ^ (n - d) * 2 ^ d → (x - bx) % (2 ^ a * 2 ^ d) ≡ 0 → x % 16 / 2 ^ d + 2 ^ a ≤ 16 / 2 ^ d
along zero zero zero bx x hn hd ha al from near step = omega (arith, al, from, near, step)
along zero zero (suc a) bx x hn hd ha al from near step = absurd (omega (arith, ha))
along zero (suc zero) zero bx x hn hd ha al from near step = omega (arith, al, from, near, step)
along zero (suc zero) (suc a) bx x hn hd ha al from near step = absurd (omega (arith, ha))
along zero (suc (suc d)) a bx x hn hd ha al from near step = absurd (omega (arith, hd))
along (suc zero) zero zero bx x hn hd ha al from near step = omega (arith, al, from, near, step)
along (suc zero) zero (suc zero) bx x hn hd ha al from near step = omega (arith, al, from, near, step)
along (suc zero) zero (suc (suc a)) bx x hn hd ha al from near step = absurd (omega (arith, ha))
along (suc zero) (suc zero) zero bx x hn hd ha al from near step = omega (arith, al, from, near, step)
along (suc zero) (suc zero) (suc a) bx x hn hd ha al from near step = absurd (omega (arith, ha))
along (suc zero) (suc (suc d)) a bx x hn hd ha al from near step = absurd (omega (arith, hd))
along (suc (suc zero)) zero zero bx x hn hd ha al from near step = omega (arith, al, from, near, step)
along (suc (suc zero)) zero (suc zero) bx x hn hd ha al from near step = omega (arith, al, from, near, step)
along (suc (suc zero)) zero (suc (suc zero)) bx x hn hd ha al from near step = omega (arith, al, from, near, step)
along (suc (suc zero)) zero (suc (suc (suc a))) bx x hn hd ha al from near step = absurd (omega (arith, ha))
along (suc (suc zero)) (suc zero) zero bx x hn hd ha al from near step = omega (arith, al, from, near, step)
along (suc (suc zero)) (suc zero) (suc zero) bx x hn hd ha al from near step = omega (arith, al, from, near, step)
along (suc (suc zero)) (suc zero) (suc (suc a)) bx x hn hd ha al from near step = absurd (omega (arith, ha))
along (suc (suc zero)) (suc (suc d)) a bx x hn hd ha al from near step = absurd (omega (arith, hd))
along (suc (suc (suc zero))) zero zero bx x hn hd ha al from near step = omega (arith, al, from, near, step)
along (suc (suc (suc zero))) zero (suc zero) bx x hn hd ha al from near step = omega (arith, al, from, near, step)
along (suc (suc (suc zero))) zero (suc (suc zero)) bx x hn hd ha al from near step = omega (arith, al, from, near, step)
along (suc (suc (suc zero))) zero (suc (suc (suc zero))) bx x hn hd ha al from near step = omega (arith, al, from, near, step)
along (suc (suc (suc zero))) zero (suc (suc (suc (suc a)))) bx x hn hd ha al from near step = absurd (omega (arith, ha))
along (suc (suc (suc zero))) (suc zero) zero bx x hn hd ha al from near step = omega (arith, al, from, near, step)
along (suc (suc (suc zero))) (suc zero) (suc zero) bx x hn hd ha al from near step = omega (arith, al, from, near, step)
along (suc (suc (suc zero))) (suc zero) (suc (suc zero)) bx x hn hd ha al from near step = omega (arith, al, from, near, step)
along (suc (suc (suc zero))) (suc zero) (suc (suc (suc a))) bx x hn hd ha al from near step = absurd (omega (arith, ha))
along (suc (suc (suc zero))) (suc (suc d)) a bx x hn hd ha al from near step = absurd (omega (arith, hd))
along (suc (suc (suc (suc zero)))) zero zero bx x hn hd ha al from near step = omega (arith, al, from, near, step)
along (suc (suc (suc (suc zero)))) zero (suc zero) bx x hn hd ha al from near step = omega (arith, al, from, near, step)
along (suc (suc (suc (suc zero)))) zero (suc (suc zero)) bx x hn hd ha al from near step = omega (arith, al, from, near, step)
along (suc (suc (suc (suc zero)))) zero (suc (suc (suc zero))) bx x hn hd ha al from near step = omega (arith, al, from, near, step)
along (suc (suc (suc (suc zero)))) zero (suc (suc (suc (suc zero)))) bx x hn hd ha al from near step = omega (arith, al, from, near, step)
along (suc (suc (suc (suc zero)))) zero (suc (suc (suc (suc (suc a))))) bx x hn hd ha al from near step = absurd (omega (arith, ha))
along (suc (suc (suc (suc zero)))) (suc zero) zero bx x hn hd ha al from near step = omega (arith, al, from, near, step)
along (suc (suc (suc (suc zero)))) (suc zero) (suc zero) bx x hn hd ha al from near step = omega (arith, al, from, near, step)
along (suc (suc (suc (suc zero)))) (suc zero) (suc (suc zero)) bx x hn hd ha al from near step = omega (arith, al, from, near, step)
along (suc (suc (suc (suc zero)))) (suc zero) (suc (suc (suc zero))) bx x hn hd ha al from near step = omega (arith, al, from, near, step)
along (suc (suc (suc (suc zero)))) (suc zero) (suc (suc (suc (suc a)))) bx x hn hd ha al from near step = absurd (omega (arith, ha))
along (suc (suc (suc (suc zero)))) (suc (suc d)) a bx x hn hd ha al from near step = absurd (omega (arith, hd))
along (suc (suc (suc (suc (suc n))))) d a bx x hn hd ha al from near step = absurd (omega (arith, hn))

-- the same of powers that are told by other numbers
along_side : (side size tx d begin x : ℕ) → side ≤ 6 → d < 2 → size - 2 ≡ side - 2 - d → tx ≤ size → begin % 2 ^ (side - 2) ≡ 0 → is_whole_steps begin (2 ^ (size - 2) * 2 ^ d) (2 ^ (tx - 2) * 2 ^ d) x ≡ true →
    x % 16 / 2 ^ d + 2 ^ (tx - 2) ≤ 16 / 2 ^ d
along_side side size tx d begin x few halved plane small aligned at =
    let w = both _ _ at in
    let v = both _ _ w.0 in
    let from : begin ≤ x = is_at_most _ _ v.0 in
    let near : x - begin < 2 ^ (size - 2) * 2 ^ d = grind (arith, nat_tests, v.1) in
    let step : (x - begin) % (2 ^ (tx - 2) * 2 ^ d) ≡ 0 = grind (arith, nat_tests, w.1) in
    along (side - 2) d (tx - 2) begin x (omega (arith, few)) (omega (arith, halved)) (omega (arith, plane, small)) aligned from (subst (λ n. x - begin < 2 ^ n * 2 ^ d) plane near) step

-- what coefficients that may be asked for have
pub record IsAsked (t : Tile) (b : CurrentBlock) (plane : ℕ) (bo : BlockOffset) : Type 0 where
  pub inside : is_inside t bo ≡ true
  pub there : has_coeffs t b plane ≡ true
  pub at : is_transform t b plane bo ≡ true

pub is_asked_for : (t : Tile) (b : CurrentBlock) (plane : ℕ) (bo : BlockOffset) → holds (coeffs_asking t (Some b) plane bo) ≡ true → IsAsked t b plane bo
is_asked_for t b plane bo h =
    let all = all_hold (coeffs_asking t (Some b) plane bo) (none_is _ h) in
    let two = both _ _ all.1.1.0 in
    record { inside = all.0; there = two.0; at = two.1 }

is_less_than : (n m : ℕ) → nat_lt n m ≡ true → n < m
is_less_than n m h = grind (arith, nat_tests)

-- how often a plane's sides are halved
pub few_halvings : (dec plane : ℕ) → dec < 2 → halvings dec plane < 2
few_halvings dec plane h = elim (nat_eq plane 0) as (λ b. (if b then 0 else dec) < 2) [ true ↦ omega arith | false ↦ h ]

pub transform_fits : (t : Tile) (b : CurrentBlock) (plane : ℕ) (bo : BlockOffset) → IsKept t → t.current ≡ Some b → IsAsked t b plane bo → IsTransform (sampling t) plane bo (tx_in t plane b)
transform_fits t b plane bo k e asked =
    let at = k.current b e in
    let size = size_in t plane (size_of_block b) in
    let sides = size_sides t plane (size_of_block b) (k.coded b e) in
    let tx = tx_within t plane b k e in
    let steps = both _ _ asked.at in
    record {
      plane_is = is_less_than _ _ (both _ _ (both _ _ asked.there).0).0;
      columns = along_side (width_log2 (size_of_block b)) (width_log2 size) (tx_width_log2 (tx_in t plane b)) (xdec_in t plane) (place_of_block b).x bo.x at.width (few_halvings (xdec_of (sampling t)) plane (halved_once (sampling t))) sides.0 tx.0 at.aligned.0 steps.0;
      rows = along_side (height_log2 (size_of_block b)) (height_log2 size) (tx_height_log2 (tx_in t plane b)) (ydec_in t plane) (place_of_block b).y bo.y at.height (few_halvings (ydec_of (sampling t)) plane (halved_down (sampling t))) sides.1 tx.1 at.aligned.1 steps.1;
    }

-- contexts of transform blocks are few
luma_few : (a b c d e f : Bool) → (if a then 0 else (if b then 1 else (if c then (if d then 3 else 2) else (if e then 4 else (if f then 5 else 6))))) < 7
luma_few true b c d e f = omega arith
luma_few false true c d e f = omega arith
luma_few false false true true e f = omega arith
luma_few false false true false e f = omega arith
luma_few false false false d true f = omega arith
luma_few false false false d false true = omega arith
luma_few false false false d false false = omega arith

chroma_few : (a b c : Bool) → (if a then 10 else 7) + (if b then 1 else 0) + (if c then 1 else 0) < 13
chroma_few true true true = omega arith
chroma_few true true false = omega arith
chroma_few true false true = omega arith
chroma_few true false false = omega arith
chroma_few false true true = omega arith
chroma_few false true false = omega arith
chroma_few false false true = omega arith
chroma_few false false false = omega arith

signs_few : (a b : Bool) → (if a then 1 else (if b then 2 else 0)) < 3
signs_few true b = omega arith
signs_few false true = omega arith
signs_few false false = omega arith

either_few : (luma : Bool) (l c : ℕ) → l < 7 → c < 13 → (if luma then l else c) < 13
either_few true l c h g = omega (arith, h)
either_few false l c h g = g

context_few : (plane : ℕ) (size : BlockSize) (tx : TxSize) (above left : List ℕ) → ((txb_context plane size tx above left).txb_skip_ctx < 13) × ((txb_context plane size tx above left).dc_sign_ctx < 3)
context_few plane size tx above left =
    let most = max (greatest above) (greatest left) in
    let least = min (greatest above) (greatest left) in (
      either_few (nat_eq plane 0) _ _ (luma_few (has_sides size tx) (nat_eq most 0) (nat_eq least 0) (nat_lt 3 most) (nat_le most 3) (nat_le least 3)) (chroma_few (is_larger size tx) (is_any above) (is_any left)),
      signs_few _ _,
    )

-- no block of the grid has the chroma mode that is no luma mode
pub mode_is_luma : (t : Tile) (b : CurrentBlock) → IsKept t → t.current ≡ Some b → prediction_mode_number (mode_at t b) ≡ 13 → ⊥
mode_is_luma t b k e h =
    let at = k.current b e in
    let low = (fine_at t k (place_of_block b).x (place_of_block b).y at.column at.row).mode (inr (omega (arith, h))) in
    omega (arith, h, low)

-- the element of the coefficients
element_is_read : (t : Tile) (b : CurrentBlock) (plane : ℕ) (bo : BlockOffset) (given : TxType) → IsKept t → t.current ≡ Some b →
    Reads HasSymbols (coeffs_of t b plane bo given) (AreCoeffs (IsTyped plane (tx_in t plane b) (mode_at t b) t.given.fi.use_reduced_tx_set given) (type_without plane given) (coded_area (tx_in t plane b))) 70668
element_is_read t b plane bo given k e =
    let of = transform_of t b plane bo in
    let few = context_few plane of.plane_bsize of.tx_size (entries_above t.bc plane bo of.xdec of.width) (entries_left t.bc plane bo of.ydec of.height) in
    element_reads t.given.eob_by_coded plane of.tx_size of.mode t.given.fi.use_reduced_tx_set given (block_contexts t.bc plane bo of.plane_bsize of.tx_size of.xdec of.ydec of.width of.height) (scan_of t.given.scans of.tx_size)
    (λ luma h. mode_is_luma t b k e h) few.0 few.1

ends : (some : Bool) (n : ℕ) → (some || nat_lt 0 n) ≡ true → some ≡ false → 1 ≤ n
ends true n h e = cc
ends false n h e = grind (arith, nat_tests, h)

-- levels that keep their rule
pub levels_are : (most : ℕ) (levels : List ℤ) → are_levels most levels ≡ true → AreLevels most levels
levels_are most levels h =
    let two = both _ _ h in
    let first = both _ _ two.0 in
    let test = λ (level : ℤ). nat_lt (unsigned_abs level) (2 ^ 20) in
    record {
      few = is_at_most _ _ first.0;
      small = λ k l. elim (either (test (slice_index_or levels k (pos 0)))) [
        | inl e ↦ is_less_than _ _ e
        | inr e ↦ absurd (false_true (list_all_at test levels k (pos 0) l e) first.1)
      ];
      last = λ some. ends (length levels == 0) _ two.1 (let none : (length levels == 0) ≡ false = grind (arith, nat_tests, some) in none);
    }

-- what an allowed type and levels have
pub typed_are : (size : TxSize) (mode : PredictionMode) (reduced : Bool) (given : TxType) (levels : List ℤ) → has_type size mode reduced given levels ≡ true →
    (length levels ≡ 0 → given ≡ DCT_DCT) × (1 ≤ length levels → IsTrue (uses (tx_set size (is_inter mode) reduced) given))
typed_are size mode reduced given levels h = (
  λ none. is_dct given (sym (ap (λ b. if b then is_type given DCT_DCT else uses (tx_set size (is_inter mode) reduced) given) (let e : (length levels == 0) ≡ true = grind (arith, nat_tests, none) in e)) ∙ h),
  λ some. sym (ap (λ b. if b then is_type given DCT_DCT else uses (tx_set size (is_inter mode) reduced) given) (let e : (length levels == 0) ≡ false = grind (arith, nat_tests, some) in e)) ∙ h,
)

-- what an answer that keeps its rules has
pub answer_levels : (t : Tile) (b : CurrentBlock) (plane : ℕ) (given : TxType) (levels : List ℤ) → holds (coeffs_answering t (Some b) plane given levels) ≡ true → AreLevels (coded_area (tx_in t plane b)) levels
answer_levels t b plane given levels h = levels_are _ levels (all_hold (coeffs_answering t (Some b) plane given levels) (none_is _ h)).0

pub answer_type : (t : Tile) (b : CurrentBlock) (given : TxType) (levels : List ℤ) → holds (coeffs_answering t (Some b) 0 given levels) ≡ true → has_type (tx_in t 0 b) (mode_at t b) t.given.fi.use_reduced_tx_set given levels ≡ true
answer_type t b given levels h = (all_hold (coeffs_answering t (Some b) 0 given levels) (none_is _ h)).1.0

-- where there is no current block, nothing is asked for
none_asked : (t : Tile) (plane : ℕ) (bo : BlockOffset) → holds (coeffs_asking t None plane bo) ≡ true → ⊥
none_asked t plane bo h = let e : false ≡ true = (all_hold (coeffs_asking t None plane bo) (none_is _ h)).1.0 in cc

luma_is_kind : (t : Tile) (current : Option CurrentBlock) → t.current ≡ current → IsKept t → (bo : BlockOffset) → IsKind t (luma_coeffs_kind t current bo)
luma_is_kind t None e k bo =
    let kind = luma_coeffs_kind t None bo in
    record {
      reads = kind_reads kind (λ a. Unit {0}) 0 (omega arith) (λ a h g. tt) (λ h. absurd (none_asked t 0 bo h));
      fit = λ a h. tt;
      at_place = λ a. tt;
    }
luma_is_kind t (Some b) e k bo =
    let kind = luma_coeffs_kind t (Some b) bo in
    let size = tx_in t 0 b in
    let mode = mode_at t b in
    let reduced = t.given.fi.use_reduced_tx_set in
    record {
      reads = kind_reads kind (AreCoeffs (IsTyped 0 size mode reduced DCT_DCT) DCT_DCT (coded_area size)) 70668 (omega arith)
          (λ a h g. let typed = typed_are size mode reduced a.0 a.1 (answer_type t b a.0 a.1 g) in record { levels = answer_levels t b 0 a.0 a.1 g; none = typed.0; some = typed.1 })
          (λ h. element_is_read t b 0 bo DCT_DCT k e);
      fit = λ a h. (transform_fits t b 0 bo k e (is_asked_for t b 0 bo (asking_holds kind.asking (kind.answering a) h)), tt);
      at_place = λ a. (refl, tt);
    }

pub luma_coeffs_is_kind : (t : Tile) → IsKept t → (bo : BlockOffset) → IsKind t (luma_coeffs_kind t t.current bo)
luma_coeffs_is_kind t k bo = luma_is_kind t t.current refl k bo

chroma_is_kind : (t : Tile) (current : Option CurrentBlock) → t.current ≡ current → IsKept t → (plane : ℕ) (bo : BlockOffset) (given : TxType) → IsKind t (chroma_coeffs_kind t current (suc plane) bo given)
chroma_is_kind t None e k plane bo given =
    let kind = chroma_coeffs_kind t None (suc plane) bo given in
    record {
      reads = kind_reads kind (λ a. Unit {0}) 0 (omega arith) (λ a h g. tt) (λ h. absurd (none_asked t (suc plane) bo h));
      fit = λ a h. tt;
      at_place = λ a. tt;
    }
chroma_is_kind t (Some b) e k plane bo given =
    let kind = chroma_coeffs_kind t (Some b) (suc plane) bo given in
    let size = tx_in t (suc plane) b in
    let AreAll = AreCoeffs (λ u. u ≡ given) given (coded_area size) in
    record {
      reads = kind_reads kind (AreLevels (coded_area size)) 70668 (omega arith) (λ levels h g. answer_levels t b (suc plane) given levels g)
          (λ h. renamed_reads HasSymbols (coeffs_of t b (suc plane) bo given) (λ a. a.1) (λ levels. (given, levels)) AreAll (AreLevels (coded_area size)) 70668
          (λ levels are. (record { levels = are; none = λ none. refl; some = λ some. refl }, refl))
          (λ a are. (are.levels, only_given given a (coded_area size) are))
          (element_is_read t b (suc plane) bo given k e));
      fit = λ levels h. (transform_fits t b (suc plane) bo k e (is_asked_for t b (suc plane) bo (asking_holds kind.asking (kind.answering levels) h)), tt);
      at_place = λ a. (refl, tt);
    }
  where
    only_given : (given : TxType) (a : TxType × List ℤ) (most : ℕ) → AreCoeffs (λ u. u ≡ given) given most a → (given, a.1) ≡ a
    only_given given (u, []) most are = λ i. (sym (are.none refl) i, [])
    only_given given (u, level ∷ levels) most are = λ i. (sym (are.some (omega arith)) i, level ∷ levels)

pub chroma_coeffs_is_kind : (t : Tile) → IsKept t → (plane : ℕ) (bo : BlockOffset) (given : TxType) → IsKind t (chroma_coeffs_kind t t.current (suc plane) bo given)
chroma_coeffs_is_kind t k plane bo given = chroma_is_kind t t.current refl k plane bo given
