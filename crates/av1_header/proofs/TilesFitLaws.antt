-- A frame whose tiles keep their rules has numbers of tiles that a header can say.
use Rattle.std.proofs.Common.{◌≡◌, ℕ, zero, suc, ◌+◌, ◌-◌, ◌*◌, ◌/◌, ◌%◌, ◌^◌, ◌<◌, ◌≤◌, min, Bool, true, false, nat_le, subst, sym, ap, refl, arith, inl, inr, lit<}
use Rattle.std.specs.Prelude.{◌&&◌, if◌then◌else◌}
use Rattle.std.specs.Int.{div_ceil}
use Rattle.std.proofs.Math.Nat.{mul-le-mul_left, pow-le-pow_right}
use Rattle.std.proofs.lemmas.Bool.{cases_lt}
use Rattle.std.proofs.lemmas.Bool.Decides.{nat_tests}
use Rattle.std.proofs.lemmas.Grind.{div_ceil_times}
use Rattle.std.proofs.lemmas.Nat.{pow-add}
use Rattle.av1_frame.specs.TileRules.{tiles_fit, tiling_fits, context_tile_fits}
use Rattle.av1_frame.specs.Tiling.{doublings, least_log2, tiling, is_uniform, tallest_tile}
use Rattle.av1_frame.specs.declared.frame.FrameInvariants.{FrameInvariants}
use Rattle.av1_frame.specs.declared.state.FrameState.{FrameState}
use Rattle.av1_header.specs.FrameHeader.{superblocks}
use Rattle.av1_header.specs.SequenceHeader.{SidesFit}
use Rattle.av1_header.specs.Tiles.{TilingFits, TilesFit, tiles_with}
use Rattle.av1_header.proofs.RulesFit.{both, is_at_most, is_below}
use Rattle.av1_header.proofs.TileLoops.{log2_reaches}

doublings_least : (n size target : ℕ) → 1 ≤ doublings n size target → size * 2 ^ (doublings n size target - 1) < target
doublings_least zero size target some = absurd (omega arith)
doublings_least (suc n) size target some = elim (cases_lt size target) [
  | inl less ↦
      let more : nat_le target size ≡ false = grind (arith, nat_tests) in
      let d = doublings n (size * 2) target in
      let goes : size * 2 ^ (suc d - 1) < target = elim (cases_lt 0 d) [
        | inl further ↦
            let h : size * 2 * 2 ^ (d - 1) < target = doublings_least n (size * 2) target (omega (arith, further)) in
            let e : 2 ^ (d - 1 + 1) ≡ 2 ^ (d - 1) * 2 = pow-add 2 (d - 1) 1 in
            let same : suc d - 1 ≡ d - 1 + 1 = omega (arith, further) in
            let next : size * 2 ^ (d - 1 + 1) < target = omega (arith, h, ap (λ x. size * x) e) in
            subst (λ k. size * 2 ^ k < target) (sym same) next
        | inr last ↦
            let same : suc d - 1 ≡ 0 = omega (arith, last) in
            subst (λ k. size * 2 ^ k < target) (sym same) (omega (arith, less))
      ] in
      subst (λ b. size * 2 ^ ((if b then 0 else suc d) - 1) < target) (sym more) goes
  | inr enough ↦
      let done : nat_le target size ≡ true = grind (arith, nat_tests) in
      absurd (omega (arith, subst (λ b. 1 ≤ (if b then 0 else suc (doublings n (size * 2) target))) done some))
]

-- a power of two below another has the lower exponent
lower_power : (i j : ℕ) → 2 ^ i < 2 ^ j → i < j
lower_power i j less = elim (cases_lt i j) [ inl l ↦ l | inr g ↦ absurd (omega (arith, less, pow-le-pow_right {n = 2} (omega arith) {i = j} {j = i} g)) ]

-- fewer doublings reach less
pub log2_order : (s a b : ℕ) → 0 < s → a ≤ s * b → least_log2 s a ≤ least_log2 1 b
unfolding least_log2
log2_order s a b some within =
    let k = doublings a s a in
    elim (cases_lt 0 k) [
      | inl more ↦
          let h : s * 2 ^ (k - 1) < a = doublings_least a s a (omega (arith, more)) in
          let reach : b ≤ 2 ^ least_log2 1 b = log2_reaches b in
          let scaled : s * b ≤ s * 2 ^ least_log2 1 b = mul-le-mul_left s reach in
          let less : 2 ^ (k - 1) < 2 ^ least_log2 1 b = elim (cases_lt (2 ^ (k - 1)) (2 ^ least_log2 1 b)) [
            | inl l ↦ l
            | inr g ↦ absurd (omega (arith, h, within, scaled, mul-le-mul_left s g))
          ] in
          omega (arith, more, lower_power (k - 1) (least_log2 1 b) less)
      | inr none ↦ omega (arith, none)
    ]

-- there are no more tiles than superblocks along a side, and so many of at most 64 that they hold the side
few_tiles : (side tile : ℕ) → 1 ≤ tile → div_ceil side tile ≤ side
few_tiles side tile some =
    let d = side / tile + min 1 (side % tile) in
    let two = div_ceil_times side tile (let p : 0 < tile = omega arith in p) in
    elim (cases_lt side d) [
      | inl more ↦ absurd (omega (arith, two.1, mul-le-mul_left tile (let h : side + 1 ≤ d = omega arith in h), mul-le-mul_left side some))
      | inr few ↦ few
    ]

enough_tiles : (side tile : ℕ) → 1 ≤ tile → tile ≤ 64 → side ≤ 64 * div_ceil side tile
enough_tiles side tile some few =
    let d = side / tile + min 1 (side % tile) in
    let two = div_ceil_times side tile (let p : 0 < tile = omega arith in p) in
    omega (arith, two.0, mul-le-mul_left d few)

if_true : (b x y : Bool) → (if b then x else y) ≡ true → b ≡ true → x ≡ true
if_true b x y h e = subst (λ c. (if c then x else y) ≡ true) e h

if_false : (b x y : Bool) → (if b then x else y) ≡ true → b ≡ false → y ≡ true
if_false b x y h e = subst (λ c. (if c then x else y) ≡ true) e h

pub tiling_within : (w h tw th : ℕ) → (1 ≤ w) × (w ≤ 1024) → (1 ≤ h) × (h ≤ 1024) → (1 ≤ tw) × (tw ≤ w) × (tw ≤ 64) → (1 ≤ th) × (th ≤ h) → tiling_fits (tiling w h tw th) ≡ true → TilingFits (tiling w h tw th)
unfolding tiling tiling_fits
tiling_within w h tw th width height tile_width tile_height fits =
    let t = tiling w h tw th in
    let even = nat_le t.min_tile_rows_log2 t.tile_rows_log2 in
    let said = nat_le t.tile_height_sb (tallest_tile t) in
    let all = both (nat_le t.cols 64 && nat_le t.rows 64) (if is_uniform t then even else said) fits in
    let counts = both (nat_le t.cols 64) (nat_le t.rows 64) all.0 in
    let few_cols : div_ceil w tw ≤ 64 = is_at_most _ _ counts.0 in
    let few_rows : div_ceil h th ≤ 64 = is_at_most _ _ counts.1 in
    let across : div_ceil w tw ≤ min w 64 = omega (arith, few_tiles w tw tile_width.0, few_cols) in
    let down : div_ceil h th ≤ min h 64 = omega (arith, few_tiles h th tile_height.0, few_rows) in
    let one : 0 < 1 = lit< tt in
    record {
      made = refl;
      width = width;
      height = height;
      tile_width = tile_width;
      tile_height = tile_height;
      few = (is_at_most _ _ counts.0, is_at_most _ _ counts.1);
      cols = (log2_order 64 w (div_ceil w tw) (lit< tt) (enough_tiles w tw tile_width.0 tile_width.2), log2_order 1 (div_ceil w tw) (min w 64) one (omega (arith, across)));
      rows = log2_order 1 (div_ceil h th) (min h 64) one (omega (arith, down));
      even = λ e. is_at_most _ _ (if_true (is_uniform t) even said all.1 e);
      tall = λ e. is_at_most _ _ (if_false (is_uniform t) even said all.1 e);
    }

pub tiles_within : (fi : FrameInvariants) (fs : FrameState) → SidesFit fi → tiles_fit fi ≡ true → context_tile_fits fs (tiling (superblocks fi.width) (superblocks fi.height) fi.tile_width_sb fi.tile_height_sb) ≡ true →
    (1 ≤ fs.max_tile_size_bytes) × (fs.max_tile_size_bytes ≤ 4) → TilesFit (tiles_with (tiling (superblocks fi.width) (superblocks fi.height) fi.tile_width_sb fi.tile_height_sb) fs)
tiles_within fi fs sides fits id bytes =
    let all = both _ _ fits in
    let tile = both _ _ all.0 in
    let two = both _ _ tile.0 in
    let across = both _ _ two.0 in
    let down = both _ _ two.1 in
    record {
      tiling = tiling_within _ _ _ _ (omega (arith, sides.0, sides.1), omega (arith, sides.0, sides.1)) (omega (arith, sides.2, sides.3), omega (arith, sides.2, sides.3))
          (is_at_most _ _ across.0, is_at_most _ _ across.1, is_at_most _ _ tile.1) (is_at_most _ _ down.0, is_at_most _ _ down.1) all.1;
      id = is_below _ _ id;
      bytes = bytes;
    }
