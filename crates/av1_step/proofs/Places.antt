-- What the rules of a frame say of its tiles.
use Rattle.std.proofs.Common.{◌≡◌, ℕ, zero, suc, sym, subst, ◌∙◌, ◌/◌, ◌%◌, ◌+◌, ◌++◌, ◌*◌, ◌<◌, ◌≤◌, List, [], ◌∷◌, Bool, true, false, Option, None, Some, refl, ap, arith, ◌^◌, nat_le}
use Rattle.std.proofs.lemmas.Grind.{div_ceil_times}
use Rattle.std.proofs.lemmas.Nat.{mul-le}
use Rattle.std.proofs.Math.Nat.{div-lt_iff_lt-mul, mod-lt, mul_comm}
use Rattle.std.specs.Prelude.{◌&&◌, if◌then◌else◌}
use Rattle.std.specs.Int.{div_ceil}
use Rattle.std.proofs.lemmas.Bool.Decides.{nat_tests}
use Rattle.av1_frame.specs.FrameRules.{frame_rules, coding_rules}
use Rattle.av1_frame.specs.HeaderRules.{sides_fit, header_rules}
use Rattle.av1_frame.specs.TileRules.{tile_rules, tiling_of}
use Rattle.av1_frame.specs.Tiling.{tiling}
use Rattle.av1_frame.specs.declared.frame.FrameInvariants.{FrameInvariants}
use Rattle.av1_frame.specs.declared.reference.RefState.{RefState}
use Rattle.av1_frame.specs.declared.state.FrameState.{FrameState}
use Rattle.av1_frame.specs.declared.tiling.TilingInfo.{TilingInfo}
use Rattle.av1_geometry.specs.declared.error.Rule.{Rule}
use Rattle.av1_geometry.specs.Rules.{Check, first_broken}
use Rattle.av1_step.specs.Given.{tile_count, IsCut}

-- all of these checks hold
abbrev pub AllHold : List Check → Type 0
AllHold [] = Unit {0}
AllHold (c ∷ cs) = (c.1 ≡ true) × AllHold cs

first_holds : (b : Bool) (r : Option Rule) (n : Rule) → (if b then r else Some n) ≡ None → (b ≡ true) × (r ≡ None)
first_holds true r n e = (refl, e)
first_holds false r n e = absurd cc

pub all_hold : (cs : List Check) → first_broken cs ≡ None → AllHold cs
all_hold [] e = tt
all_hold (c ∷ cs) e = let both = first_holds c.1 (first_broken cs) c.0 e in (both.0, all_hold cs both.1)

pub first_hold : (cs ds : List Check) → AllHold (cs ++ ds) → AllHold cs
first_hold [] ds h = tt
first_hold (c ∷ cs) ds h = (h.0, first_hold cs ds h.1)

pub later_hold : (cs ds : List Check) → AllHold (cs ++ ds) → AllHold ds
later_hold [] ds h = h
later_hold (c ∷ cs) ds h = later_hold cs ds h.1

pub both : (a b : Bool) → (a && b) ≡ true → (a ≡ true) × (b ≡ true)
both true b h = (refl, h)
both false b h = absurd cc

pub is_at_most : (n m : ℕ) → nat_le n m ≡ true → n ≤ m
is_at_most n m h = grind (arith, nat_tests)

-- a frame that breaks no rule is cut into tiles
pub is_cut : (fi : FrameInvariants) (fs : FrameState) (refs : List (Option RefState)) → first_broken (frame_rules fi fs refs) ≡ None → IsCut fi
unfolding sides_fit tile_rules
is_cut fi fs refs k =
    let h = all_hold (frame_rules fi fs refs) k in
    let later = later_hold (header_rules fi refs) (tile_rules fi fs ++ coding_rules fi fs) h.1 in
    let tile = first_hold (tile_rules fi fs) (coding_rules fi fs) later in
    let few = both _ _ h.0 in
    let sides = both _ _ few.0 in
    let width = both _ _ sides.0 in
    let height = both _ _ sides.1 in
    let all = both _ _ (both _ _ tile.0).0 in
    let two = both _ _ all.0 in
    let across = both _ _ two.0 in
    let down = both _ _ two.1 in
    let tall : fi.height ≤ 65536 = is_at_most _ _ height.1 in
    record {
      width = (is_at_most _ _ width.0, is_at_most _ _ width.1);
      height = (is_at_most _ _ height.0, tall);
      few = is_at_most _ _ few.1;
      tile_width = (is_at_most _ _ across.0, is_at_most _ _ all.1);
      tile_height = (is_at_most _ _ down.0, omega (arith, is_at_most _ _ down.1, tall));
    }

-- a frame has fewer than 2^20 tiles, or as many
pub few_tiles : (fi : FrameInvariants) (k : ℕ) (t : TilingInfo) → t ≡ tiling_of fi → (t.cols ≤ 1024) × (t.rows ≤ 1024) → k < tile_count fi → k < 2 ^ 20
few_tiles fi k t is few h =
    let count : t.cols * t.rows ≡ tile_count fi = ap (λ (i : TilingInfo). i.cols * i.rows) is in
    omega (arith, h, count, mul-le t.cols t.rows 1024 1024 few.0 few.1)

-- a tile begins inside the frame: one of its columns or rows, of so many superblocks, in a side
pub begins_inside : (side wide m : ℕ) → 1 ≤ wide → m < div_ceil (div_ceil side 64) wide → m * (16 * wide) < 2 * div_ceil side 8
begins_inside side wide m some h =
    let sbs = div_ceil side 64 in
    let before : m * wide < sbs = omega (arith, mul-le (m + 1) wide (div_ceil sbs wide) wide (omega (arith, h)) (omega arith), (div_ceil_times sbs wide (omega (arith, some))).1) in
    let in_side : 64 * (m * wide) < side = omega (arith, before, (div_ceil_times side 64 (omega arith)).1) in
    let even : 16 * (m * wide) < 2 * div_ceil side 8 = omega (arith, in_side, (div_ceil_times side 8 (omega arith)).0) in
    omega (arith, even)

-- of so many tiles to cover some superblocks there is one
some_of : (a n b : ℕ) → 1 ≤ a → a ≤ n * b → 1 ≤ n
some_of a zero b some h = absurd (omega (arith, some, h))
some_of a (suc n) b some h = omega arith

cols_are : (fi : FrameInvariants) → (tiling_of fi).cols ≡ div_ceil (div_ceil fi.width 64) fi.tile_width_sb
unfolding tiling
cols_are fi = refl

rows_are : (fi : FrameInvariants) → (tiling_of fi).rows ≡ div_ceil (div_ceil fi.height 64) fi.tile_height_sb
unfolding tiling
rows_are fi = refl

superblocks_some : (side : ℕ) → 1 ≤ side → 1 ≤ div_ceil side 64
superblocks_some side h = omega (arith, h, (div_ceil_times side 64 (omega arith)).0)

-- so each tile does, in both directions
pub left_inside : (fi : FrameInvariants) (k : ℕ) (t : TilingInfo) → t ≡ tiling_of fi → IsCut fi → (k % t.cols) * (16 * fi.tile_width_sb) < 2 * div_ceil fi.width 8
left_inside fi k t is cut =
    let wide = fi.tile_width_sb in
    let sbs = div_ceil fi.width 64 in
    let cols : t.cols ≡ div_ceil sbs wide = ap (λ (i : TilingInfo). i.cols) is ∙ cols_are fi in
    let some = some_of sbs (div_ceil sbs wide) wide (superblocks_some fi.width cut.width.0) (div_ceil_times sbs wide (omega (arith, cut.tile_width.0))).0 in
    begins_inside fi.width wide (k % t.cols) cut.tile_width.0 (subst (λ n. k % t.cols < n) cols (mod-lt k (omega (arith, some, cols))))

pub top_inside : (fi : FrameInvariants) (k : ℕ) (t : TilingInfo) → t ≡ tiling_of fi → IsCut fi → k < tile_count fi → (k / t.cols) * (16 * fi.tile_height_sb) < 2 * div_ceil fi.height 8
top_inside fi k t is cut h =
    let wide = fi.tile_width_sb in
    let sbs = div_ceil fi.width 64 in
    let cols : t.cols ≡ div_ceil sbs wide = ap (λ (i : TilingInfo). i.cols) is ∙ cols_are fi in
    let rows : t.rows ≡ div_ceil (div_ceil fi.height 64) fi.tile_height_sb = ap (λ (i : TilingInfo). i.rows) is ∙ rows_are fi in
    let some = some_of sbs (div_ceil sbs wide) wide (superblocks_some fi.width cut.width.0) (div_ceil_times sbs wide (omega (arith, cut.tile_width.0))).0 in
    let count : tile_count fi ≡ t.rows * t.cols = sym (ap (λ (i : TilingInfo). i.cols * i.rows) is) ∙ mul_comm t.cols t.rows in
    let below : k / t.cols < t.rows = (div-lt_iff_lt-mul {k = t.cols} {x = k} {y = t.rows} (omega (arith, some, cols))).1 (subst (λ n. k < n) count h) in
    begins_inside fi.height fi.tile_height_sb (k / t.cols) cut.tile_height.0 (subst (λ n. k / t.cols < n) rows below)
