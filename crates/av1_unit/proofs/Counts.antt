-- How many tiles there are, and how long they are.
use Rattle.std.proofs.Common.{◌≡◌, ℕ, ◌+◌, ◌^◌, ◌<◌, ◌≤◌, ◌++◌, List, [], ◌∷◌, length, get_or, refl, ◌∙◌, ap, arith}
use Rattle.std.proofs.lemmas.List.{get_or-map, length-map}
use Rattle.std.proofs.lemmas.List.FromFn.{get_or-enumerate_from, length-enumerate_from}
use Rattle.std.proofs.lemmas.Nat.{mul-le}
use Rattle.av1_frame.specs.FrameRules.{coding_rules, frame_rules}
use Rattle.av1_frame.specs.HeaderRules.{header_rules}
use Rattle.av1_frame.specs.TileRules.{tile_rules, tiling_fits, tiling_of}
use Rattle.av1_header.proofs.RulesFit.{all_hold, both, first_hold, is_at_most, is_below, later_hold}
use Rattle.av1_model.specs.Interval.{final_bytes}
use Rattle.av1_tile.specs.declared.report.TileReport.{TileReport}
use Rattle.av1_step.specs.Given.{Given, tile_count, IsGiven}
use Rattle.av1_tile.specs.TileBytes.{ending, tile_report}
use Rattle.av1_unit.specs.Checked.{IsChecked}
use Rattle.av1_unit.specs.Coded.{Numbered, numbered, tiles_of, told_of}
use Rattle.av1_unit.specs.Lengths.{HasLengths}
use Rattle.av1_unit.specs.Plain.{PlainUnit}

-- a frame has 64 columns and 64 rows of tiles at most
pub few_tiles : (g : Given) → IsGiven g → tile_count g.fi ≤ 2 ^ 12
unfolding tile_rules tiling_fits
few_tiles g given =
    let h = all_hold (frame_rules g.fi g.fs g.refs) given.frame in
    let later = later_hold (header_rules g.fi g.refs) (tile_rules g.fi g.fs ++ coding_rules g.fi g.fs) h.1 in
    let tile = first_hold (tile_rules g.fi g.fs) (coding_rules g.fi g.fs) later in
    let two = both _ _ (both _ _ (both _ _ tile.0).1).0 in
    let t = tiling_of g.fi in
    omega (arith, mul-le t.cols t.rows 64 64 (is_at_most _ _ two.0) (is_at_most _ _ two.1))

-- and one at least
pub one_tile : (g : Given) → IsGiven g → 1 ≤ tile_count g.fi
unfolding tile_rules
one_tile g given =
    let h = all_hold (frame_rules g.fi g.fs g.refs) given.frame in
    let later = later_hold (header_rules g.fi g.refs) (tile_rules g.fi g.fs ++ coding_rules g.fi g.fs) h.1 in
    let tile = first_hold (tile_rules g.fi g.fs) (coding_rules g.fi g.fs) later in
    omega (arith, is_below _ _ tile.1.0)

pub length-told : (g : Given) (scripts : List Numbered) → length (told_of g scripts) ≡ length scripts
unfolding told_of
length-told g scripts = length-map scripts (λ s. tile_report g s.0 s.1)

pub length-tiles : (g : Given) (scripts : List Numbered) → length (tiles_of g scripts) ≡ length scripts
unfolding tiles_of
length-tiles g scripts = length-map scripts (λ s. final_bytes (ending g s.0 s.1))

pub few_told : (u : PlainUnit) → IsChecked u → length (told_of u.given (numbered u)) ≤ 2 ^ 20
few_told u checked = omega (arith, length-told u.given (numbered u), length-enumerate_from 0 u.scripts, checked.scripts, few_tiles u.given checked.given)

-- each tile has the length that is told of it
pub told_lengths : (g : Given) (scripts : List Numbered) → HasLengths (tiles_of g scripts) (told_of g scripts)
unfolding tiles_of told_of
told_lengths g [] = refl
told_lengths g (s ∷ scripts) = ap (λ l. length (final_bytes (ending g s.0 s.1)) ∷ l) (told_lengths g scripts)

pub told_count : (u : PlainUnit) → length (told_of u.given (numbered u)) ≡ length u.scripts
told_count u = length-told u.given (numbered u) ∙ length-enumerate_from 0 u.scripts

-- what is told of tile k
pub told_at : (u : PlainUnit) (k : ℕ) (d : TileReport) → k < length u.scripts → get_or (told_of u.given (numbered u)) k d ≡ tile_report u.given k (get_or u.scripts k [])
unfolding told_of
told_at u k d within =
    let count : length (numbered u) ≡ length u.scripts = length-enumerate_from 0 u.scripts in
    get_or-map (λ s. tile_report u.given s.0 s.1) (numbered u) k (0, []) d (omega (arith, count, within)) ∙ ap (λ (s : Numbered). tile_report u.given s.0 s.1) (get_or-enumerate_from 0 u.scripts k (0, []) within)
    ∙ ap (λ n. tile_report u.given n (get_or u.scripts k [])) (plus_none k)
  where
    plus_none : (n : ℕ) → 0 + n ≡ n
    plus_none n = omega arith

-- a frame has a tile
pub some_tiles : (u : PlainUnit) → IsChecked u → 1 ≤ length (tiles_of u.given (numbered u))
some_tiles u checked = omega (arith, length-tiles u.given (numbered u), length-enumerate_from 0 u.scripts, checked.scripts, one_tile u.given checked.given)
