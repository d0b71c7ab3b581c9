-- What the kinds of step for filters, segments and palettes bring.
use Rattle.std.proofs.Common.{◌≡◌, ℕ, ◌+◌, ◌^◌, ◌<◌, ◌≤◌, ◌++◌, ◌&&◌, Bool, true, false, not, None, nat_lt, refl, arith, inl}
use Rattle.std.specs.Option.{option_map_or}
use Rattle.std.proofs.lemmas.Bool.Decides.{nat_tests}
use Rattle.av1_cdf.specs.Distribution.{HasSymbols}
use Rattle.av1_frame.specs.FilterRules.{cdef_fits}
use Rattle.av1_frame.specs.FrameRules.{frame_rules, coding_rules}
use Rattle.av1_frame.specs.HeaderRules.{header_rules}
use Rattle.av1_frame.specs.Tests.{implies}
use Rattle.av1_frame.specs.TileRules.{tile_rules}
use Rattle.av1_geometry.specs.Rules.{first_broken}
use Rattle.av1_model.specs.Element.{Reads}
use Rattle.av1_model.proofs.ElementLaws.{reads_as}
use Rattle.av1_geometry.specs.BlockSize.{number_of}
use Rattle.av1_syntax.specs.Palette.{is_dc}
use Rattle.av1_syntax.specs.Literals.{literal}
use Rattle.av1_syntax.proofs.Elements.{filter_intra_reads, palette_reads}
use Rattle.av1_syntax.proofs.Readings.{literals_read}
use Rattle.av1_step.specs.FilterSteps.{cdef_kind, filter_intra_kind, palette_kind}
use Rattle.av1_step.specs.IntraSteps.{mode_at, has_chroma}
use Rattle.av1_step.specs.Given.{IsGiven}
use Rattle.av1_step.specs.Kept.{IsBlock, IsKept}
use Rattle.av1_step.specs.Kind.{holds, rules_of, IsKind}
use Rattle.av1_step.specs.Tile.{Tile, CurrentBlock, place_of_block, size_of_block}
use Rattle.av1_step.proofs.Effects.{still_sound}
use Rattle.av1_step.proofs.KindLaws.{kind_reads, none_is}
use Rattle.av1_step.proofs.Places.{AllHold, all_hold, later_hold, both, is_at_most}

below : (n m : ℕ) → nat_lt n m ≡ true → n < m
below n m h = grind (arith, nat_tests)

implied : (a b : Bool) → a ≡ true → implies a b ≡ true → b ≡ true
implied true b e h = h
implied false b e h = cc

-- the rules of what is coded behind the tiles hold
pub coding_hold : (t : Tile) → IsGiven t.given → AllHold (coding_rules t.given.fi t.given.fs)
unfolding tile_rules
coding_hold t k =
    let fi = t.given.fi in
    let fs = t.given.fs in
    let h = all_hold (frame_rules fi fs t.given.refs) k.frame in
    later_hold (tile_rules fi fs) (coding_rules fi fs) (later_hold (header_rules fi t.given.refs) (tile_rules fi fs ++ coding_rules fi fs) h.1)

-- where the filter is there, its indices have at most three bits
pub cdef_few : (t : Tile) → IsGiven t.given → t.given.fi.sequence.enable_cdef ≡ true → t.given.fi.cdef_bits ≤ 3
unfolding cdef_fits coding_rules
cdef_few t k on =
    let h : cdef_fits t.given.fi ≡ true = (coding_hold t k).1.1.1.0 in
    is_at_most _ _ (both _ _ (both _ _ (both _ _ (implied _ _ on h)).0).0).1

-- what an allowed index has
pub cdef_allowed : (t : Tile) (b : CurrentBlock) (i : ℕ) → IsKept t → first_broken (rules_of (cdef_kind t b) i) ≡ None → (t.given.fi.cdef_bits ≤ 3) × (i < 2 ^ t.given.fi.cdef_bits)
cdef_allowed t b i k h = let all = all_hold (rules_of (cdef_kind t b) i) h in (cdef_few t k.given all.1.0, below i _ all.1.1.0)

-- a number of at most so many bits
literal_reads : (bits most : ℕ) → bits ≤ most → Reads HasSymbols (literal bits) (λ v. v < 2 ^ bits) most
literal_reads bits most h = reads_as HasSymbols (literal bits) (λ v. v < 2 ^ bits) (λ v. v < 2 ^ bits) bits most (λ v l. l) (λ v l. l) h (literals_read bits)

pub cdef_is_kind : (t : Tile) (b : CurrentBlock) → IsKept t → IsBlock t.bc.blocks.cols t.bc.blocks.rows (place_of_block b) (size_of_block b) → IsKind t (cdef_kind t b)
cdef_is_kind t b k h =
    let few = λ (g : holds (cdef_kind t b).asking ≡ true). cdef_few t k.given (all_hold (cdef_kind t b).asking (none_is _ g)).1.0 in
    record {
      reads = kind_reads (cdef_kind t b) (λ i. i < 2 ^ t.given.fi.cdef_bits) 3 (omega arith) (λ i g r. below i _ (all_hold ((cdef_kind t b).answering i) (none_is _ r)).0)
          (λ g. literal_reads t.given.fi.cdef_bits 3 (few g));
      fit = λ i g. ((h, λ x like fine. record { mode = fine.mode; segment = fine.segment; sound = still_sound x x.skip i x.segmentation_idx x.deblock_deltas x.txsize fine.sound }, λ c is x e. e, λ c is. inl (λ x. refl)), (tt, tt));
      at_place = λ i. (refl, (tt, tt));
    }

pub filter_intra_is_kind : (t : Tile) (b : CurrentBlock) → IsBlock t.bc.blocks.cols t.bc.blocks.rows (place_of_block b) (size_of_block b) → IsKind t (filter_intra_kind t b)
filter_intra_is_kind t b h = record {
  reads = kind_reads (filter_intra_kind t b) (λ on. Unit {0}) 1 (omega arith) (λ on g r. tt) (λ g. filter_intra_reads (size_of_block b));
  fit = λ on g. tt;
  at_place = λ on. tt;
}

off : (on : Bool) → not on ≡ true → on ≡ false
off true h = cc
off false h = refl

-- what an allowed answer has
pub palette_allowed : (t : Tile) (b : CurrentBlock) (on : Bool) → first_broken (rules_of (palette_kind t b) on) ≡ None → (on ≡ false) × (3 ≤ number_of (size_of_block b))
palette_allowed t b on h = let all = all_hold (rules_of (palette_kind t b) on) h in (off on all.1.1.1.0, is_at_most _ _ (both _ _ (both _ _ all.1.1.0).0).1)

pub palette_is_kind : (t : Tile) (b : CurrentBlock) → IsBlock t.bc.blocks.cols t.bc.blocks.rows (place_of_block b) (size_of_block b) → IsKind t (palette_kind t b)
palette_is_kind t b h =
    let luma = is_dc (mode_at t b) in
    record {
      reads = kind_reads (palette_kind t b) (λ on. on ≡ false) 2 (omega arith) (λ on g r. off on (all_hold ((palette_kind t b).answering on) (none_is _ r)).0)
          (λ g.
          palette_reads luma (has_chroma t b && option_map_or is_dc t.uv false) (size_of_block b) (is_at_most _ _ (both _ _ (both _ _ (all_hold (palette_kind t b).asking (none_is _ g)).1.1.0).0).1) h.width h.height);
      fit = λ on g. tt;
      at_place = λ on. tt;
    }
