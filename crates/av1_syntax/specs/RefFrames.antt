-- What a block refers to: one of seven frames, or one behind and one ahead in display order.
use Rattle.std.specs.Prelude.{◌≡◌, ℕ, zero, suc, ◌+◌, ◌≤◌, [], ◌∷◌, min, Bool, true, false, not}
use Rattle.std.specs.Prelude.{◌&&◌, nat_eq, nat_le, Option, Some, None, codes, slice_index_or, Result}
use Rattle.av1_blocks.specs.declared.block.Block.{Block}
use Rattle.av1_blocks.specs.declared.block_context.BlockContext.{BlockContext}
use Rattle.av1_blocks.specs.Grid.{Grid, IsFrame, block_at, over}
use Rattle.av1_cdf.specs.Distribution.{Distribution}
use Rattle.av1_cdf.specs.Layout.{Slot, slot}
use Rattle.av1_ec.specs.declared.known.Known.{Ghosts}
use Rattle.av1_geometry.specs.declared.block_offset.BlockOffset.{BlockOffset}
use Rattle.av1_geometry.specs.declared.block_size.BlockSize.TheVariants.{BLOCK_4X4}
use Rattle.av1_geometry.specs.declared.frame_type.ReferenceMode.{ReferenceMode}
use Rattle.av1_geometry.specs.declared.ref_type.RefType.{RefType}
use Rattle.av1_geometry.specs.declared.ref_type.RefType.TheVariants.{LAST_FRAME, LAST2_FRAME, LAST3_FRAME, GOLDEN_FRAME}
use Rattle.av1_geometry.specs.declared.ref_type.RefType.TheVariants.{BWDREF_FRAME, ALTREF2_FRAME, ALTREF_FRAME, NONE_FRAME}
use Rattle.av1_geometry.specs.FrameType.{reference_mode_number}
use Rattle.av1_geometry.specs.RefType.{reference_number}
use Rattle.av1_model.specs.Element.{Element, known, symbol, choose, after, renamed}
use Rattle.av1_mvref.specs.References.{count_of, counts, by_counts, comp_mode_context, comp_ref_type_context, refs_above, refs_left}
use Rattle.av1_syntax.specs.declared.context_writer.ContextWriter.{ContextWriter}
use Rattle.av1_syntax.specs.declared.ref_frames.RefContexts.{RefContexts}
use Rattle.av1_syntax.specs.Calls.{adaptive, Coded}
use Rattle.av1_syntax.specs.Decisions.{decide}
use Rattle.av1_syntax.specs.Flags.{flag_number}

-- the contexts of a block's references: which of two groups the blocks above and to the left refer to more (8.3.2)
abbrev pub contexts_at : Grid → BlockOffset → RefContexts
contexts_at g bo = record {
  side = by_counts (count_of g bo 1 + count_of g bo 2 + count_of g bo 3 + count_of g bo 4) (count_of g bo 5 + count_of g bo 6 + count_of g bo 7);
  behind = by_counts (count_of g bo 1 + count_of g bo 2) (count_of g bo 3 + count_of g bo 4);
  early = by_counts (count_of g bo 1) (count_of g bo 2);
  late = by_counts (count_of g bo 3) (count_of g bo 4);
  ahead = by_counts (count_of g bo 5 + count_of g bo 6) (count_of g bo 7);
  near = by_counts (count_of g bo 5) (count_of g bo 6);
}

pub record AreContexts (c : RefContexts) : Type 0 where
  pub side : c.side ≤ 2
  pub behind : c.behind ≤ 2
  pub early : c.early ≤ 2
  pub late : c.late ≤ 2
  pub ahead : c.ahead ≤ 2
  pub near : c.near ≤ 2

-- a reference or a later one
abbrev pub from_ref : RefType → RefType → Bool
from_ref r a = nat_le (reference_number r) (reference_number a)

-- one of the four references behind: one of the later two or not, and then which
abbrev pub behind : Slot → Slot → Slot → Element Distribution RefType
behind pair early late =
    decide (from_ref LAST3_FRAME) pair (decide (from_ref GOLDEN_FRAME) late (known GOLDEN_FRAME) (known LAST3_FRAME))
    (decide (from_ref LAST2_FRAME) early (known LAST2_FRAME) (known LAST_FRAME))

-- one of the three references ahead: the last one or not, and then which
abbrev pub ahead : Slot → Slot → Element Distribution RefType
ahead last near =
    decide (from_ref ALTREF_FRAME) last (known ALTREF_FRAME) (decide (from_ref ALTREF2_FRAME) near (known ALTREF2_FRAME) (known BWDREF_FRAME))

abbrev pub single_slot : ℕ → ℕ → Slot
single_slot decision ctx = slot (codes "single_ref_cdfs") (ctx ∷ decision ∷ [])

abbrev pub comp_slot : ℕ → ℕ → Slot
comp_slot decision ctx = slot (codes "comp_ref_cdf") (ctx ∷ decision ∷ [])

abbrev pub comp_bwd_slot : ℕ → ℕ → Slot
comp_bwd_slot decision ctx = slot (codes "comp_bwd_ref_cdf") (ctx ∷ decision ∷ [])

-- the reference of a block that has one: single_ref_p1 to single_ref_p6 of the AV1 specification
abbrev pub single_element : RefContexts → Element Distribution RefType
single_element c =
    decide (from_ref BWDREF_FRAME) (single_slot 0 c.side) (ahead (single_slot 1 c.ahead) (single_slot 5 c.near))
    (behind (single_slot 2 c.behind) (single_slot 3 c.early) (single_slot 4 c.late))

-- the references of a block that has two: comp_ref, comp_ref_p1 and comp_ref_p2, and then comp_bwdref and comp_bwdref_p1
abbrev pub forward_element : RefContexts → Element Distribution RefType
forward_element c = behind (comp_slot 0 c.behind) (comp_slot 1 c.early) (comp_slot 2 c.late)

abbrev pub backward_element : RefContexts → Element Distribution RefType
backward_element c = ahead (comp_bwd_slot 0 c.ahead) (comp_bwd_slot 1 c.near)

-- both references never lie on one side: of comp_ref_type the second value is the only one
abbrev pub both_sides_of : ℕ → Option Bool
both_sides_of zero = None
both_sides_of (suc zero) = Some true
both_sides_of (suc (suc s)) = None

abbrev pub both_sides_element : Grid → BlockOffset → Element Distribution Bool
both_sides_element g bo =
    symbol (adaptive (codes "comp_ref_type_cdf") (comp_ref_type_context (refs_above g bo) (refs_left g bo) ∷ [])) both_sides_of flag_number

abbrev pub one_element : RefContexts → Element Distribution (RefType × RefType)
one_element c = renamed (single_element c) (λ r. (r, NONE_FRAME)) (λ rs. rs.0)

abbrev pub pair_element : RefContexts → Element Distribution (RefType × RefType)
pair_element c = after (forward_element c) (λ f. renamed (backward_element c) (λ b. (f, b)) (λ rs. rs.1)) (λ rs. rs.0)

abbrev pub two_element : Grid → BlockOffset → RefContexts → Element Distribution (RefType × RefType)
two_element g bo c = after (both_sides_element g bo) (λ on. pair_element c) (λ rs. true)

-- whether there is a second reference: one of the seven
abbrev pub is_second : RefType → Bool
is_second r = nat_le 1 (reference_number r) && nat_le (reference_number r) 7

abbrev pub is_pair : RefType × RefType → Bool
is_pair rs = is_second rs.1

abbrev pub among_element : Grid → BlockOffset → RefContexts → Bool → Element Distribution (RefType × RefType)
among_element g bo c two =
    let mode = slot (codes "comp_mode_cdf") (comp_mode_context (refs_above g bo) (refs_left g bo) ∷ []) in
    choose two (decide is_pair mode (two_element g bo c) (one_element c)) (one_element c)

-- a block may have two references where the frame has not one alone, and both sides are at least 8 luma samples
abbrev pub may_be_pair : ReferenceMode → Block → Bool
may_be_pair mode b = not (nat_eq (reference_mode_number mode) 0) && nat_le 2 (min b.n4_w b.n4_h)

abbrev pub ref_frames_element : Grid → BlockOffset → ReferenceMode → Element Distribution (RefType × RefType)
ref_frames_element g bo mode = among_element g bo (contexts_at g bo) (may_be_pair mode (block_at g bo.x bo.y))

-- one of seven alone, or one behind and one ahead where that may be
pub record AreRefFrames (two : Bool) (rs : RefType × RefType) : Type 0 where
  pub some : 1 ≤ reference_number rs.0
  pub alone : is_pair rs ≡ false → (reference_number rs.0 ≤ 7) × (rs.1 ≡ NONE_FRAME)
  pub apart : is_pair rs ≡ true → (two ≡ true) × (reference_number rs.0 ≤ 4) × (5 ≤ reference_number rs.1)

abbrev pub refs_of : Block → RefType × RefType
refs_of b = (slice_index_or b.ref_frames 0 NONE_FRAME, slice_index_or b.ref_frames 1 NONE_FRAME)

-- the references of the block at a place
abbrev pub ref_frames_at : Grid → BlockOffset → RefType × RefType
ref_frames_at g bo = refs_of (block_at g bo.x bo.y)

-- they went the path of the references of a block, or its beginning
abbrev pub RefFramesCoded : {W U E : Type 0} → Ghosts W → Result U E → Grid → BlockOffset → ReferenceMode → W → W → ContextWriter → ContextWriter → Type 0
RefFramesCoded known r g bo mode w u old new = Coded known r (ref_frames_element g bo mode) (ref_frames_at g bo) w u old new

-- how often the blocks above and to the left refer to each reference is noted in the block at a place
abbrev pub with_counts : BlockOffset → BlockContext → BlockContext
with_counts bo bc =
    let block = record (block_at bc.blocks bo.x bo.y) { neighbors_ref_counts = counts bc.blocks bo } in
    record bc { blocks = over bo BLOCK_4X4 (λ _. block) bc.blocks }

-- a tile lies in its frame, whose blocks are all there
pub record LiesIn (g : Grid) : Type 0 where
  pub frame : IsFrame g.frame
  pub columns : g.x + g.cols ≤ g.frame.frame_cols
  pub rows : g.y + g.rows ≤ g.frame.frame_rows
