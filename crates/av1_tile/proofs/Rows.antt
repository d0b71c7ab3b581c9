-- Worked rows, computed from the definitions alone.
use Rattle.std.proofs.Common.{◌≡◌, ℕ, ℤ, pos, negsuc, List, [], ◌∷◌, ◌++◌, replicate, ◌*◌, true, false, refl, Option, Some, None, map, option_map}
use Rattle.std.specs.Int.Count.{count_leading_zeros}
use Rattle.av1_geometry.specs.declared.block_size.BlockSize.TheVariants.{BLOCK_4X4, BLOCK_8X8}
use Rattle.av1_geometry.specs.declared.frame_type.ReferenceMode.TheVariants.{SELECT}
use Rattle.av1_geometry.specs.declared.ref_type.RefType.TheVariants.{LAST_FRAME, BWDREF_FRAME, NONE_FRAME}
use Rattle.av1_geometry.specs.declared.tx_size.TxSize.TheVariants.{TX_4X4, TX_8X8}
use Rattle.av1_geometry.specs.declared.prediction_mode.PredictionMode.TheVariants.{NEARESTMV, NEAR0MV, NEAR2MV, NEWMV, NEAR_NEAR1MV, NEAR_NEAR2MV, NEAREST_NEWMV, NEW_NEARESTMV, NEAR_NEW0MV, NEAR_NEW2MV, NEW_NEAR0MV, NEW_NEAR2MV, NEW_NEWMV}
use Rattle.av1_step.specs.declared.unit.Item.{Item}
use Rattle.av1_step.specs.declared.unit.Item.TheVariants.{Step, Begin, Keep, Abandon}
use Rattle.av1_step.specs.declared.step.TileStep.TheVariants.{Block, Skip, Lrf, Segment, DeltaLf, AngleDelta, CflAlphas, TxNote, TxIntra, TxInter, IsInter, RefFrames, InterMode}
use Rattle.av1_tile.specs.declared.error.UnitError.TheVariants.{Refused, BadScript}
use Rattle.av1_tile.specs.declared.error.Place.TheVariants.{Item as ItemPlace}
use Rattle.av1_tile.specs.declared.error.UnitError.{UnitError}
use Rattle.av1_tile.specs.declared.report.TrialCost.{TrialCost}
use Rattle.av1_model.specs.Bits.{bits_of}
use Rattle.av1_model.specs.Eighths.{log_digits}
use Rattle.av1_ec.specs.CodeTrees.{literal_tree, subexp_tree}
use Rattle.av1_model.specs.Codes.{subexp}
use Rattle.av1_model.specs.Interval.{whole, final_bytes, bits}
use Rattle.av1_cdf.specs.Context.{written_between}
use Rattle.av1_cdf.specs.Layout.{slot, layout, fields, vector_fields, component_fields}
use Rattle.av1_blocks.specs.Places.{changed}
use Rattle.av1_frame.specs.Defaults.{key_frame, plain_state, still_sequence, unrestored}
use Rattle.av1_frame.specs.Tiling.{tiling}
use Rattle.av1_geometry.specs.declared.chroma_sampling.ChromaSampling.TheVariants.{Cs400}
use Rattle.av1_syntax.specs.declared.restoration.RestorationFilter.TheVariants.{None as Unfiltered, Sgrproj}
use Rattle.av1_step.specs.Given.{Given}
use Rattle.av1_step.specs.ModeSteps.{first_pick, may_pick_after, variant}
use Rattle.av1_model.specs.Reading.{Coding}
use Rattle.av1_step.specs.Tile.{Tile, fresh, has_chroma_size}
use Rattle.av1_tile.specs.TileBytes.{started}
use Rattle.av1_step.specs.Step.{question_of}
use Rattle.av1_step.specs.Script.{after_all, read_steps}
use Rattle.av1_tile.specs.Trials.{surviving, moved_all, first_wrong}

-- so much of a context as the slots of the skip flag need, where both of its values are as likely
numbers : List ℕ
numbers = replicate 410 0 ++ 16384 ∷ 0 ∷ 16384 ∷ 0 ∷ 16384 ∷ 0 ∷ []

-- a grey still picture of so many 4x4 blocks each way
given : ℕ → Given
given side = record {
  tables = [];
  scans = [];
  fi = key_frame (record still_sequence { chroma_sampling = Cs400 }) (4 * side) (4 * side);
  fs = plain_state;
  refs = [];
  metadata = [];
  delimiter = true;
  eob_by_coded = false;
}

-- where its tile begins
at_first : ℕ → Coding Tile
at_first side = record { interval = whole; context = fresh (given side) 0 numbers }

-- the tile of an 8x8 frame, and its bits
tile : List Item → List ℕ
tile items = final_bytes (after_all (at_first 2) (surviving items)).interval

tile_bits : List Item → ℕ
tile_bits items = bits (after_all (at_first 2) (surviving items)).interval

-- what is wrong with the items of a frame of so many 4x4 blocks each way
wrong : ℕ → List Item → Option UnitError
wrong side items = first_wrong 0 (started (at_first side)) items

costs : List Item → List TrialCost
costs items = (moved_all 0 (started (at_first 2)) items).costs

skipped : List Item
skipped = Step (Block 0 0 BLOCK_8X8) ∷ Step (Skip true) ∷ []

coded : List Item
coded = Step (Block 0 0 BLOCK_8X8) ∷ Step (Skip false) ∷ []

two_blocks : List Item
two_blocks = Step (Block 0 0 BLOCK_4X4) ∷ Step (Skip true) ∷ Step (Block 1 0 BLOCK_4X4) ∷ Step (Skip false) ∷ []

no_block : List Item
no_block = Step (Skip true) ∷ []

empty_tile : tile [] ≡ 0x80 ∷ []
unfolding given key_frame still_sequence tiling changed tile at_first numbers slot layout fields vector_fields component_fields written_between
empty_tile = refl

skipped_tile : tile skipped ≡ 0xc0 ∷ []
unfolding given key_frame still_sequence tiling changed tile at_first numbers slot layout fields vector_fields component_fields written_between skipped count_leading_zeros has_chroma_size
skipped_tile = refl

skipped_bits : tile_bits skipped ≡ 2
unfolding given key_frame still_sequence tiling changed tile_bits at_first numbers slot layout fields vector_fields component_fields written_between skipped count_leading_zeros has_chroma_size
skipped_bits = refl

coded_tile : tile coded ≡ 0x20 ∷ []
unfolding given key_frame still_sequence tiling changed tile at_first numbers slot layout fields vector_fields component_fields written_between coded count_leading_zeros has_chroma_size
coded_tile = refl

coded_bits : tile_bits coded ≡ 3
unfolding given key_frame still_sequence tiling changed tile_bits at_first numbers slot layout fields vector_fields component_fields written_between coded count_leading_zeros has_chroma_size
coded_bits = refl

-- the second flag is coded by another distribution, which has not learned yet
two_tile : tile two_blocks ≡ 0xa0 ∷ []
unfolding given key_frame still_sequence tiling changed tile at_first numbers slot layout fields vector_fields component_fields written_between two_blocks count_leading_zeros has_chroma_size
two_tile = refl

two_bits : tile_bits two_blocks ≡ 3
unfolding given key_frame still_sequence tiling changed tile_bits at_first numbers slot layout fields vector_fields component_fields written_between two_blocks count_leading_zeros has_chroma_size
two_bits = refl

none_refused : wrong 2 two_blocks ≡ None
unfolding given key_frame still_sequence tiling changed wrong at_first numbers slot layout fields vector_fields component_fields written_between two_blocks count_leading_zeros has_chroma_size
none_refused = refl

no_block_refused : wrong 2 no_block ≡ Some (Refused (ItemPlace 0 0) record { 0 = 64 })
unfolding given key_frame still_sequence tiling changed wrong at_first no_block
no_block_refused = refl

outside_refused : wrong 2 (Step (Block 0 2 BLOCK_4X4) ∷ []) ≡ Some (Refused (ItemPlace 0 0) record { 0 = 60 })
unfolding given key_frame still_sequence tiling changed wrong at_first
outside_refused = refl

-- an angle of a mode without direction, factors where chroma is not predicted from luma, and what the frame does not have
flat_refused : wrong 2 (Step (Block 0 0 BLOCK_8X8) ∷ Step (AngleDelta false (pos 1)) ∷ []) ≡ Some (Refused (ItemPlace 0 1) record { 0 = 72 })
unfolding given key_frame still_sequence tiling changed wrong at_first has_chroma_size
flat_refused = refl

no_factors_refused : wrong 2 (Step (Block 0 0 BLOCK_8X8) ∷ Step (CflAlphas (pos 1, pos 0)) ∷ []) ≡ Some (Refused (ItemPlace 0 1) record { 0 = 73 })
unfolding given key_frame still_sequence tiling changed wrong at_first has_chroma_size
no_factors_refused = refl

no_segments_refused : wrong 2 (Step (Block 0 0 BLOCK_8X8) ∷ Step (Segment 0) ∷ []) ≡ Some (Refused (ItemPlace 0 1) record { 0 = 67 })
unfolding given key_frame still_sequence tiling changed wrong at_first has_chroma_size
no_segments_refused = refl

no_deltas_refused : wrong 2 (Step (Block 0 0 BLOCK_8X8) ∷ Step (DeltaLf (pos 0 ∷ pos 0 ∷ pos 0 ∷ pos 0 ∷ [])) ∷ []) ≡ Some (Refused (ItemPlace 0 1) record { 0 = 69 })
unfolding given key_frame still_sequence tiling changed wrong at_first has_chroma_size
no_deltas_refused = refl

-- a reader that is led by the questions takes the flags
read_two : option_map (λ r. r.0) (read_steps (map question_of (surviving two_blocks)) (0xa0 ∷ []) (at_first 2)) ≡ Some (Block 0 0 BLOCK_4X4 ∷ Skip true ∷ Block 1 0 BLOCK_4X4 ∷ Skip false ∷ [])
unfolding given key_frame still_sequence tiling changed at_first numbers slot layout fields vector_fields component_fields written_between two_blocks count_leading_zeros has_chroma_size
read_two = refl

-- trials
abandoned : List Item
abandoned = Step (Block 0 0 BLOCK_8X8) ∷ Begin record { 0 = record { x = 0; y = 0 } } ∷ Step (Skip false) ∷ Abandon ∷ Step (Skip true) ∷ []

thrice : List Item
thrice = Step (Block 0 0 BLOCK_8X8) ∷ Begin record { 0 = record { x = 0; y = 0 } } ∷ Step (Skip true) ∷ Step (Skip true) ∷ Step (Skip true) ∷ Abandon ∷ []

abandoned_tile : tile abandoned ≡ 0xc0 ∷ []
unfolding given key_frame still_sequence tiling changed tile at_first numbers slot layout fields vector_fields component_fields written_between abandoned count_leading_zeros has_chroma_size
abandoned_tile = refl

abandoned_cost : costs abandoned ≡ record { tile = 0; item = 1; eighths = 9; kept = false } ∷ []
unfolding given key_frame still_sequence tiling changed costs at_first numbers slot layout fields vector_fields component_fields written_between abandoned count_leading_zeros log_digits has_chroma_size
abandoned_cost = refl

thrice_tile : tile thrice ≡ 0x80 ∷ []
unfolding given key_frame still_sequence tiling changed tile at_first numbers slot layout fields vector_fields component_fields written_between thrice count_leading_zeros has_chroma_size
thrice_tile = refl

thrice_cost : costs thrice ≡ record { tile = 0; item = 1; eighths = 22; kept = false } ∷ []
unfolding given key_frame still_sequence tiling changed costs at_first numbers slot layout fields vector_fields component_fields written_between thrice count_leading_zeros log_digits has_chroma_size
thrice_cost = refl

kept_twice : wrong 2 (Begin record { 0 = record { x = 0; y = 0 } } ∷ Keep ∷ Keep ∷ []) ≡ Some (BadScript 0 2)
unfolding given key_frame still_sequence tiling changed wrong at_first
kept_twice = refl

unended : wrong 2 (Begin record { 0 = record { x = 0; y = 0 } } ∷ []) ≡ Some (BadScript 0 1)
unfolding given key_frame still_sequence tiling changed wrong at_first
unended = refl

strayed : wrong 32 (Begin record { 0 = record { x = 0; y = 0 } } ∷ Step (Block 16 0 BLOCK_8X8) ∷ []) ≡ Some (BadScript 0 1)
unfolding given key_frame still_sequence tiling changed wrong at_first
strayed = refl

outside_in_trial : wrong 2 (Step (Block 0 0 BLOCK_8X8) ∷ Begin record { 0 = record { x = 0; y = 0 } } ∷ Step (Block 9 0 BLOCK_8X8) ∷ Abandon ∷ []) ≡ Some (Refused (ItemPlace 0 2) record { 0 = 60 })
unfolding given key_frame still_sequence tiling changed wrong at_first numbers slot layout fields vector_fields component_fields written_between count_leading_zeros has_chroma_size
outside_in_trial = refl

-- transforms
noted : List Item
noted = Step (Block 0 0 BLOCK_8X8) ∷ Step TxNote ∷ []

noted_left : (after_all (at_first 2) (surviving noted)).context.bc.left_tx_context ≡ 8 ∷ 8 ∷ replicate 14 0
unfolding given key_frame still_sequence tiling changed at_first numbers slot layout fields vector_fields component_fields written_between noted count_leading_zeros
noted_left = refl

unnoted : wrong 2 (Step TxNote ∷ []) ≡ Some (Refused (ItemPlace 0 0) record { 0 = 64 })
unfolding given key_frame still_sequence tiling changed wrong at_first
unnoted = refl

-- the frame does not leave the sizes of transforms to its blocks
not_chosen : wrong 2 (Step (Block 0 0 BLOCK_8X8) ∷ Step (TxIntra TX_8X8) ∷ []) ≡ Some (Refused (ItemPlace 0 1) record { 0 = 76 })
unfolding given key_frame still_sequence tiling changed wrong at_first numbers slot layout fields vector_fields component_fields written_between count_leading_zeros has_chroma_size
not_chosen = refl

not_inter : wrong 2 (Step (Block 0 0 BLOCK_8X8) ∷ Step (TxInter true) ∷ []) ≡ Some (Refused (ItemPlace 0 1) record { 0 = 65 })
unfolding given key_frame still_sequence tiling changed wrong at_first numbers slot layout fields vector_fields component_fields written_between count_leading_zeros has_chroma_size
not_inter = refl

no_inter_mode : wrong 2 (Step (Block 0 0 BLOCK_8X8) ∷ Step (InterMode NEWMV) ∷ []) ≡ Some (Refused (ItemPlace 0 1) record { 0 = 65 })
unfolding given key_frame still_sequence tiling changed wrong at_first numbers slot layout fields vector_fields component_fields written_between count_leading_zeros has_chroma_size
no_inter_mode = refl

-- the candidates that modes begin with, and after which of numbers 0 to 3 they may take a later one
first_picks : map first_pick (NEARESTMV ∷ NEAR0MV ∷ NEWMV ∷ NEAREST_NEWMV ∷ NEW_NEARESTMV ∷ NEAR_NEW0MV ∷ NEW_NEAR0MV ∷ NEW_NEWMV ∷ []) ≡ 0 ∷ 1 ∷ 0 ∷ 0 ∷ 0 ∷ 1 ∷ 1 ∷ 0 ∷ []
first_picks = refl

later_new : map (λ i. may_pick_after i NEW_NEWMV) (0 ∷ 1 ∷ 2 ∷ 3 ∷ []) ≡ true ∷ true ∷ false ∷ false ∷ []
later_new = refl

later_near : map (λ i. may_pick_after i NEAR_NEW0MV) (0 ∷ 1 ∷ 2 ∷ 3 ∷ []) ≡ false ∷ true ∷ true ∷ false ∷ []
later_near = refl

later_none : map (λ i. may_pick_after i NEAREST_NEWMV) (0 ∷ 1 ∷ 2 ∷ 3 ∷ []) ≡ false ∷ false ∷ false ∷ false ∷ []
later_none = refl

-- the variants of modes that take the fourth candidate
variants : map (variant 2) (NEAR0MV ∷ NEAR_NEAR1MV ∷ NEAR_NEW0MV ∷ NEW_NEAR0MV ∷ NEWMV ∷ []) ≡ NEAR2MV ∷ NEAR_NEAR2MV ∷ NEAR_NEW2MV ∷ NEW_NEAR2MV ∷ NEWMV ∷ []
variants = refl

-- so much of a context as the depth of 8x8 needs, and a frame that leaves it to its blocks
depth_numbers : List ℕ
depth_numbers = replicate 592 0 ++ 16384 ∷ 0 ∷ 16384 ∷ 0 ∷ 16384 ∷ 0 ∷ []

choosing : Given
choosing = record (given 2) { fi = record (given 2).fi { tx_mode_select = true } }

halved_once : List Item
halved_once = Step (Block 0 0 BLOCK_8X8) ∷ Step (TxIntra TX_4X4) ∷ []

halved_tile : final_bytes (after_all (record { interval = whole; context = fresh choosing 0 depth_numbers }) (surviving halved_once)).interval ≡ 0xc0 ∷ []
unfolding given key_frame still_sequence tiling changed choosing depth_numbers slot layout fields vector_fields component_fields written_between halved_once count_leading_zeros has_chroma_size
halved_tile = refl

halved_left : (after_all (record { interval = whole; context = fresh choosing 0 depth_numbers }) (surviving halved_once)).context.bc.left_tx_context ≡ 4 ∷ 4 ∷ replicate 14 0
unfolding given key_frame still_sequence tiling changed choosing depth_numbers slot layout fields vector_fields component_fields written_between halved_once count_leading_zeros
halved_left = refl

-- the same picture with self-guided filters, where none is as likely as one
restored : Given
restored = record (given 2) { fs = record plain_state { restoration = record { planes = record unrestored { lrf_type = 3 } ∷ unrestored ∷ unrestored ∷ [] } } }

at_restored : Coding Tile
at_restored = record { interval = whole; context = fresh restored 0 (replicate 300 0 ++ 16384 ∷ 0 ∷ []) }

-- set 14 has no second pass
filtered : ℤ → List Item
filtered second = Step (Lrf 0 (Sgrproj 14 (negsuc 31 ∷ second ∷ []))) ∷ []

unfiltered : List Item
unfiltered = Step (Lrf 0 Unfiltered) ∷ []

unfiltered_tile : final_bytes (after_all at_restored (surviving unfiltered)).interval ≡ 0x20 ∷ []
unfolding given key_frame still_sequence tiling changed restored at_restored unfiltered slot layout fields vector_fields component_fields written_between count_leading_zeros
unfiltered_tile = refl

unfiltered_bits : bits (after_all at_restored (surviving unfiltered)).interval ≡ 3
unfolding given key_frame still_sequence tiling changed restored at_restored unfiltered slot layout fields vector_fields component_fields written_between count_leading_zeros
unfiltered_bits = refl

filtered_tile : final_bytes (after_all at_restored (surviving (filtered (pos 95)))).interval ≡ 0xf0 ∷ 0x20 ∷ []
unfolding given key_frame still_sequence tiling changed restored at_restored filtered slot layout fields vector_fields component_fields written_between bits_of literal_tree subexp subexp_tree count_leading_zeros
filtered_tile = refl

filtered_bits : bits (after_all at_restored (surviving (filtered (pos 95)))).interval ≡ 11
unfolding given key_frame still_sequence tiling changed restored at_restored filtered slot layout fields vector_fields component_fields written_between bits_of literal_tree subexp subexp_tree count_leading_zeros
filtered_bits = refl

-- where a set has no pass its weight is fixed
weight_refused : first_wrong 0 (started at_restored) (filtered (pos 31)) ≡ Some (Refused (ItemPlace 0 0) record { 0 = 86 })
unfolding given key_frame still_sequence tiling changed restored at_restored filtered
weight_refused = refl

-- a filter in a trial is out of place, whatever its rules
filter_in_trial : first_wrong 0 (started at_restored) (Begin record { 0 = record { x = 0; y = 0 } } ∷ filtered (pos 31)) ≡ Some (BadScript 0 1)
unfolding given key_frame still_sequence tiling changed restored at_restored filtered
filter_in_trial = refl

-- a frame of inter blocks, where some may have two references
inter_frame : Given
inter_frame = record (given 2) { fi = record (given 2).fi { intra_only = false; reference_mode = SELECT } }

-- so much of a context as the flag of inter blocks needs
inter_numbers : List ℕ
inter_numbers = replicate 292 0 ++ 16384 ∷ 0 ∷ 16384 ∷ 0 ∷ 16384 ∷ 0 ∷ 16384 ∷ 0 ∷ []

at_inter : Coding Tile
at_inter = record { interval = whole; context = fresh inter_frame 0 inter_numbers }

inter_block : List Item
inter_block = Step (Block 0 0 BLOCK_8X8) ∷ Step (IsInter true) ∷ []

-- no block of a key frame says whether it is an inter block, and an intra block has no references
inter_in_key : wrong 2 inter_block ≡ Some (Refused (ItemPlace 0 1) record { 0 = 65 })
unfolding given key_frame still_sequence tiling changed wrong at_first inter_block has_chroma_size
inter_in_key = refl

intra_refused : first_wrong 0 (started at_inter) (Step (Block 0 0 BLOCK_8X8) ∷ Step (RefFrames (LAST_FRAME, NONE_FRAME)) ∷ []) ≡ Some (Refused (ItemPlace 0 1) record { 0 = 66 })
unfolding given key_frame still_sequence tiling changed inter_frame at_inter has_chroma_size
intra_refused = refl

-- two references need sides of 8 samples
pair_refused : first_wrong 0 (started at_inter) (Step (Block 0 0 BLOCK_4X4) ∷ Step (IsInter true) ∷ Step (RefFrames (LAST_FRAME, BWDREF_FRAME)) ∷ []) ≡ Some (Refused (ItemPlace 0 2) record { 0 = 77 })
unfolding given key_frame still_sequence tiling changed inter_frame inter_numbers at_inter slot layout fields vector_fields component_fields written_between count_leading_zeros has_chroma_size
pair_refused = refl

inter_tile : final_bytes (after_all at_inter (surviving inter_block)).interval ≡ 0xc0 ∷ []
unfolding given key_frame still_sequence tiling changed inter_frame inter_numbers at_inter slot layout fields vector_fields component_fields written_between inter_block count_leading_zeros has_chroma_size
inter_tile = refl

-- the candidates that were found are those of the block no more
found : Coding Tile
found = record at_inter { context = record at_inter.context { current = Some (record { 0 = record { x = 0; y = 0 } }, BLOCK_8X8); cands = Some (record { list = []; context = 0 }) } }

inter_clears : (after_all found (IsInter true ∷ [])).context.cands ≡ None
unfolding given key_frame still_sequence tiling changed inter_frame inter_numbers at_inter slot layout fields vector_fields component_fields written_between found count_leading_zeros
inter_clears = refl
