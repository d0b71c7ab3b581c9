-- Whether transforms are split: one path to each answer, and what the calls write.
use Rattle.std.proofs.Common.{◌≡◌, ℕ, zero, suc, ◌+◌, ◌-◌, ◌*◌, ◌/◌, ◌%◌, ◌^◌, ◌<◌, ◌≤◌, List, [], ◌∷◌, ◌++◌, Bool, true, false, ◌&&◌, if◌then◌else◌, Result, Ok, Err, length, take, drop, get_or, nat_eq, nat_lt, codes, refl, sym, ap, subst, ◌∙◌, arith, inl, inr, ◌⊎◌}
use Rattle.std.specs.Prelude.{Option, Some, OnOk, OnErr, IsErr, unwrap_or}
use Rattle.std.proofs.lemmas.Bool.Decides.{nat_tests}
use Rattle.std.proofs.lemmas.List.{drop_more, take_more}
use Rattle.std.proofs.lemmas.List.FromFn.{get_or-map-range_with_len, length-map-range_with_len}
use Rattle.std.proofs.lemmas.Nat.{div_below}
use Rattle.std.proofs.Math.Nat.{mod-lt, mul_comm}
use Rattle.std.proofs.Math.Seq.{drop-length, take-length}
use Rattle.av1_blocks.specs.Edges.{with_tx_sides}
use Rattle.av1_blocks.specs.Grid.{Grid, IsInside}
use Rattle.av1_blocks.specs.declared.block_context.BlockContext.{BlockContext}
use Rattle.av1_cdf.specs.Distribution.{Distribution, HasSymbols}
use Rattle.av1_cdf.specs.Distribution.Distribution.{Adaptive}
use Rattle.av1_cdf.specs.Layout.{Slot, slot, layout, fields, vector_fields, component_fields}
use Rattle.av1_cdf.specs.Runs.{has_run}
use Rattle.av1_cdf.proofs.Cells.{slot_of_run, is_lt, lt_is, both_true, within}
use Rattle.av1_geometry.specs.BlockSize.{number_of, width_log2, height_log2, width_mi, height_mi, with_sides}
use Rattle.av1_geometry.specs.BlockTables.{max_tx_size}
use Rattle.av1_geometry.specs.TxSize.{tx_width_log2, tx_height_log2}
use Rattle.av1_geometry.specs.declared.block_offset.BlockOffset.{BlockOffset}
use Rattle.av1_geometry.specs.declared.block_size.BlockSize.{BlockSize}
use Rattle.av1_geometry.specs.declared.block_size.BlockSize.TheVariants.{BLOCK_4X4, BLOCK_64X128, BLOCK_128X64, BLOCK_128X128}
use Rattle.av1_geometry.specs.declared.tx_size.TxSize.{TxSize}
use Rattle.av1_model.specs.Comes.{Standing, Stores, Comes, Writes, Begins, Wrote}
use Rattle.av1_model.specs.Element.{Element, known, symbol, choose, Reads}
use Rattle.av1_model.specs.Syntax.{Syntax, Leads}
use Rattle.av1_model.specs.Syntax.Syntax.{Done}
use Rattle.av1_model.proofs.ComesLaws.{stays, comes_then, writes_first, begins_first, begins_then, wrote_then}
use Rattle.av1_model.proofs.ElementLaws.{known_reads, reads_as, choose_reads, after_reads}
use Rattle.av1_syntax.specs.Calls.{adaptive, Context, coded_in, learnt_in}
use Rattle.av1_syntax.specs.Flags.{flag, flag_number}
use Rattle.av1_syntax.specs.Palette.{off_of, off_where}
use Rattle.av1_syntax.specs.TransformSizes.{longer, halved, width_above, height_left, txfm_partition_context, split_slot, is_within, part_element, block_of, entered_tx, parts_of, place_of, entered_parts, parts_element, split_element, tx_size_inter_element, entered_split, AreSome, IsPlaced}
use Rattle.av1_syntax.proofs.Elements.{flag_reads, off_reads}
use Rattle.av1_syntax.proofs.TransformSizes.{larger_block, halved_once, two_flags}
use Rattle.av1_syntax.proofs.Writing.{wrote_symbol, chosen, chosen_last}

-- the context is one of 21
pub txfm_partition_has : (k : ℕ) → k < 21 → HasSymbols (adaptive (codes "txfm_partition_cdf") (k ∷ [])) 2
unfolding slot layout fields vector_fields component_fields has_run
txfm_partition_has k h = (slot_of_run (record { place = 546; count = 21; len = 2 }) k refl h, refl)

bounded : (n f : ℕ) (whole : Bool) → 3 ≤ n → f < 3 → (whole ≡ true) ⊎ (4 ≤ n) → 6 * (6 - n) + (if whole then 0 else 3) + f < 21
bounded n f true h l e = omega (arith, h, l)
bounded n f false h l e = elim e [ inl t ↦ let z : ⊥ = cc in absurd z | inr m ↦ omega (arith, m, l) ]

pub split_context_few : (bc : BlockContext) (bo : BlockOffset) (size : BlockSize) (tx : TxSize) (tbx tby : ℕ) → 3 ≤ longer (max_tx_size size) → (nat_eq (longer tx) (longer (max_tx_size size)) ≡ true) ⊎ (4 ≤ longer (max_tx_size size)) →
    txfm_partition_context bc bo size tx tbx tby < 21
split_context_few bc bo size tx tbx tby h e =
    bounded (longer (max_tx_size size)) _ (nat_eq (longer tx) (longer (max_tx_size size))) h (two_flags (nat_lt (width_above bc bo (nat_eq tby 0)) (2 ^ tx_width_log2 tx)) (nat_lt (height_left bc bo (nat_eq tbx 0)) (2 ^ tx_height_log2 tx))) e

own_side : (n : ℕ) → nat_eq n n ≡ true
own_side n = grind (arith, nat_tests)

pub whole_few : (bc : BlockContext) (bo : BlockOffset) (size : BlockSize) (tbx tby : ℕ) → 1 ≤ number_of size → txfm_partition_context bc bo size (max_tx_size size) tbx tby < 21
whole_few bc bo size tbx tby h = split_context_few bc bo size (max_tx_size size) tbx tby (larger_block size h) (inl (own_side (longer (max_tx_size size))))

-- a part that is not 4x4 is of a larger transform than 8x8
pub part_few : (bc : BlockContext) (bo : BlockOffset) (size : BlockSize) (tbx tby : ℕ) → 1 ≤ number_of size → 3 ≤ longer (halved 1 (max_tx_size size)) → txfm_partition_context bc bo size (halved 1 (max_tx_size size)) tbx tby < 21
part_few bc bo size tbx tby h l =
    let one = halved_once (max_tx_size size) (larger_block size h) in
    split_context_few bc bo size (halved 1 (max_tx_size size)) tbx tby (larger_block size h) (inr (omega (arith, one, l)))

pub part_few_as : (bc : BlockContext) (bo : BlockOffset) (size : BlockSize) (part : TxSize) (tbx tby : ℕ) → 1 ≤ number_of size → part ≡ halved 1 (max_tx_size size) → 3 ≤ longer part → txfm_partition_context bc bo size part tbx tby < 21
part_few_as bc bo size part tbx tby h e l =
    subst (λ (t : TxSize). txfm_partition_context bc bo size t tbx tby < 21) (sym e) (part_few bc bo size tbx tby h (subst (λ (t : TxSize). 3 ≤ longer t) e l))

-- a part that begins inside the tile and is not 4x4 is coded
both : (a b : Bool) → a ≡ true → b ≡ true → (a && b) ≡ true
both true b e f = f
both false b e f = absurd (let z : ⊥ = cc in z)

inside_within : (g : Grid) (bo : BlockOffset) → IsInside g bo → is_within g bo ≡ true
inside_within g bo h = both _ _ (lt_is bo.x g.cols h.column) (lt_is bo.y g.rows h.row)

pub part_wrote : {U E : Type 0} (r : Result U E) (bc : BlockContext) (bo : BlockOffset) (size : BlockSize) (part : TxSize) (tbx tby : ℕ) (p : Slot) (old new : Standing Context) → IsInside bc.blocks bo → 3 ≤ longer part →
    p ≡ slot (codes "txfm_partition_cdf") (txfm_partition_context bc bo size part tbx tby ∷ []) → OnOk r (Stores coded_in learnt_in (Adaptive p) 0 old new) → OnErr r (new ≡ old) → Wrote coded_in learnt_in r (part_element bc bo size part tbx tby).tree false old new
part_wrote r bc bo size part tbx tby p old new h l e ok err =
    let q = slot (codes "txfm_partition_cdf") (txfm_partition_context bc bo size part tbx tby ∷ []) in
    chosen r (is_within bc.blocks bo && nat_lt 2 (longer part)) (symbol (Adaptive q) off_of flag_number) (known false) false old new (both _ _ (inside_within bc.blocks bo h) (lt_is 2 (longer part) (omega (arith, l))))
    (wrote_symbol r p q off_of flag_number 0 false old new e refl refl ok err)

pub within_inside : (g : Grid) (bo : BlockOffset) → is_within g bo ≡ true → IsInside g bo
within_inside g bo e = let h = both_true (nat_lt bo.x g.cols) (nat_lt bo.y g.rows) e in record { column = is_lt bo.x g.cols h.0; row = is_lt bo.y g.rows h.1 }

-- and no other is
neither : (a b : Bool) → a ≡ false → (a && b) ≡ false
neither true b e = absurd (let z : ⊥ = cc in z)
neither false b e = refl

pub part_none : (bc : BlockContext) (bo : BlockOffset) (size : BlockSize) (part : TxSize) (tbx tby : ℕ) (at : Standing Context) → is_within bc.blocks bo ≡ false → Writes coded_in learnt_in (part_element bc bo size part tbx tby).tree false at at
part_none bc bo size part tbx tby at e =
    let q = slot (codes "txfm_partition_cdf") (txfm_partition_context bc bo size part tbx tby ∷ []) in
    chosen_last {U = Unit {0}} {E = Unit {0}} (Ok tt) (is_within bc.blocks bo && nat_lt 2 (longer part)) (symbol (Adaptive q) off_of flag_number) (known false) false at at (neither _ _ e) (stays coded_in learnt_in (Done false) at)

second : (a b : Bool) → (a && b) ≡ true → b ≡ true
second true b e = e
second false b e = absurd cc

asked_reads : (asked : Bool) (q : Distribution) → (asked ≡ true → HasSymbols q 2) → Reads HasSymbols (off_where asked q) (λ on. on ≡ false) 1
asked_reads true q h = off_reads true q (h refl)
asked_reads false q h = reads_as HasSymbols (known false) (λ on. on ≡ false) (λ on. on ≡ false) 0 1 (λ on e. e) (λ on e. e) (omega arith) (known_reads HasSymbols false)

module _ (size : BlockSize) (larger : 1 ≤ number_of size) where
  abbrev child : TxSize
  child = halved 1 (max_tx_size size)

  pub part_reads : (bc : BlockContext) (bo : BlockOffset) (tbx tby : ℕ) → Reads HasSymbols (part_element bc bo size child tbx tby) (λ on. on ≡ false) 1
  part_reads bc bo tbx tby =
      asked_reads (is_within bc.blocks bo && nat_lt 2 (longer child)) (split_slot bc bo size child tbx tby)
      (λ e. txfm_partition_has _ (part_few bc bo size tbx tby larger (let l : 2 < longer child = is_lt 2 (longer child) (second (is_within bc.blocks bo) (nat_lt 2 (longer child)) e) in omega (arith, l))))

  pub parts_read : (bo : BlockOffset) (ps : List (ℕ × ℕ)) (bc : BlockContext) → Reads HasSymbols (parts_element bo size child ps bc) (λ on. on ≡ true) (length ps)
  parts_read bo [] bc = known_reads HasSymbols true
  parts_read bo (p ∷ ps) bc =
      let place = place_of bo child p in
      reads_as HasSymbols (parts_element bo size child (p ∷ ps) bc) (λ on. (false ≡ false) × (on ≡ true)) (λ on. on ≡ true) (1 + length ps) (length (p ∷ ps)) (λ on h. h.1) (λ on h. (refl, h)) (omega arith)
      (after_reads HasSymbols (part_element bc place size child p.0 p.1) (λ _. parts_element bo size child ps (entered_tx place child bc)) (λ _. false) (λ on. on ≡ false) (λ a on. on ≡ true) 1 (length ps) (λ a on h k. sym h)
      (part_reads bc place p.0 p.1) (λ a h. parts_read bo ps (entered_tx place child bc)))

pub parts_few : (size : BlockSize) → width_log2 size ≤ 6 → height_log2 size ≤ 6 → length (parts_of size (halved 1 (max_tx_size size))) ≤ 4
parts_few BLOCK_64X128 w h = absurd (omega arith)
parts_few BLOCK_128X64 w h = absurd (omega arith)
parts_few BLOCK_128X128 w h = absurd (omega arith)
parts_few _ w h = omega arith

pub parts_few_as : (size : BlockSize) (part : TxSize) → part ≡ halved 1 (max_tx_size size) → width_log2 size ≤ 6 → height_log2 size ≤ 6 → length (parts_of size part) ≤ 4
parts_few_as size part is w h = subst (λ (t : TxSize). length (parts_of size t) ≤ 4) (sym is) (parts_few size w h)

-- whether the largest transform is split
module _ (bc : BlockContext) (bo : BlockOffset) (size : BlockSize) (tbx tby : ℕ) (larger : 1 ≤ number_of size) (w : width_log2 size ≤ 6) (h : height_log2 size ≤ 6) where
  abbrev half : TxSize
  half = halved 1 (max_tx_size size)

  abbrev context : ℕ
  context = txfm_partition_context bc bo size (max_tx_size size) tbx tby

  abbrev parts : Element Distribution Bool
  parts = parts_element bo size half (parts_of size half) bc

  flag_has : HasSymbols (split_slot bc bo size (max_tx_size size) tbx tby) 2
  flag_has = txfm_partition_has context (whole_few bc bo size tbx tby larger)

  chosen_reads : (split : Bool) → Reads HasSymbols (choose split parts (known false)) (λ on. on ≡ split) 4
  chosen_reads split =
      choose_reads HasSymbols split parts (known false) (λ on. on ≡ split) 4
      (λ e. reads_as HasSymbols parts (λ on. on ≡ true) (λ on. on ≡ split) (length (parts_of size half)) 4 (λ on f. f ∙ sym e) (λ on f. f ∙ e) (parts_few size w h) (parts_read size larger bo (parts_of size half) bc))
      (λ e. reads_as HasSymbols (known false) (λ on. on ≡ false) (λ on. on ≡ split) 0 4 (λ on f. f ∙ sym e) (λ on f. f ∙ e) (omega arith) (known_reads HasSymbols false))

  pub split_reads : Reads HasSymbols (split_element bc bo size tbx tby) (λ on. Unit {0}) 5
  split_reads =
      reads_as HasSymbols (split_element bc bo size tbx tby) (λ on. Unit {0} × (on ≡ on)) (λ on. Unit {0}) 5 5 (λ on h. tt) (λ on h. (tt, refl)) (omega arith)
      (after_reads HasSymbols (flag (split_slot bc bo size (max_tx_size size) tbx tby)) (λ split. choose split parts (known false)) (λ split. split) (λ on. Unit {0}) (λ split on. on ≡ split) 1 4 (λ a on p e. e)
      (flag_reads (split_slot bc bo size (max_tx_size size) tbx tby) flag_has) (λ split p. chosen_reads split))

  -- the flag, by another name of its slot
  flag_as : {U E : Type 0} (r : Result U E) (p : Slot) (split : Bool) (old new : Standing Context) → p ≡ slot (codes "txfm_partition_cdf") (context ∷ []) → Wrote coded_in learnt_in r (flag (Adaptive p)).tree split old new →
      Wrote coded_in learnt_in r (flag (split_slot bc bo size (max_tx_size size) tbx tby)).tree split old new
  flag_as r p split old new e h = subst (λ (s : Slot). Wrote coded_in learnt_in r (flag (Adaptive s)).tree split old new) e h

  pub split_begun : (p : Slot) (split : Bool) (old new : Standing Context) → p ≡ slot (codes "txfm_partition_cdf") (context ∷ []) → Begins coded_in learnt_in (flag (Adaptive p)).tree split old new →
      Begins coded_in learnt_in (split_element bc bo size tbx tby).tree split old new
  split_begun p split old new e b =
      begins_first coded_in learnt_in (flag (split_slot bc bo size (max_tx_size size) tbx tby)).tree (λ split. (choose split parts (known false)).tree) split split ((choose split parts (known false)).symbols split) old new ((chosen_reads split).leads split refl)
      (flag_as {U = Unit {0}} {E = Unit {0}} (Err tt) p split old new e b)

  split_first : (p : Slot) (split : Bool) (old mid : Standing Context) → p ≡ slot (codes "txfm_partition_cdf") (context ∷ []) → Writes coded_in learnt_in (flag (Adaptive p)).tree split old mid →
      Comes coded_in learnt_in (split_element bc bo size tbx tby).tree (choose split parts (known false)).tree old mid
  split_first p split old mid e h =
      writes_first coded_in learnt_in (flag (split_slot bc bo size (max_tx_size size) tbx tby)).tree (λ split. (choose split parts (known false)).tree) split old mid (flag_as {U = Unit {0}} {E = Unit {0}} (Ok tt) p split old mid e h)

  pub split_wrote : {U E : Type 0} (r : Result U E) (p : Slot) (split : Bool) (part : TxSize) (old mid new : Standing Context) → p ≡ slot (codes "txfm_partition_cdf") (context ∷ []) → split ≡ true → part ≡ half → Writes coded_in learnt_in (flag (Adaptive p)).tree split old mid →
      Wrote coded_in learnt_in r (parts_element bo size part (parts_of size part) bc).tree true mid new → Wrote coded_in learnt_in r (split_element bc bo size tbx tby).tree split old new
  split_wrote r p false part old mid new e t is h v = absurd (let z : ⊥ = cc in z)
  split_wrote r p true part old mid new e t is h v =
      wrote_then coded_in learnt_in r (split_element bc bo size tbx tby).tree parts.tree true old mid new (split_first p true old mid e h)
      (subst (λ (u : TxSize). Wrote coded_in learnt_in r (parts_element bo size u (parts_of size u) bc).tree true mid new) is v)

  pub split_none : (p : Slot) (split : Bool) (old new : Standing Context) → p ≡ slot (codes "txfm_partition_cdf") (context ∷ []) → split ≡ false → Writes coded_in learnt_in (flag (Adaptive p)).tree split old new → Writes coded_in learnt_in (split_element bc bo size tbx tby).tree split old new
  split_none p true old new e t h = absurd (let z : ⊥ = cc in z)
  split_none p false old new e t h = split_first p false old new e h

-- what parts leave
blocks_kept : (bo : BlockOffset) (tx : TxSize) (bc : BlockContext) → (entered_tx bo tx bc).blocks ≡ bc.blocks
blocks_kept bo tx bc = either_kept (is_within bc.blocks bo) (with_tx_sides bo (block_of tx) (2 ^ tx_width_log2 tx) (2 ^ tx_height_log2 tx) bc) bc refl
  where
    either_kept : (b : Bool) (x bc : BlockContext) → x.blocks ≡ bc.blocks → (if b then x else bc).blocks ≡ bc.blocks
    either_kept true x bc e = e
    either_kept false x bc e = refl

pub entered_blocks : (bo : BlockOffset) (part : TxSize) (ps : List (ℕ × ℕ)) (bc : BlockContext) → (entered_parts bo part ps bc).blocks ≡ bc.blocks
entered_blocks bo part [] bc = refl
entered_blocks bo part (p ∷ ps) bc = entered_blocks bo part ps (entered_tx (place_of bo part p) part bc) ∙ blocks_kept (place_of bo part p) part bc

entered_push : (bo : BlockOffset) (part : TxSize) (xs : List (ℕ × ℕ)) (p : ℕ × ℕ) (bc : BlockContext) → entered_parts bo part (xs ++ p ∷ []) bc ≡ entered_tx (place_of bo part p) part (entered_parts bo part xs bc)
entered_push bo part [] p bc = refl
entered_push bo part (x ∷ xs) p bc = entered_push bo part xs p (entered_tx (place_of bo part x) part bc)

-- the parts of the largest transform fill it
widths : (size : BlockSize) → width_log2 size ≤ 6 → let part = halved 1 (max_tx_size size) in 2 ^ (width_log2 size - tx_width_log2 part) * 2 ^ (tx_width_log2 part - 2) ≡ 2 ^ (tx_width_log2 (max_tx_size size) - 2)
widths BLOCK_128X64 w = absurd (omega arith)
widths BLOCK_128X128 w = absurd (omega arith)
widths BLOCK_4X4 w = refl
widths _ w = refl

heights : (size : BlockSize) → height_log2 size ≤ 6 → let part = halved 1 (max_tx_size size) in 2 ^ (height_log2 size - tx_height_log2 part) * 2 ^ (tx_height_log2 part - 2) ≡ 2 ^ (tx_height_log2 (max_tx_size size) - 2)
heights BLOCK_64X128 h = absurd (omega arith)
heights BLOCK_128X128 h = absurd (omega arith)
heights BLOCK_4X4 h = refl
heights _ h = refl

columns : (size : BlockSize) → let part = halved 1 (max_tx_size size) in width_mi size / 2 ^ (tx_width_log2 part - 2) ≡ 2 ^ (width_log2 size - tx_width_log2 part)
columns BLOCK_4X4 = refl
columns _ = refl

rows : (size : BlockSize) → let part = halved 1 (max_tx_size size) in height_mi size / 2 ^ (tx_height_log2 part - 2) ≡ 2 ^ (height_log2 size - tx_height_log2 part)
rows BLOCK_4X4 = refl
rows _ = refl

room : (x j n side whole : ℕ) → 1 ≤ side → n * side ≡ whole → j < n → x % 16 + whole ≤ 16 → (x + j * side) % 16 + side ≤ 16
room x j n side whole some e l h = let b = within j n side (side - 1) l (omega (arith, some)) in omega (arith, some, e, b, h)

some_side : (n : ℕ) → 1 ≤ 2 ^ n
some_side zero = omega arith
some_side (suc n) = let e = some_side n in omega (arith, e)

module _ (size : BlockSize) (part : TxSize) (is : part ≡ halved 1 (max_tx_size size)) (w : width_log2 size ≤ 6) (h : height_log2 size ≤ 6) where
  -- the parts are these, row by row
  abbrev ps : List (ℕ × ℕ)
  ps = parts_of size part

  pub columns_are : (m n : ℕ) → m ≡ width_mi size → n ≡ 2 ^ (tx_width_log2 part - 2) → m / n ≡ 2 ^ (width_log2 size - tx_width_log2 part)
  columns_are m n e f = (λ i. e i / f i) ∙ subst (λ (t : TxSize). width_mi size / 2 ^ (tx_width_log2 t - 2) ≡ 2 ^ (width_log2 size - tx_width_log2 t)) (sym is) (columns size)

  pub rows_are : (m n : ℕ) → m ≡ height_mi size → n ≡ 2 ^ (tx_height_log2 part - 2) → m / n ≡ 2 ^ (height_log2 size - tx_height_log2 part)
  rows_are m n e f = (λ i. e i / f i) ∙ subst (λ (t : TxSize). height_mi size / 2 ^ (tx_height_log2 t - 2) ≡ 2 ^ (height_log2 size - tx_height_log2 t)) (sym is) (rows size)

  module _ (m n : ℕ) (em : m ≡ 2 ^ (width_log2 size - tx_width_log2 part)) (en : n ≡ 2 ^ (height_log2 size - tx_height_log2 part)) where
    pub parts_long : length ps ≡ m * n
    parts_long = length-map-range_with_len _ 0 _ ∙ sym (λ i. em i * en i)

    module _ (k : ℕ) (before : k < m * n) where
      some_columns : 0 < m
      some_columns = let e = some_side (width_log2 size - tx_width_log2 part) in omega (arith, e, em)

      column_few : k % m < m
      column_few = mod-lt k some_columns

      row_few : k / m < n
      row_few = div_below k m n some_columns (let e = mul_comm m n in omega (arith, before, e))

      pub part_at : get_or ps k (0, 0) ≡ (k % m, k / m)
      part_at = get_or-map-range_with_len _ 0 _ k k (0, 0) (let e : m * n ≡ 2 ^ (width_log2 size - tx_width_log2 part) * 2 ^ (height_log2 size - tx_height_log2 part) = λ i. em i * en i in omega (arith, before, e)) (omega arith) ∙ sym (λ i. (k % em i, k / em i))

      pub part_placed : (bo : BlockOffset) → IsPlaced bo (max_tx_size size) → IsPlaced (place_of bo part (k % m, k / m)) part
      part_placed bo p = record {
        column = room bo.x (k % m) m (2 ^ (tx_width_log2 part - 2)) (2 ^ (tx_width_log2 (max_tx_size size) - 2)) (some_side (tx_width_log2 part - 2))
            (ap (λ x. x * 2 ^ (tx_width_log2 part - 2)) em ∙ subst (λ (t : TxSize). 2 ^ (width_log2 size - tx_width_log2 t) * 2 ^ (tx_width_log2 t - 2) ≡ 2 ^ (tx_width_log2 (max_tx_size size) - 2)) (sym is) (widths size w)) column_few p.column;
        row = room bo.y (k / m) n (2 ^ (tx_height_log2 part - 2)) (2 ^ (tx_height_log2 (max_tx_size size) - 2)) (some_side (tx_height_log2 part - 2))
            (ap (λ x. x * 2 ^ (tx_height_log2 part - 2)) en ∙ subst (λ (t : TxSize). 2 ^ (height_log2 size - tx_height_log2 t) * 2 ^ (tx_height_log2 t - 2) ≡ 2 ^ (tx_height_log2 (max_tx_size size) - 2)) (sym is) (heights size h)) row_few p.row;
      }

-- one part after another
module _ (bo : BlockOffset) (size : BlockSize) (part : TxSize) (ps : List (ℕ × ℕ)) (k : ℕ) (p : ℕ × ℕ) (at : get_or ps k (0, 0) ≡ p) (before : k < length ps) (t : Syntax Distribution Bool) (bc : BlockContext) (old mid new : Standing Context)
    (came : Comes coded_in learnt_in t (parts_element bo size part (drop k ps) bc).tree old mid) where
  abbrev place : BlockOffset
  place = place_of bo part p

  rest : drop k ps ≡ p ∷ drop (k + 1) ps
  rest = drop_more ps k (0, 0) before ∙ ap (λ q. q ∷ drop (k + 1) ps) at

  came_here : Comes coded_in learnt_in t (parts_element bo size part (p ∷ drop (k + 1) ps) bc).tree old mid
  came_here = subst (λ (qs : List (ℕ × ℕ)). Comes coded_in learnt_in t (parts_element bo size part qs bc).tree old mid) rest came

  pub parts_step : Writes coded_in learnt_in (part_element bc place size part p.0 p.1).tree false mid new → Comes coded_in learnt_in t (parts_element bo size part (drop (k + 1) ps) (entered_tx place part bc)).tree old new
  parts_step w =
      comes_then coded_in learnt_in t (parts_element bo size part (p ∷ drop (k + 1) ps) bc).tree (parts_element bo size part (drop (k + 1) ps) (entered_tx place part bc)).tree old mid new came_here
      (writes_first coded_in learnt_in (part_element bc place size part p.0 p.1).tree (λ _. (parts_element bo size part (drop (k + 1) ps) (entered_tx place part bc)).tree) false mid new w)

  pub parts_begun : part ≡ halved 1 (max_tx_size size) → 1 ≤ number_of size → Begins coded_in learnt_in (part_element bc place size part p.0 p.1).tree false mid new → Begins coded_in learnt_in t true old new
  parts_begun is larger b =
      let rest = parts_element bo size part (drop (k + 1) ps) (entered_tx place part bc) in
      let leads = subst (λ (u : TxSize). let e = parts_element bo size u (drop (k + 1) ps) (entered_tx (place_of bo u p) u bc) in Leads e.tree (e.symbols true) true) (sym is) ((parts_read size larger bo (drop (k + 1) ps) (entered_tx (place_of bo (halved 1 (max_tx_size size)) p) (halved 1 (max_tx_size size)) bc)).leads true refl) in
      begins_then coded_in learnt_in t (parts_element bo size part (p ∷ drop (k + 1) ps) bc).tree true old mid new came_here
      (begins_first coded_in learnt_in (part_element bc place size part p.0 p.1).tree (λ _. rest.tree) false true (rest.symbols true) mid new leads b)

  pub entered_step : (start : BlockContext) → bc ≡ entered_parts bo part (take k ps) start → entered_tx place part bc ≡ entered_parts bo part (take (k + 1) ps) start
  entered_step start e =
      ap (entered_tx place part) e ∙ sym (entered_push bo part (take k ps) p start) ∙ ap (λ (q : ℕ × ℕ). entered_parts bo part (take k ps ++ q ∷ []) start) (sym at) ∙ sym (ap (λ (qs : List (ℕ × ℕ)). entered_parts bo part qs start) (take_more ps k (0, 0) before))

-- all parts
pub parts_end : (bo : BlockOffset) (size : BlockSize) (part : TxSize) (ps : List (ℕ × ℕ)) (k : ℕ) (t : Syntax Distribution Bool) (bc : BlockContext) (old new : Standing Context) → k ≡ length ps → Comes coded_in learnt_in t (parts_element bo size part (drop k ps) bc).tree old new →
    Writes coded_in learnt_in t true old new
parts_end bo size part ps k t bc old new e came = subst (λ (qs : List (ℕ × ℕ)). Comes coded_in learnt_in t (parts_element bo size part qs bc).tree old new) (ap (λ j. drop j ps) e ∙ drop-length ps) came

pub entered_end : (bo : BlockOffset) (part : TxSize) (ps : List (ℕ × ℕ)) (k : ℕ) (start bc : BlockContext) → k ≡ length ps → bc ≡ entered_parts bo part (take k ps) start → bc ≡ entered_parts bo part ps start
entered_end bo part ps k start bc e h = h ∙ ap (λ (qs : List (ℕ × ℕ)). entered_parts bo part qs start) (ap (λ j. take j ps) e ∙ take-length ps)

-- a refusal
pub on_err : {U E : Type 0} (r : Result U E) (P : Type 0) → IsErr r → P → OnErr r P
on_err (Ok u) P h p = let z : ⊥ = cc in absurd z
on_err (Err e) P h p = p

pub some_as : {U E : Type 0} (r : Result U E) (bo : BlockOffset) (size : BlockSize) (child whole : TxSize) (split : Bool) (mid old new : BlockContext) → child ≡ whole → split ≡ true → mid ≡ old → OnErr r (AreSome bo child (parts_of size child) mid new) →
    OnErr r (AreSome bo whole (if split then parts_of size whole else []) old new)
some_as r bo size child whole split mid old new e f k h =
    subst (λ (b : Bool). OnErr r (AreSome bo whole (if b then parts_of size whole else []) old new)) (sym f)
    (subst (λ (bc : BlockContext). OnErr r (AreSome bo whole (parts_of size whole) bc new)) k (subst (λ (t : TxSize). OnErr r (AreSome bo t (parts_of size t) mid new)) e h))

-- the largest transform is entered whole
pub entered_whole : (bo : BlockOffset) (size block : BlockSize) (largest : TxSize) (split : Bool) (bc mid new : BlockContext) → split ≡ false → IsInside bc.blocks bo → with_sides (tx_width_log2 largest) (tx_height_log2 largest) ≡ Some block → mid ≡ bc →
    new ≡ with_tx_sides bo block (2 ^ tx_width_log2 largest) (2 ^ tx_height_log2 largest) mid → new ≡ entered_split bo size largest split bc
entered_whole bo size block largest true bc mid new f inside e k h = absurd (let z : ⊥ = cc in z)
entered_whole bo size block largest false bc mid new f inside e k h =
    let sides = λ (b : BlockSize) (x : BlockContext). with_tx_sides bo b (2 ^ tx_width_log2 largest) (2 ^ tx_height_log2 largest) x in
    h ∙ ap (sides block) k ∙ ap (λ (o : Option BlockSize). sides (unwrap_or o BLOCK_4X4) bc) (sym e) ∙ sym (ap (λ (b : Bool). if b then sides (block_of largest) bc else bc) (inside_within bc.blocks bo inside))

-- a call codes the whole at depth 0, and a part at depth 1
pub only_whole : (n : ℕ) → n ≤ 1 → (n ≡ 1 → ⊥) → n ≡ 0
only_whole zero l h = refl
only_whole (suc zero) l h = absurd (h refl)
only_whole (suc (suc n)) l h = absurd (omega (arith, l))

pub inter_whole : {U E : Type 0} (r : Result U E) (bc : BlockContext) (bo : BlockOffset) (size : BlockSize) (tx : TxSize) (tbx tby depth : ℕ) (split : Bool) (old new : Standing Context) → depth ≡ 0 →
    Wrote coded_in learnt_in r (split_element bc bo size tbx tby).tree split old new → Wrote coded_in learnt_in r (tx_size_inter_element bc bo size tx tbx tby depth).tree split old new
inter_whole r bc bo size tx tbx tby depth split old new e h = subst (λ n. Wrote coded_in learnt_in r (tx_size_inter_element bc bo size tx tbx tby n).tree split old new) (sym e) h

pub inter_part : {U E : Type 0} (r : Result U E) (bc : BlockContext) (bo : BlockOffset) (size : BlockSize) (tx : TxSize) (tbx tby depth : ℕ) (split : Bool) (old new : Standing Context) → depth ≡ 1 → split ≡ false →
    Wrote coded_in learnt_in r (part_element bc bo size tx tbx tby).tree false old new → Wrote coded_in learnt_in r (tx_size_inter_element bc bo size tx tbx tby depth).tree split old new
inter_part r bc bo size tx tbx tby depth split old new e f h =
    subst (λ n. Wrote coded_in learnt_in r (tx_size_inter_element bc bo size tx tbx tby n).tree split old new) (sym e) (subst (λ (b : Bool). Wrote coded_in learnt_in r (part_element bc bo size tx tbx tby).tree b old new) (sym f) h)

pub entered_part : {U E : Type 0} (r : Result U E) (bo : BlockOffset) (size : BlockSize) (tx : TxSize) (split : Bool) (old new : BlockContext) → split ≡ false → OnOk r (new ≡ entered_tx bo tx old) → OnOk r (new ≡ entered_split bo size tx split old)
entered_part r bo size tx split old new f h = subst (λ (b : Bool). OnOk r (new ≡ entered_split bo size tx b old)) (sym f) h

pub none_entered : {U E : Type 0} (r : Result U E) (bo : BlockOffset) (tx : TxSize) (ps : List (ℕ × ℕ)) (old new : BlockContext) → OnErr r (new ≡ old) → OnErr r (AreSome bo tx ps old new)
none_entered (Ok u) bo tx ps old new h = tt
none_entered (Err e) bo tx ps old new h = (0, omega arith, h)
