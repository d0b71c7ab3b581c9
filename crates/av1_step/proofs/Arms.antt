-- What the arms of a step have in common.
use Rattle.std.proofs.Common.{◌≡◌, ℕ, ◌+◌, ◌%◌, ◌^◌, ◌≤◌, List, [], ◌∷◌, Bool, true, false, IsTrue, Option, Some, None, Result, Ok, Err, is_none, if◌then◌else◌, refl, sym, ap, subst, ◌∙◌, arith}
use Rattle.std.specs.Option.{option_map_or}
use Rattle.av1_cdf.specs.Context.{AreCdfs}
use Rattle.av1_cdf.specs.Distribution.{Distribution, coded_by, learnt}
use Rattle.av1_ec.specs.declared.known.Known.{Ghosts}
use Rattle.av1_ec.specs.Moves.{Moves}
use Rattle.av1_ec.proofs.MovesLaws.{moves_as, moves_none}
use Rattle.av1_geometry.specs.declared.block_offset.BlockOffset.{BlockOffset}
use Rattle.av1_geometry.specs.declared.block_size.BlockSize.{BlockSize}
use Rattle.av1_geometry.specs.declared.partition_type.PartitionType.{PartitionType}
use Rattle.av1_geometry.specs.BlockSize.{width_log2, height_log2, width_mi, height_mi}
use Rattle.av1_geometry.specs.BlockTables.{subsize_of}
use Rattle.av1_geometry.specs.Rules.{first_broken}
use Rattle.av1_model.specs.Syntax.{Leads, Syntax}
use Rattle.av1_model.specs.Comes.{standing, Writes as WritesAll, Begins}
use Rattle.av1_syntax.specs.Partition.{IsParted, has_cols, has_rows, is_allowed}
use Rattle.av1_syntax.proofs.Moving.{moves_of}
use Rattle.av1_syntax.specs.Calls.{Moving, coded_in, context_of, learnt_in, stands}
use Rattle.av1_step.specs.declared.tile.TileState.{TileState}
use Rattle.av1_step.specs.declared.step.TileStep.{TileStep}
use Rattle.av1_step.specs.declared.step.TileStep.TheVariants.{Partition, Skip}
use Rattle.av1_step.specs.Effect.{Parted, changed_by_all}
use Rattle.av1_step.specs.Kept.{IsBlock, IsKept}
use Rattle.av1_step.specs.Kind.{Kind, steps, rules_of, of_current}
use Rattle.av1_step.specs.State.{tile_of, log_of}
use Rattle.av1_step.specs.Step.{entered, is_split_on, partition_kind, question_of, skip_kind, syntax_of}
use Rattle.av1_step.specs.Tile.{Tile, CurrentBlock, with_numbers}
use Rattle.av1_step.specs.Writing.{Writes}
use Rattle.av1_step.proofs.Effects.{side_within}
use Rattle.av1_step.proofs.KindLaws.{asking_holds, answering_holds, none_is, wrote_step}
use Rattle.av1_step.proofs.Places.{all_hold}
use Rattle.av1_step.proofs.Ready.{is_paired}
use Rattle.av1_step.proofs.StepLaws.{IsAllowed, can_part, entered_same}
use Rattle.av1_step.proofs.Switches.{wrote_numbers}

module _ {W : Type 0} (writer : Ghosts W) where
  -- a step is written: the symbols of its element were, and its answer is entered
  pub writes_numbers : {A U E : Type 0} (r : Result U E) (v : U) → r ≡ Ok v → (step : TileStep) (k : Kind A) (a : A) (w later : W) (old new : TileState) (most : ℕ) → steps k ≡ syntax_of (question_of step) (tile_of old) → k.step a ≡ step
      → first_broken (rules_of k a) ≡ None → WritesAll coded_by (learnt (tile_of old).learns) k.element.tree a (standing (writer.position w) (tile_of old).numbers) (standing (writer.position later) (tile_of new).numbers)
      → tile_of new ≡ entered step (with_numbers (tile_of new).numbers (tile_of old)) → most ≤ 2 ^ 24 → Moves writer most w later (log_of old) (log_of new) (tile_of old).numbers (tile_of new).numbers → Writes writer r step w later old new
  writes_numbers {U = U} {E = E} r v is step k a w later old new most tree named allowed wrote tile few moves =
      let learns = (tile_of old).learns in
      let from = standing (writer.position w) (tile_of old).numbers in
      let to = standing (writer.position later) (tile_of new).numbers in
      let whole : WritesAll coded_by (learnt learns) (steps k) (k.step a) from to = wrote_step {U = U} {E = E} learns (Ok v) k a from to allowed wrote in
      let here : WritesAll coded_by (learnt learns) (syntax_of (question_of step) (tile_of old)) step from to =
      subst (λ (t : Syntax Distribution TileStep). WritesAll coded_by (learnt learns) t step from to) tree (subst (λ (s : TileStep). WritesAll coded_by (learnt learns) (steps k) s from to) named whole) in
      subst (λ (x : Result U E). Writes writer x step w later old new) (sym is)
      (record { wrote = here; tile = tile; refused = tt; moves = moves_as writer most (2 ^ 24) w later (log_of old) (log_of new) (log_of new) (tile_of old).numbers (tile_of new).numbers (tile_of new).numbers refl refl few moves })

  -- a step is written: its element was, and its answer is entered
  pub writes_whole : {A U E : Type 0} (r : Result U E) (v : U) → r ≡ Ok v → (step : TileStep) (k : Kind A) (a : A) (w later : W) (old new : TileState) (most : ℕ) → steps k ≡ syntax_of (question_of step) (tile_of old) → k.step a ≡ step
      → first_broken (rules_of k a) ≡ None → WritesAll coded_in learnt_in k.element.tree a (stands writer w old.cw) (stands writer later new.cw)
      → tile_of new ≡ entered step (with_numbers (tile_of new).numbers (tile_of old)) → most ≤ 2 ^ 24 → Moving writer most w later (log_of old) (log_of new) (context_of old.cw) (context_of new.cw) → Writes writer r step w later old new
  writes_whole {U = U} {E = E} r v is step k a w later old new most tree named allowed wrote tile few moves =
      writes_numbers r v is step k a w later old new most tree named allowed
      (wrote_numbers {U = U} {E = E} (Ok v) k.element.tree a (tile_of old).learns (stands writer w old.cw) (stands writer later new.cw) old.switches.adapt_is wrote) tile few
      (moves_of writer most w later (log_of old) (log_of new) (context_of old.cw) (context_of new.cw) moves)

  -- a step is refused: its element was begun, and all else stays
  pub writes_front : {A U E : Type 0} (r : Result U E) (e : E) → r ≡ Err e → (step : TileStep) (k : Kind A) (a : A) (w later : W) (old new : TileState) (most : ℕ) → steps k ≡ syntax_of (question_of step) (tile_of old) → k.step a ≡ step
      → first_broken (rules_of k a) ≡ None → Begins coded_in learnt_in k.element.tree a (stands writer w old.cw) (stands writer later new.cw)
      → tile_of new ≡ with_numbers (tile_of new).numbers (tile_of old) → most ≤ 2 ^ 24 → Moving writer most w later (log_of old) (log_of new) (context_of old.cw) (context_of new.cw) → Writes writer r step w later old new
  writes_front {U = U} {E = E} r e is step k a w later old new most tree named allowed wrote tile few moves =
      let learns = (tile_of old).learns in
      let from = standing (writer.position w) (tile_of old).numbers in
      let to = standing (writer.position later) (tile_of new).numbers in
      let begun : Begins coded_by (learnt learns) k.element.tree a from to =
      wrote_numbers {U = U} {E = E} (Err e) k.element.tree a learns (stands writer w old.cw) (stands writer later new.cw) old.switches.adapt_is wrote in
      let front : Begins coded_by (learnt learns) (steps k) (k.step a) from to = wrote_step {U = U} {E = E} learns (Err e) k a from to allowed begun in
      let here : Begins coded_by (learnt learns) (syntax_of (question_of step) (tile_of old)) step from to =
      subst (λ (t : Syntax Distribution TileStep). Begins coded_by (learnt learns) t step from to) tree (subst (λ (s : TileStep). Begins coded_by (learnt learns) (steps k) s from to) named front) in
      let moved = moves_of writer most w later (log_of old) (log_of new) (context_of old.cw) (context_of new.cw) moves in
      subst (λ (x : Result U E). Writes writer x step w later old new) (sym is)
      (record { wrote = here; tile = tt; refused = tile; moves = moves_as writer most (2 ^ 24) w later (log_of old) (log_of new) (log_of new) (tile_of old).numbers (tile_of new).numbers (tile_of new).numbers refl refl few moved })

-- where its answer is known, nothing is coded of a step of the current block
silent_leads : (step : Unit {0} → TileStep) (f : CurrentBlock → Kind (Unit {0})) (o : Option CurrentBlock) → ((b : CurrentBlock) → Leads (f b).element.tree [] tt) → first_broken (rules_of (of_current o step f) tt) ≡ None →
    Leads (of_current o step f).element.tree [] tt
silent_leads step f None known h = let z : ⊥ = cc in absurd z
silent_leads step f (Some b) known h = known b

pub silent_wrote : {W E : Type 0} (writer : Ghosts W) (step : TileStep) (named : Unit {0} → TileStep) (f : CurrentBlock → Kind (Unit {0})) (w : W) (old new : TileState) → let k = of_current (tile_of old).current named f in
    steps k ≡ syntax_of (question_of step) (tile_of old) → k.step tt ≡ step → ((b : CurrentBlock) → Leads (f b).element.tree [] tt) → first_broken (rules_of k tt) ≡ None →
    tile_of new ≡ entered step (tile_of old) → log_of new ≡ log_of old → AreCdfs (tile_of old).numbers → Writes {U = Unit {0}} {E = E} writer (Ok tt) step w w old new
silent_wrote writer step named f w old new tree is known allowed tile log cdfs =
    let t = tile_of old in
    let numbers : (tile_of new).numbers ≡ t.numbers = ap (λ (x : Tile). x.numbers) tile ∙ (entered_same step t).0 in
    writes_numbers writer _ tt refl step (of_current t.current named f) tt w w old new (2 ^ 24) tree is allowed
    (record { symbols = []; follows = silent_leads named f t.current known allowed; fits = tt; wrote = ap (standing (writer.position w)) numbers })
    (tile ∙ ap (λ (ns : List ℕ). entered step (with_numbers ns t)) (sym numbers)) (omega arith)
    (moves_none writer _ _ _ _ _ _ log numbers cdfs)

-- what an allowed partition has
pub partition_allowed : (x y : ℕ) (size : BlockSize) (p : PartitionType) (t : Tile) → IsKept t → IsAllowed (Partition x y size p) t →
    let bo : BlockOffset = record { x = x; y = y } in IsParted t.bc.blocks bo size × IsTrue (is_allowed (has_cols t.bc.blocks bo size) (has_rows t.bc.blocks bo size) size p)
partition_allowed x y size p t k h =
    let kind = partition_kind record { x = x; y = y } size t in
    let all = ap is_none h in
    (can_part record { x = x; y = y } size t k (asking_holds kind.asking (kind.answering p) all), (all_hold (kind.answering p) (none_is _ (answering_holds kind.asking (kind.answering p) all))).0)

-- what a partition enters
pub parted_split : (x y : ℕ) (size : BlockSize) (p : PartitionType) (t : Tile) → is_split_on size p ≡ true → entered (Partition x y size p) t ≡ t
parted_split x y size p t h = ap (λ b. changed_by_all (if b then [] else option_map_or (λ s. Parted record { x = x; y = y } size s ∷ []) (subsize_of size p) []) t) h

pub parted_one : (x y : ℕ) (size : BlockSize) (p : PartitionType) (t : Tile) (o : Option BlockSize) → is_split_on size p ≡ false → subsize_of size p ≡ o → entered (Partition x y size p) t ≡ changed_by_all (option_map_or (λ s. Parted record { x = x; y = y } size s ∷ []) o []) t
parted_one x y size p t o h e =
    ap (λ b. changed_by_all (if b then [] else option_map_or (λ s. Parted record { x = x; y = y } size s ∷ []) (subsize_of size p) []) t) h
    ∙ ap (λ (q : Option BlockSize). changed_by_all (option_map_or (λ s. Parted record { x = x; y = y } size s ∷ []) q []) t) e

-- a block is within the edges
pub block_within : (t : Tile) (bo : BlockOffset) (size : BlockSize) → IsKept t → IsBlock t.bc.blocks.cols t.bc.blocks.rows bo size → (bo.x + width_mi size ≤ 1024) × (bo.y % 16 + height_mi size ≤ 16)
block_within t bo size k b =
    let few = (is_paired t k).few in
    let x = side_within (width_log2 size) bo.x bo.x b.width b.aligned.0 refl in
    let y = side_within (height_log2 size) bo.y bo.y b.height b.aligned.1 refl in
    (omega (arith, b.column, few, x.end), omega (arith, y.end, y.start))

-- the steps of the current block
pub skip_tree : (t : Tile) (b : CurrentBlock) → t.current ≡ Some b → steps (skip_kind t b) ≡ syntax_of (question_of (Skip true)) t
skip_tree t b e = ap (λ (o : Option CurrentBlock). steps (of_current o Skip (skip_kind t))) (sym e)

pub skip_entered : (t : Tile) (on : Bool) (b : CurrentBlock) → t.current ≡ Some b → entered (Skip on) t ≡ changed_by_all ((skip_kind t b).effects on) t
skip_entered t on b e = ap (λ (o : Option CurrentBlock). changed_by_all ((of_current o Skip (skip_kind t)).effects on) t) e

-- a step of the current block has no rule but those of its kind
pub skip_rules : (t : Tile) (on : Bool) (b : CurrentBlock) → first_broken (rules_of (skip_kind t b) on) ≡ None
skip_rules t on b = refl
