-- What is known of a tile, from what is wrong with its script: nothing, or no fault of a sink.
use Rattle.std.proofs.Common.{◌≡◌, ℕ, ◌+◌, ◌/◌, ◌<◌, Bool, true, false, Option, List, [], ◌∷◌, None, Some, length, map, refl, sym, ◌∙◌, ap, subst, arith, if◌then◌else◌}
use Rattle.std.specs.Option.{option_map_or}
use Rattle.av1_cdf.proofs.Learning.{cdfs_of_tables}
use Rattle.av1_ec.specs.Rate.{tell_at}
use Rattle.av1_model.specs.Interval.{Holds, Interval, bits, final_bytes, whole}
use Rattle.av1_model.specs.Position.{Position, encoder_at}
use Rattle.av1_model.specs.Reading.{Coding}
use Rattle.av1_model.proofs.Final.{holds_final, length-final_bytes}
use Rattle.av1_model.proofs.Positions.{fake_advanced_all, shift_advanced_all}
use Rattle.av1_step.specs.declared.error.StepFault.{StepFault}
use Rattle.av1_step.specs.declared.error.StepFault.TheVariants.{TooLong, Broken}
use Rattle.av1_tile.specs.declared.error.UnitError.{UnitError}
use Rattle.av1_tile.specs.declared.error.UnitError.TheVariants.{BadScript, SinkFault}
use Rattle.av1_tile.specs.declared.report.TileReport.{TileReport}
use Rattle.av1_step.specs.declared.unit.Item.{Item}
use Rattle.av1_tile.specs.Coder.{HasCoded}
use Rattle.av1_step.specs.Given.{Given, IsGiven, tile_count}
use Rattle.av1_step.specs.Script.{after_all}
use Rattle.av1_step.specs.Sound.{IsSound}
use Rattle.av1_step.specs.Step.{question_of}
use Rattle.av1_step.specs.Tile.{Tile}
use Rattle.av1_step.specs.Script.{begin}
use Rattle.av1_tile.specs.TileBytes.{ending, started, tile_report, wrong_in, IsTile}
use Rattle.av1_tile.specs.Trials.{Progress, surviving, moved, moved_all, misplaced, item_fault, error_of, no_trial, first_wrong}
use Rattle.av1_step.proofs.Fresh.{fresh_sound}
use Rattle.av1_step.proofs.ReadingBack.{sound_after_all, read_all, read_is}
use Rattle.av1_tile.proofs.Surviving.{none_match, survives}

begin_sound : (g : Given) (k : ℕ) → IsGiven g → k < tile_count g.fi → IsSound (begin g k)
begin_sound g k given inside = fresh_sound g k given inside (cdfs_of_tables g.tables g.fi.base_q_idx given.tables)

-- a script with which nothing is wrong has a tile, and this is told of it
pub tile_of_script : (g : Given) (k : ℕ) (items : List Item) → IsGiven g → k < tile_count g.fi → wrong_in g k items ≡ None → IsTile g k items (final_bytes (ending g k items)) (tile_report g k items)
tile_of_script g k items given inside right =
    let at = begin g k in
    let steps = surviving items in
    let end = after_all at steps in
    let s = survives at items 0 at [] [] [] [] refl refl (none_match at) right in
    let ends : (moved_all 0 (started at) items).at ≡ end = s.0 in
    let sound = begin_sound g k given inside in
    let valid = sound_after_all 0 at steps sound s.1 in
    let final : final_bytes (ending g k items) ≡ final_bytes end.interval = ap (λ (a : Coding Tile). final_bytes a.interval) ends in
    let counted : bits (ending g k items) ≡ bits end.interval = ap (λ (a : Coding Tile). bits a.interval) ends in
    let held : Holds (final_bytes (ending g k items)) end.interval = subst (λ (bs : List ℕ). Holds bs end.interval) (sym final) (holds_final end.interval valid.interval) in
    record {
      end = end;
      reads_back = read_all (final_bytes (ending g k items)) 0 at steps sound s.1 held;
      final = final;
      reported = ap (λ n. record { bytes = length (final_bytes (ending g k items)); bits = n }) counted;
    }

-- and no other
pub record OnlyTile (g : Given) (k : ℕ) (items : List Item) (tile : List ℕ) (told : TileReport) : Type 0 where
  pub is : tile ≡ final_bytes (ending g k items)
  pub told_is : told ≡ tile_report g k items

pub only_tile : (g : Given) (k : ℕ) (items : List Item) (tile : List ℕ) (told : TileReport) → IsGiven g → k < tile_count g.fi → wrong_in g k items ≡ None → IsTile g k items tile told → OnlyTile g k items tile told
only_tile g k items tile told given inside right t =
    let at = begin g k in
    let s = survives at items 0 at [] [] [] [] refl refl (none_match at) right in
    let read = read_is tile 0 (map question_of (surviving items)) (surviving items) at t.end (begin_sound g k given inside) t.reads_back in
    let ends : t.end.interval ≡ ending g k items = ap (λ (c : Coding Tile). c.interval) (read.ends ∙ sym s.0) in
    let final : tile ≡ final_bytes (ending g k items) = t.final ∙ ap final_bytes ends in
    record {
      is = final;
      told_is = t.reported ∙ ap (λ (l : List ℕ). record { bytes = length l; bits = bits t.end.interval }) final ∙ ap (λ i. record { bytes = length (final_bytes (ending g k items)); bits = bits i }) ends;
    }

-- a writer that was new and coded a script tells the bits of where it ended
pub told_bits : (start position : Position) (i : Interval) → HasCoded start position i → tell_at position ≡ bits i
told_bits start position i h =
    let shift : position.shift ≡ i.shift =
    ap (λ (q : Position). q.shift) h.stored ∙ shift_advanced_all start (encoder_at whole) h.tokens h.new.0 h.new.1 ∙ ap (λ (q : Position). q.shift) h.encoded in
    let fake : position.fake ≡ 0 = ap (λ (q : Position). q.fake) h.stored ∙ fake_advanced_all start h.tokens ∙ h.new.2 in
    rw (shift, fake) (omega arith)

-- of which the final bytes are the whole bytes
pub told_report : (g : Given) (k : ℕ) (items : List Item) (start position : Position) (n m : ℕ) → HasCoded start position (ending g k items) → n ≡ tell_at position → m ≡ (n + 7) / 8
    → (record { bytes = m; bits = n }) ≡ tile_report g k items
told_report g k items start position n m h is bytes =
    let told : n ≡ bits (ending g k items) = is ∙ told_bits start position (ending g k items) h in
    let len : m ≡ length (final_bytes (ending g k items)) = omega (arith, told, bytes, length-final_bytes (ending g k items)) in
    λ i. record { bytes = len i; bits = told i }

no_sink_at_end : (b : Bool) (k n : ℕ) → (if b then None else Some (BadScript k n)) ≡ Some SinkFault → ⊥
no_sink_at_end true k n h = cc
no_sink_at_end false k n h = cc

no_sink_in_choice : {A : Type 0} (bad : Bool) (k n : ℕ) (say : A → UnitError) (broken : Option A) (rest : Option UnitError) → ((rule : A) → say rule ≡ SinkFault → ⊥) → (rest ≡ Some SinkFault → ⊥)
    → (if bad then Some (BadScript k n) else option_map_or (λ rule. Some (say rule)) broken rest) ≡ Some SinkFault → ⊥
no_sink_in_choice true k n say broken rest never other h = cc
no_sink_in_choice false k n say None rest never other h = other h
no_sink_in_choice false k n say (Some rule) rest never other h = never rule cc

no_sink_of_item : (k n : ℕ) (fault : StepFault) → error_of k n fault ≡ SinkFault → ⊥
no_sink_of_item k n TooLong e = cc
no_sink_of_item k n (Broken rule) e = cc

no_sink_in_items : (n : ℕ) (p : Progress) (items : List Item) → first_wrong n p items ≡ Some SinkFault → ⊥
no_sink_in_items n p [] h = no_sink_at_end (no_trial p.trials) p.at.context.number n h
no_sink_in_items n p (item ∷ items) h =
    no_sink_in_choice (misplaced item p.at.context p.trials) p.at.context.number n (error_of p.at.context.number n) (item_fault item p.at) (first_wrong (n + 1) (moved n p item) items)
    (no_sink_of_item p.at.context.number n) (no_sink_in_items (n + 1) (moved n p item) items) h

-- nothing that is wrong with a script is a fault of a sink
pub no_sink_in_script : (g : Given) (k : ℕ) (items : List Item) → wrong_in g k items ≡ Some SinkFault → ⊥
no_sink_in_script g k items h = no_sink_in_items 0 (started (begin g k)) items h
