-- What is coded and framed is what the headline promises.
use Rattle.std.proofs.Common.{◌≡◌, ◌⊎◌, inl, inr, ℕ, ◌+◌, ◌^◌, ◌≤◌, Bool, true, false, Option, List, [], ◌∷◌, None, Some, option_map, length, map, nat_lt, refl, sym, ◌∙◌, ap, subst, arith, if◌then◌else◌}
use Rattle.std.specs.Prelude.{◌==◌}
use Rattle.std.specs.List.{enumerate_from}
use Rattle.std.proofs.lemmas.Bool.Decides.{nat_tests}
use Rattle.av1_cdf.specs.Tables.{table_rules}
use Rattle.av1_coef.specs.Scans.{scans_rules}
use Rattle.av1_frame.specs.FrameRules.{frame_rules}
use Rattle.av1_frame.specs.MetadataRules.{metadata_rules}
use Rattle.av1_frame.specs.SequenceRules.{sequence_rules}
use Rattle.av1_frame.specs.declared.metadata.Metadata.{Metadata}
use Rattle.av1_frame.specs.declared.sequence.Sequence.{Sequence}
use Rattle.av1_geometry.specs.Rules.{Check, first_broken, rule}
use Rattle.av1_geometry.specs.declared.error.Rule.{Rule}
use Rattle.av1_model.specs.Interval.{final_bytes}
use Rattle.av1_tile.specs.declared.error.Place.{Place}
use Rattle.av1_tile.specs.declared.error.Place.TheVariants as places
use Rattle.av1_tile.specs.declared.error.UnitError.{UnitError}
use Rattle.av1_tile.specs.declared.error.UnitError.TheVariants.{OutOfMemory, Refused, SinkFault, TooLong}
use Rattle.av1_tile.specs.declared.report.TileReport.{TileReport}
use Rattle.av1_step.specs.declared.unit.Item.{Item}
use Rattle.av1_step.specs.Given.{broken_scan_rule, Given, tile_count, IsGiven}
use Rattle.av1_tile.specs.TileBytes.{ending, tile_report, wrong_in}
use Rattle.av1_unit.specs.Checked.{IsChecked}
use Rattle.av1_unit.specs.Coded.{Numbered, numbered, report_of, tiles_of, told_of}
use Rattle.av1_unit.specs.Findings.{broken_at, first_of, first_refusal, length_wrong, lengths_wrong, message_wrong, messages_wrong, places_before, places_behind, script_rules, scripts_wrong}
use Rattle.av1_unit.specs.Framing.{Obu, framed, obus}
use Rattle.av1_unit.specs.Headline.{IsWritten}
use Rattle.av1_unit.specs.Tiles.{bytes_of, AreTiles}
use Rattle.av1_unit.specs.Plain.{PlainUnit}
use Rattle.av1_unit.specs.Report.{ReportLists}
use Rattle.av1_unit.proofs.Places.{first_of-both, first_of-here, first_of-next, first_of-none, first_of-some}
use Rattle.av1_unit.proofs.TileLaws.{no_sink_in_script, only_tile, tile_of_script}

-- nothing wrong at any place
pub valid_unit : (u : PlainUnit) → first_of (places_before u) ≡ None → scripts_wrong u.given (numbered u) ≡ None → lengths_wrong 0 (obus u.given (tiles_of u.given (numbered u))) ≡ None
    → first_refusal u ≡ None
unfolding first_refusal places_behind
valid_unit u before scripts lengths =
    let long = lengths_wrong 0 (obus u.given (tiles_of u.given (numbered u))) in
    first_of-none (places_before u) (places_behind u) before ∙ first_of-next (scripts_wrong u.given (numbered u)) (long ∷ []) scripts ∙ first_of-next long [] lengths

pub wrong_before : (u : PlainUnit) (e : UnitError) → first_of (places_before u) ≡ Some e → first_refusal u ≡ Some e
unfolding first_refusal
wrong_before u e h = first_of-some (places_before u) (places_behind u) e h

pub wrong_script : (u : PlainUnit) (e : UnitError) → first_of (places_before u) ≡ None → scripts_wrong u.given (numbered u) ≡ Some e → first_refusal u ≡ Some e
unfolding first_refusal places_behind
wrong_script u e before h =
    first_of-none (places_before u) (places_behind u) before
    ∙ first_of-here (scripts_wrong u.given (numbered u)) (lengths_wrong 0 (obus u.given (tiles_of u.given (numbered u))) ∷ []) e h

pub wrong_length : (u : PlainUnit) (e : UnitError) → first_of (places_before u) ≡ None → scripts_wrong u.given (numbered u) ≡ None
    → lengths_wrong 0 (obus u.given (tiles_of u.given (numbered u))) ≡ Some e → first_refusal u ≡ Some e
unfolding first_refusal places_behind
wrong_length u e before scripts h =
    let long = lengths_wrong 0 (obus u.given (tiles_of u.given (numbered u))) in
    first_of-none (places_before u) (places_behind u) before ∙ first_of-next (scripts_wrong u.given (numbered u)) (long ∷ []) scripts ∙ first_of-here long [] e h

-- and what is known of a valid unit
pub record IsRight (u : PlainUnit) : Type 0 where
  pub before : first_of (places_before u) ≡ None
  pub scripts : scripts_wrong u.given (numbered u) ≡ None
  pub lengths : lengths_wrong 0 (obus u.given (tiles_of u.given (numbered u))) ≡ None

pub right_unit : (u : PlainUnit) → first_refusal u ≡ None → IsRight u
unfolding first_refusal places_behind
right_unit u h =
    let long = lengths_wrong 0 (obus u.given (tiles_of u.given (numbered u))) in
    let all = first_of-both (places_before u) (places_behind u) h in
    let last = first_of-both (scripts_wrong u.given (numbered u) ∷ []) (long ∷ []) all.1 in
    record { before = all.0; scripts = alone (scripts_wrong u.given (numbered u)) last.0; lengths = alone long last.1 }
  where
    alone : (place : Option UnitError) → first_of (place ∷ []) ≡ None → place ≡ None
    alone None e = refl
    alone (Some x) e = absurd cc

first_script : (g : Given) (k : ℕ) (items : List Item) (scripts : List (List Item)) → scripts_wrong g (enumerate_from k (items ∷ scripts)) ≡ None → (wrong_in g k items ≡ None) × (scripts_wrong g (enumerate_from (k + 1) scripts) ≡ None)
unfolding scripts_wrong
first_script g k items scripts h = neither (wrong_in g k items) (map (λ s. wrong_in g s.0 s.1) (enumerate_from (k + 1) scripts)) h
  where
    neither : (place : Option UnitError) (places : List (Option UnitError)) → first_of (place ∷ places) ≡ None → (place ≡ None) × (first_of places ≡ None)
    neither None places e = (refl, e)
    neither (Some x) places e = absurd cc

-- scripts with which nothing is wrong have these tiles
pub are_tiles : (g : Given) (k : ℕ) (scripts : List (List Item)) → IsGiven g → k + length scripts ≤ tile_count g.fi → scripts_wrong g (enumerate_from k scripts) ≡ None → AreTiles g k scripts (tiles_of g (enumerate_from k scripts)) (told_of g (enumerate_from k scripts))
unfolding tiles_of told_of
are_tiles g k [] given inside right = (refl, refl)
are_tiles g k (items ∷ scripts) given inside right =
    let f = first_script g k items scripts right in
    (tile_of_script g k items given (omega (arith, inside)) f.0, are_tiles g (k + 1) scripts given (omega (arith, inside)) f.1)

-- and no others
pub record OnlyTiles (g : Given) (scripts : List Numbered) (tiles : List (List ℕ)) (told : List TileReport) : Type 0 where
  pub tiles_are : tiles ≡ tiles_of g scripts
  pub told_are : told ≡ told_of g scripts

pub only_tiles : (g : Given) (k : ℕ) (scripts : List (List Item)) (tiles : List (List ℕ)) (told : List TileReport) → IsGiven g → k + length scripts ≤ tile_count g.fi → scripts_wrong g (enumerate_from k scripts) ≡ None → AreTiles g k scripts tiles told
    → OnlyTiles g (enumerate_from k scripts) tiles told
unfolding tiles_of told_of
only_tiles g k [] tiles told given inside right (no_tiles, no_told) = record { tiles_are = no_tiles; told_are = no_told }
only_tiles g k (items ∷ scripts) [] told given inside right each = absurd each
only_tiles g k (items ∷ scripts) (tile ∷ tiles) [] given inside right each = absurd each
only_tiles g k (items ∷ scripts) (tile ∷ tiles) (told ∷ more) given inside right (is, others) =
    let f = first_script g k items scripts right in
    let one = only_tile g k items tile told given (omega (arith, inside)) f.0 is in
    let rest = only_tiles g (k + 1) scripts tiles more given (omega (arith, inside)) f.1 others in
    record {
      tiles_are = ap (λ t. t ∷ tiles) one.is ∙ ap (λ (ts : List (List ℕ)). final_bytes (ending g k items) ∷ ts) rest.tiles_are;
      told_are = ap (λ t. t ∷ more) one.told_is ∙ ap (λ (ts : List TileReport). tile_report g k items ∷ ts) rest.told_are;
    }

pub not_broken : (place : Place) (rules : List Check) → broken_at place rules ≡ None → first_broken rules ≡ None
not_broken place rules h = none_of (first_broken rules) h
  where
    none_of : (o : Option Rule) → option_map (Refused place) o ≡ None → o ≡ None
    none_of None e = refl
    none_of (Some r) e = absurd cc

same_count : (n m : ℕ) → first_broken (rule 55 (n == m) ∷ []) ≡ None → n ≡ m
same_count n m h = tested (n == m) refl h
  where
    tested : (b : Bool) → b ≡ (n == m) → first_broken (rule 55 b ∷ []) ≡ None → n ≡ m
    tested true e k = grind (arith, nat_tests)
    tested false e k = absurd cc

-- what is known where nothing is wrong before the scripts
pub checked_unit : (u : PlainUnit) → first_of (places_before u) ≡ None → IsChecked u
unfolding places_before broken_scan_rule
checked_unit u h =
    let a = parted (broken_at places.Tables (table_rules u.given.tables)) _ h in
    let s = parted (broken_at places.Scans (scans_rules u.given.scans)) _ a.1 in
    let b = parted (broken_at places.Sequence (sequence_rules u.given.fi.sequence)) _ s.1 in
    let c = parted (broken_at places.Frame (frame_rules u.given.fi u.given.fs u.given.refs)) _ b.1 in
    let d = parted (messages_wrong u.given.fi.sequence (enumerate_from 0 u.given.metadata)) _ c.1 in
    let e = parted (broken_at places.Scripts (script_rules u)) [] d.1 in
    record {
      given = record {
        tables = not_broken places.Tables (table_rules u.given.tables) a.0;
        scans = not_broken places.Scans (scans_rules u.given.scans) s.0;
        sequence = not_broken places.Sequence (sequence_rules u.given.fi.sequence) b.0;
        frame = not_broken places.Frame (frame_rules u.given.fi u.given.fs u.given.refs) c.0;
      };
      messages = d.0;
      scripts = same_count (length u.scripts) (tile_count u.given.fi) (not_broken places.Scripts (script_rules u) e.0);
    }
  where
    parted : (place : Option UnitError) (places : List (Option UnitError)) → first_of (place ∷ places) ≡ None → (place ≡ None) × (first_of places ≡ None)
    parted None places e = (refl, e)
    parted (Some x) places e = absurd cc

-- the bytes and the report of a unit with which nothing is wrong
pub written : (u : PlainUnit) (bytes : List ℕ) (report : ReportLists) → IsRight u → bytes ≡ bytes_of u → report ≡ report_of u → IsWritten u bytes report
written u bytes report right is told =
    let checked = checked_unit u right.before in
    let lists : report.tiles ≡ told_of u.given (numbered u) = ap (λ (r : ReportLists). r.tiles) told in
    record {
      valid = valid_unit u right.before right.scripts right.lengths;
      tiles = tiles_of u.given (numbered u);
      framed_unit = is;
      each = subst (λ (ts : List TileReport). AreTiles u.given 0 u.scripts (tiles_of u.given (numbered u)) ts) (sym lists) (are_tiles u.given 0 u.scripts checked.given (omega (arith, checked.scripts)) right.scripts);
      trials = ap (λ (r : ReportLists). r.trials) told;
    }

-- what is promised of a unit that was written leaves no byte and no number open
pub written_is : (u : PlainUnit) (bytes : List ℕ) (report : ReportLists) → IsWritten u bytes report → (bytes ≡ bytes_of u) × (report ≡ report_of u)
written_is u bytes report w =
    let right = right_unit u w.valid in
    let checked = checked_unit u right.before in
    let only = only_tiles u.given 0 u.scripts w.tiles report.tiles checked.given (omega (arith, checked.scripts)) right.scripts w.each in
    let told = only.told_are in
    let trials = w.trials in
    (w.framed_unit ∙ ap (framed u.given) only.tiles_are, λ i. record { tiles = told i; trials = trials i })

-- no place has a fault of a sink
no_sink_in : (place : Option UnitError) (places : List (Option UnitError)) → (place ≡ Some SinkFault → ⊥) → (first_of places ≡ Some SinkFault → ⊥) → first_of (place ∷ places) ≡ Some SinkFault → ⊥
no_sink_in None places here there h = there h
no_sink_in (Some e) places here there h = here h

no_sink_in_rules : (place : Place) (rules : List Check) → broken_at place rules ≡ Some SinkFault → ⊥
no_sink_in_rules place rules h = never (first_broken rules) h
  where
    never : (o : Option Rule) → option_map (Refused place) o ≡ Some SinkFault → ⊥
    never None e = cc
    never (Some r) e = cc

no_sink_in_messages : (seq : Sequence) (n : ℕ) (ms : List Metadata) → messages_wrong seq (enumerate_from n ms) ≡ Some SinkFault → ⊥
unfolding messages_wrong
no_sink_in_messages seq n [] h = cc
no_sink_in_messages seq n (m ∷ ms) h =
    no_sink_in (message_wrong seq (n, m)) (map (message_wrong seq) (enumerate_from (n + 1) ms)) (no_sink_in_rules (places.Metadata n) (metadata_rules m seq)) (no_sink_in_messages seq (n + 1) ms) h

no_sink_in_scripts : (g : Given) (n : ℕ) (scripts : List (List Item)) → scripts_wrong g (enumerate_from n scripts) ≡ Some SinkFault → ⊥
unfolding scripts_wrong
no_sink_in_scripts g n [] h = cc
no_sink_in_scripts g n (items ∷ scripts) h =
    no_sink_in (wrong_in g n items) (map (λ s. wrong_in g s.0 s.1) (enumerate_from (n + 1) scripts)) (no_sink_in_script g n items) (no_sink_in_scripts g (n + 1) scripts) h

no_sink_in_length : (n size : ℕ) → length_wrong n size ≡ Some SinkFault → ⊥
no_sink_in_length n size h = never (nat_lt size (2 ^ 32)) h
  where
    never : (b : Bool) → (if b then None else Some (TooLong (places.Obu n))) ≡ Some SinkFault → ⊥
    never true e = cc
    never false e = cc

no_sink_in_lengths : (n : ℕ) (os : List Obu) → lengths_wrong n os ≡ Some SinkFault → ⊥
unfolding lengths_wrong
no_sink_in_lengths n [] h = cc
no_sink_in_lengths n (o ∷ os) h =
    no_sink_in (length_wrong n o.size) (map (λ p. length_wrong p.0 p.1.size) (enumerate_from (n + 1) os)) (no_sink_in_length n o.size) (no_sink_in_lengths (n + 1) os) h

-- nothing that is wrong with a unit is a fault of a sink
pub no_sink : (u : PlainUnit) → first_refusal u ≡ Some SinkFault → ⊥
unfolding first_refusal places_before places_behind broken_scan_rule
no_sink u =
    no_sink_in (broken_at places.Tables (table_rules u.given.tables)) _ (no_sink_in_rules places.Tables (table_rules u.given.tables))
    (no_sink_in (broken_at places.Scans (scans_rules u.given.scans)) _ (no_sink_in_rules places.Scans (scans_rules u.given.scans))
    (no_sink_in (broken_at places.Sequence (sequence_rules u.given.fi.sequence)) _ (no_sink_in_rules places.Sequence (sequence_rules u.given.fi.sequence))
    (no_sink_in (broken_at places.Frame (frame_rules u.given.fi u.given.fs u.given.refs)) _ (no_sink_in_rules places.Frame (frame_rules u.given.fi u.given.fs u.given.refs))
    (no_sink_in (messages_wrong u.given.fi.sequence (enumerate_from 0 u.given.metadata)) _ (no_sink_in_messages u.given.fi.sequence 0 u.given.metadata)
    (no_sink_in (broken_at places.Scripts (script_rules u)) _ (no_sink_in_rules places.Scripts (script_rules u))
    (no_sink_in (scripts_wrong u.given (numbered u)) _ (no_sink_in_scripts u.given 0 u.scripts)
    (no_sink_in (lengths_wrong 0 (obus u.given (tiles_of u.given (numbered u)))) [] (no_sink_in_lengths 0 (obus u.given (tiles_of u.given (numbered u)))) (λ e. cc))))))))

-- an error of a unit is no fault of a sink
pub not_sink : (u : PlainUnit) (e : UnitError) → (e ≡ OutOfMemory) ⊎ (first_refusal u ≡ Some e) → e ≡ SinkFault → ⊥
not_sink u e (inl m) is = cc
not_sink u e (inr wrong) is = no_sink u (wrong ∙ ap Some is)
