-- Which OBUs are too long: the sequence header or the frame.
use Rattle.std.proofs.Common.{◌≡◌, ℕ, suc, zero, ◌+◌, ◌^◌, ◌<◌, ◌++◌, List, [], ◌∷◌, Bool, true, false, Option, None, Some, Result, Ok, Err, inr, option_map, map, length, get_or, nat_lt, refl, sym, ◌∙◌, ap, subst, arith, lit<, length-append, if◌then◌else◌}
use Rattle.std.specs.Prelude.{nat_le, ◌==◌}
use Rattle.std.specs.List.{enumerate_from}
use Rattle.std.proofs.lemmas.Bool.Decides.{nat_tests}
use Rattle.std.proofs.lemmas.Grind.{flat_map-append}
use Rattle.std.proofs.lemmas.List.{append-nil, length-map, map-append}
use Rattle.av1_frame.specs.FrameKind.{is_key}
use Rattle.av1_frame.specs.MetadataRules.{metadata_fits, metadata_rules}
use Rattle.av1_frame.specs.declared.metadata.Metadata.{Metadata}
use Rattle.av1_frame.specs.declared.metadata.Metadata.TheVariants.{Cll, Mdcv, T35}
use Rattle.av1_frame.specs.declared.obu.ObuType.TheVariants.{OBU_FRAME, OBU_SEQUENCE_HEADER, OBU_TEMPORAL_DELIMITER}
use Rattle.av1_frame.specs.declared.sequence.Sequence.{Sequence}
use Rattle.av1_geometry.specs.Rules.{first_broken, rule}
use Rattle.av1_geometry.specs.declared.error.Rule.{Rule}
use Rattle.av1_tile.specs.declared.error.Place.TheVariants as places
use Rattle.av1_tile.specs.declared.error.UnitError.TheVariants.{Refused}
use Rattle.av1_tile.specs.declared.error.UnitError.{UnitError}
use Rattle.av1_step.specs.Given.{Given}
use Rattle.av1_unit.specs.Findings.{first_of, length_wrong, lengths_wrong, messages_wrong, message_wrong, Finds, FindsInRoom}
use Rattle.av1_unit.specs.Framing.{Obu, bytes_of_obus, delimiter_obus, frame_obus, frame_payload, framed, message_obu, message_obus, obus, sequence_obus, sequence_payload, where_true, with_payload}
use Rattle.av1_unit.specs.Lengths.{count_of, obus_before_frame}
use Rattle.av1_unit.proofs.Places.{enumerate-append, first_of-both, first_of-none, first_of-some}

-- what is wrong with the length of each
verdicts : ℕ → List Obu → List (Option UnitError)
verdicts n os = map (λ o. length_wrong o.0 o.1.size) (enumerate_from n os)

verdicts-append : (n : ℕ) (xs ys : List Obu) → verdicts n (xs ++ ys) ≡ verdicts n xs ++ verdicts (n + length xs) ys
unfolding verdicts
verdicts-append n xs ys =
    ap (map (λ o. length_wrong o.0 o.1.size)) (enumerate-append n xs ys)
    ∙ map-append (λ o. length_wrong o.0 o.1.size) (enumerate_from n xs) (enumerate_from (n + length xs) ys)

-- past OBUs that are short, the others count
passed : (n : ℕ) (xs ys : List Obu) → lengths_wrong n xs ≡ None → lengths_wrong n (xs ++ ys) ≡ lengths_wrong (n + length xs) ys
unfolding lengths_wrong verdicts
passed n xs ys h = ap first_of (verdicts-append n xs ys) ∙ first_of-none (verdicts n xs) (verdicts (n + length xs) ys) h

stopped : (n : ℕ) (xs ys : List Obu) (e : UnitError) → lengths_wrong n xs ≡ Some e → lengths_wrong n (xs ++ ys) ≡ Some e
unfolding lengths_wrong verdicts
stopped n xs ys e h = ap first_of (verdicts-append n xs ys) ∙ first_of-some (verdicts n xs) (verdicts (n + length xs) ys) e h

parted : (n : ℕ) (xs ys : List Obu) → lengths_wrong n (xs ++ ys) ≡ None → (lengths_wrong n xs ≡ None) × (lengths_wrong (n + length xs) ys ≡ None)
unfolding lengths_wrong verdicts
parted n xs ys h = first_of-both (verdicts n xs) (verdicts (n + length xs) ys) (sym (ap first_of (verdicts-append n xs ys)) ∙ h)

-- a short payload is not wrong, and the other way round
short_right : (n size : ℕ) → size < 2 ^ 32 → length_wrong n size ≡ None
short_right n size few = let e : nat_lt size (2 ^ 32) ≡ true = grind (arith, nat_tests) in rw e refl

right_short : (n size : ℕ) → length_wrong n size ≡ None → size < 2 ^ 32
right_short n size h = grind (arith, nat_tests)

one_alone : (n : ℕ) (o : Obu) → lengths_wrong n (o ∷ []) ≡ length_wrong n o.size
unfolding lengths_wrong
one_alone n o = alone (length_wrong n o.size)
  where
    alone : (place : Option UnitError) → first_of (place ∷ []) ≡ place
    alone None = refl
    alone (Some e) = refl

one_more : (n : ℕ) (o : Obu) (os : List Obu) → o.size < 2 ^ 32 → lengths_wrong (n + 1) os ≡ None → lengths_wrong n (o ∷ os) ≡ None
one_more n o os few h = passed n (o ∷ []) os (one_alone n o ∙ short_right n o.size few) ∙ h

none_there : (n : ℕ) → lengths_wrong n [] ≡ None
unfolding lengths_wrong
none_there n = refl

-- a metadata OBU that breaks no rule is short
short_message : (seq : Sequence) (m : Metadata) → first_broken (metadata_rules m seq) ≡ None → (message_obu seq m).size < 2 ^ 32
unfolding message_obu metadata_fits
short_message seq Cll h = lit< tt
short_message seq Mdcv h = lit< tt
short_message seq (T35 m) h = short_payload (length m.payload) (m.country_code == 255) (at_most (nat_le (length m.payload) 65535) h)
  where
    at_most : (b : Bool) → first_broken (rule 50 b ∷ []) ≡ None → b ≡ true
    at_most true e = refl
    at_most false e = absurd cc

    short_payload : (n : ℕ) (b : Bool) → nat_le n 65535 ≡ true → n + (if b then 4 else 3) < 2 ^ 32
    short_payload n true e = grind (arith, nat_tests)
    short_payload n false e = grind (arith, nat_tests)

-- of metadata OBUs with which nothing is wrong, the first breaks no rule, and nothing is wrong with the others
pub first_message : (seq : Sequence) (n : ℕ) (m : Metadata) (ms : List Metadata) → messages_wrong seq (enumerate_from n (m ∷ ms)) ≡ None → (first_broken (metadata_rules m seq) ≡ None) × (messages_wrong seq (enumerate_from (n + 1) ms) ≡ None)
unfolding messages_wrong
first_message seq n m ms h = neither (first_broken (metadata_rules m seq)) h
  where
    neither : (o : Option Rule) → first_of (option_map (Refused (places.Metadata n)) o ∷ map (message_wrong seq) (enumerate_from (n + 1) ms)) ≡ None → (o ≡ None) × (first_of (map (message_wrong seq) (enumerate_from (n + 1) ms)) ≡ None)
    neither None e = (refl, e)
    neither (Some r) e = absurd cc

short_messages : (seq : Sequence) (i n : ℕ) (ms : List Metadata) → messages_wrong seq (enumerate_from i ms) ≡ None → lengths_wrong n (map (message_obu seq) ms) ≡ None
short_messages seq i n [] h = none_there n
short_messages seq i n (m ∷ ms) h =
    let f = first_message seq i m ms h in
    one_more n (message_obu seq m) (map (message_obu seq) ms) (short_message seq m f.0) (short_messages seq (i + 1) (n + 1) ms f.1)

counted : (there : Bool) (o : Obu) → length (where_true there o) ≡ count_of there
counted true o = refl
counted false o = refl

short_delimiter : (there : Bool) → lengths_wrong 0 (where_true there (with_payload OBU_TEMPORAL_DELIMITER [])) ≡ None
short_delimiter true = one_alone 0 (with_payload OBU_TEMPORAL_DELIMITER []) ∙ short_right 0 0 (lit< tt)
short_delimiter false = none_there 0

-- the delimiter and the sequence header
leading : (g : Given) → lengths_wrong 0 (delimiter_obus g ++ sequence_obus g) ≡ lengths_wrong (count_of g.delimiter) (sequence_obus g)
leading g =
    let n : 0 + length (delimiter_obus g) ≡ count_of g.delimiter = omega (arith, counted g.delimiter (with_payload OBU_TEMPORAL_DELIMITER [])) in
    passed 0 (delimiter_obus g) (sequence_obus g) (short_delimiter g.delimiter) ∙ ap (λ k. lengths_wrong k (sequence_obus g)) n

leading_count : (g : Given) → length (delimiter_obus g ++ sequence_obus g ++ message_obus g) ≡ obus_before_frame g
leading_count g =
    omega (
      arith,
      length-append (delimiter_obus g ++ sequence_obus g) (message_obus g),
      length-append (delimiter_obus g) (sequence_obus g),
      counted g.delimiter (with_payload OBU_TEMPORAL_DELIMITER []),
      counted (is_key g.fi.frame_type) (with_payload OBU_SEQUENCE_HEADER (sequence_payload g)),
      length-map g.metadata (message_obu g.fi.sequence),
    )

-- where the sequence header is too long, it is the first
pub long_sequence : (g : Given) (tiles : List (List ℕ)) (e : UnitError) → lengths_wrong (count_of g.delimiter) (sequence_obus g) ≡ Some e → lengths_wrong 0 (obus g tiles) ≡ Some e
unfolding obus
long_sequence g tiles e h =
    stopped 0 (delimiter_obus g ++ sequence_obus g ++ message_obus g) (frame_obus g tiles) e (stopped 0 (delimiter_obus g ++ sequence_obus g) (message_obus g) e (leading g ∙ h))

-- and else the frame counts alone
pub frame_counts : (g : Given) (tiles : List (List ℕ)) → messages_wrong g.fi.sequence (enumerate_from 0 g.metadata) ≡ None → lengths_wrong (count_of g.delimiter) (sequence_obus g) ≡ None
    → lengths_wrong 0 (obus g tiles) ≡ length_wrong (obus_before_frame g) (length (frame_payload g tiles))
unfolding obus
frame_counts g tiles messages h =
    let two = delimiter_obus g ++ sequence_obus g in
    let three : lengths_wrong 0 (two ++ message_obus g) ≡ None =
    passed 0 two (message_obus g) (leading g ∙ h) ∙ short_messages g.fi.sequence 0 (0 + length two) g.metadata messages in
    let n : 0 + length (two ++ message_obus g) ≡ obus_before_frame g = omega (arith, leading_count g) in
    passed 0 (two ++ message_obus g) (frame_obus g tiles) three ∙ ap (λ k. lengths_wrong k (frame_obus g tiles)) n
    ∙ one_alone (obus_before_frame g) (with_payload OBU_FRAME (frame_payload g tiles))

-- what follows where nothing is too long
pub short_sequence : (g : Given) (tiles : List (List ℕ)) → lengths_wrong 0 (obus g tiles) ≡ None → is_key g.fi.frame_type ≡ true → length (sequence_payload g) < 2 ^ 32
unfolding obus
short_sequence g tiles h key =
    let p = parted 0 (delimiter_obus g ++ sequence_obus g ++ message_obus g) (frame_obus g tiles) h in
    let q = parted 0 (delimiter_obus g ++ sequence_obus g) (message_obus g) p.0 in
    let r : lengths_wrong (count_of g.delimiter) (where_true true (with_payload OBU_SEQUENCE_HEADER (sequence_payload g))) ≡ None =
    subst (λ b. lengths_wrong (count_of g.delimiter) (where_true b (with_payload OBU_SEQUENCE_HEADER (sequence_payload g))) ≡ None) key (sym (leading g) ∙ q.0) in
    right_short (count_of g.delimiter) (length (sequence_payload g)) (sym (one_alone (count_of g.delimiter) (with_payload OBU_SEQUENCE_HEADER (sequence_payload g))) ∙ r)

pub short_frame : (g : Given) (tiles : List (List ℕ)) → lengths_wrong 0 (obus g tiles) ≡ None → length (frame_payload g tiles) < 2 ^ 32
unfolding obus
short_frame g tiles h =
    let p = parted 0 (delimiter_obus g ++ sequence_obus g ++ message_obus g) (frame_obus g tiles) h in
    let n = 0 + length (delimiter_obus g ++ sequence_obus g ++ message_obus g) in
    right_short n (length (frame_payload g tiles)) (sym (one_alone n (with_payload OBU_FRAME (frame_payload g tiles))) ∙ p.1)

-- each metadata OBU breaks no rule
pub message_at : (seq : Sequence) (n : ℕ) (ms : List Metadata) (k : ℕ) (m : Metadata) → messages_wrong seq (enumerate_from n ms) ≡ None → k < length ms → first_broken (metadata_rules (get_or ms k m) seq) ≡ None
message_at seq n [] k m h within = absurd (omega arith)
message_at seq n (x ∷ ms) zero m h within = (first_message seq n x ms h).0
message_at seq n (x ∷ ms) (suc k) m h within = message_at seq (n + 1) ms k m (first_message seq n x ms h).1 (omega arith)

finds_in_room : {X : Type 0} (r : Result X UnitError) (here there : Option UnitError) → there ≡ here → Finds r here → FindsInRoom r there
finds_in_room (Ok x) here there e h = e ∙ h
finds_in_room (Err x) here there e h = inr (e ∙ h)

-- what is found of the sequence header
pub found_sequence : {X : Type 0} (r : Result X UnitError) (g : Given) (n : ℕ) → is_key g.fi.frame_type ≡ true → Finds r (length_wrong n (length (sequence_payload g))) → FindsInRoom r (lengths_wrong n (sequence_obus g))
found_sequence r g n key found =
    let o = with_payload OBU_SEQUENCE_HEADER (sequence_payload g) in
    let is : lengths_wrong n (sequence_obus g) ≡ length_wrong n (length (sequence_payload g)) = ap (λ b. lengths_wrong n (where_true b o)) key ∙ one_alone n o in
    finds_in_room r (length_wrong n (length (sequence_payload g))) (lengths_wrong n (sequence_obus g)) is found

pub no_sequence : (g : Given) (n : ℕ) → is_key g.fi.frame_type ≡ false → lengths_wrong n (sequence_obus g) ≡ None
no_sequence g n key = ap (λ b. lengths_wrong n (where_true b (with_payload OBU_SEQUENCE_HEADER (sequence_payload g)))) key ∙ none_there n

pub found_frame : {X : Type 0} (r : Result X UnitError) (g : Given) (tiles : List (List ℕ)) (n len : ℕ) → messages_wrong g.fi.sequence (enumerate_from 0 g.metadata) ≡ None → lengths_wrong (count_of g.delimiter) (sequence_obus g) ≡ None
    → n ≡ obus_before_frame g → len ≡ length (frame_payload g tiles) → Finds r (length_wrong n len) → FindsInRoom r (lengths_wrong 0 (obus g tiles))
found_frame r g tiles n len messages sequence index size found =
    finds_in_room r (length_wrong n len) (lengths_wrong 0 (obus g tiles)) (frame_counts g tiles messages sequence ∙ ap (λ k. length_wrong k (length (frame_payload g tiles))) (sym index) ∙ ap (length_wrong n) (sym size)) found

-- the bytes of a unit are those of its parts
pub framed_parts : (g : Given) (tiles : List (List ℕ)) → framed g tiles ≡ bytes_of_obus (delimiter_obus g) ++ bytes_of_obus (sequence_obus g) ++ bytes_of_obus (message_obus g) ++ (with_payload OBU_FRAME (frame_payload g tiles)).bytes
unfolding framed obus
framed_parts g tiles =
    let bytes : Obu → List ℕ = λ o. o.bytes in
    flat_map-append bytes (delimiter_obus g ++ sequence_obus g ++ message_obus g) (frame_obus g tiles)
    ∙ ap (λ (l : List ℕ). l ++ bytes_of_obus (frame_obus g tiles)) (flat_map-append bytes (delimiter_obus g ++ sequence_obus g) (message_obus g))
    ∙ ap (λ (l : List ℕ). l ++ bytes_of_obus (message_obus g) ++ bytes_of_obus (frame_obus g tiles)) (flat_map-append bytes (delimiter_obus g) (sequence_obus g))
    ∙ ap (λ (l : List ℕ). bytes_of_obus (delimiter_obus g) ++ bytes_of_obus (sequence_obus g) ++ bytes_of_obus (message_obus g) ++ l) (append-nil (with_payload OBU_FRAME (frame_payload g tiles)).bytes)
