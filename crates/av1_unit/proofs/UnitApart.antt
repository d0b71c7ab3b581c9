-- Every framed unit is taken apart, and none is the proper beginning of another.
use Rattle.std.proofs.Common.{◌≡◌, ℕ, ◌+◌, ◌≤◌, ◌++◌, List, [], ◌∷◌, Bool, true, false, Option, Some, None, length, map, refl, sym, ◌∙◌, ap, arith, length-append}
use Rattle.std.specs.Prelude.{◌==◌}
use Rattle.std.proofs.lemmas.List.{append-nil}
use Rattle.av1_frame.specs.FrameKind.{is_key}
use Rattle.av1_frame.specs.Obu.{obu_type_number}
use Rattle.av1_frame.specs.declared.metadata.Metadata.{Metadata}
use Rattle.av1_frame.specs.declared.metadata.Metadata.TheVariants.{Cll, Mdcv, T35}
use Rattle.av1_frame.specs.declared.obu.ObuType.{ObuType}
use Rattle.av1_frame.specs.declared.obu.ObuType.TheVariants.{OBU_FRAME, OBU_METADATA, OBU_SEQUENCE_HEADER, OBU_TEMPORAL_DELIMITER}
use Rattle.av1_frame.specs.declared.sequence.Sequence.{Sequence}
use Rattle.av1_step.specs.Given.{Given}
use Rattle.av1_unit.specs.Apart.{kind_and_payload, take_unit, TakenUnit}
use Rattle.av1_unit.specs.Framing.{Obu, delimiter_obus, frame_payload, framed, message_obu, message_obus, messages_of, obus, sequence_obus, sequence_payload, where_true, with_payload}
use Rattle.av1_unit.proofs.MessageParts.{display_obu, light_obu, t35_obu}
use Rattle.av1_unit.proofs.TakingApart.{leading_append, unit_taken, AreLeading, IsLeading, IsObu}

with_parts : (kind : ObuType) (payload : List ℕ) → IsObu (with_payload kind payload)
with_parts kind payload = record { payload = payload; size = refl; is = refl }

where_leading : (there : Bool) (o : Obu) → IsLeading o → AreLeading (where_true there o)
where_leading true o h = (h, tt)
where_leading false o h = tt

message_kind : (seq : Sequence) (m : Metadata) → (message_obu seq m).kind ≡ OBU_METADATA
unfolding message_obu
message_kind seq Cll = refl
message_kind seq Mdcv = refl
message_kind seq (T35 m) = refl

message_parts : (seq : Sequence) (m : Metadata) → IsObu (message_obu seq m)
message_parts seq Cll = light_obu seq Cll refl
message_parts seq Mdcv = display_obu seq Mdcv refl
message_parts seq (T35 m) = t35_obu seq (T35 m) m refl

messages_leading : (seq : Sequence) (ms : List Metadata) → AreLeading (messages_of seq ms)
messages_leading seq [] = tt
messages_leading seq (m ∷ ms) = ((message_parts seq m, ap (λ k. obu_type_number k == obu_type_number OBU_FRAME) (message_kind seq m)), messages_leading seq ms)

pub leading : (g : Given) → AreLeading (delimiter_obus g ++ sequence_obus g ++ message_obus g)
leading g =
    leading_append (delimiter_obus g ++ sequence_obus g) (message_obus g)
    (leading_append (delimiter_obus g) (sequence_obus g) (where_leading g.delimiter (with_payload OBU_TEMPORAL_DELIMITER []) (with_parts OBU_TEMPORAL_DELIMITER [], refl))
    (where_leading (is_key g.fi.frame_type) (with_payload OBU_SEQUENCE_HEADER (sequence_payload g)) (with_parts OBU_SEQUENCE_HEADER (sequence_payload g), refl)))
    (messages_leading g.fi.sequence g.metadata)

-- by the kinds and lengths of its OBUs, whatever follows it
pub apart : (g : Given) (tiles : List (List ℕ)) (more : List ℕ) (n : ℕ) → length (obus g tiles) ≤ n → take_unit n (framed g tiles ++ more) ≡ Some (record { obus = map kind_and_payload (obus g tiles); rest = more })
unfolding framed obus
apart g tiles more n few =
    let os = delimiter_obus g ++ sequence_obus g ++ message_obus g in
    let frame = with_payload OBU_FRAME (frame_payload g tiles) in
    unit_taken n os frame more (omega (arith, few, length-append os (frame ∷ []))) (leading g) (with_parts OBU_FRAME (frame_payload g tiles)) refl

rest_of : Option TakenUnit → List ℕ
rest_of None = []
rest_of (Some u) = u.rest

-- none is the proper beginning of another
pub no_prefix : (g h : Given) (tiles others : List (List ℕ)) (more : List ℕ) → framed g tiles ++ more ≡ framed h others → more ≡ []
unfolding rest_of
no_prefix g h tiles others more is =
    let n = length (obus g tiles) + length (obus h others) in
    let one = apart g tiles more n (omega arith) in
    let two = apart h others [] n (omega arith) in
    ap rest_of (sym one ∙ ap (take_unit n) (is ∙ sym (append-nil (framed h others))) ∙ two)
