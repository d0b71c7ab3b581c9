-- Metadata OBUs are read back.
use Rattle.std.proofs.Common.{◌≡◌, ◌+◌, ◌<◌, ◌++◌, ℕ, List, [], ◌∷◌, Bool, length, take, get_or, sym, ◌∙◌, ap, subst}
use Rattle.std.specs.Prelude.{Result, Ok, Err, OnOk}
use Rattle.std.proofs.lemmas.Grind.{flat_map-append}
use Rattle.std.proofs.lemmas.List.{append-nil, map-append, take_more}
use Rattle.av1_frame.specs.Message.{Message}
use Rattle.av1_frame.specs.declared.metadata.Metadata.{Metadata}
use Rattle.av1_frame.specs.declared.metadata.Metadata.TheVariants.{Cll, Mdcv, T35}
use Rattle.av1_frame.specs.declared.obu.ObuMetaType.TheVariants.{OBU_META_HDR_CLL, OBU_META_HDR_MDCV}
use Rattle.av1_frame.specs.declared.sequence.Sequence.{Sequence}
use Rattle.av1_header.specs.Metadata.{message_of, sequence_metadata, t35_metadata}
use Rattle.av1_header.specs.RowReading.{WritesWhole}
use Rattle.av1_unit.specs.Framing.{bytes_of_obus, message_obu, messages_of}
use Rattle.av1_unit.specs.HeaderReading.{IsMessageRead}
use Rattle.av1_unit.proofs.HeaderBytes.{only_rows_read}

pub cll_read : {X E : Type 0} (r : Result X E) (seq : Sequence) (m : Metadata) (old new : List Bool) → m ≡ Cll → WritesWhole r sequence_metadata (message_of OBU_META_HDR_CLL seq) old new → OnOk r (IsMessageRead seq m)
unfolding message_obu
cll_read (Ok x) seq m old new is w = subst (IsMessageRead seq) (sym is) (only_rows_read sequence_metadata (message_of OBU_META_HDR_CLL seq) w.back)
cll_read (Err e) seq m old new is w = tt

pub mdcv_read : {X E : Type 0} (r : Result X E) (seq : Sequence) (m : Metadata) (old new : List Bool) → m ≡ Mdcv → WritesWhole r sequence_metadata (message_of OBU_META_HDR_MDCV seq) old new → OnOk r (IsMessageRead seq m)
unfolding message_obu
mdcv_read (Ok x) seq m old new is w = subst (IsMessageRead seq) (sym is) (only_rows_read sequence_metadata (message_of OBU_META_HDR_MDCV seq) w.back)
mdcv_read (Err e) seq m old new is w = tt

pub t35_read : {X E : Type 0} (r : Result X E) (seq : Sequence) (m : Metadata) (t : Message) (old new : List Bool) → m ≡ T35 t → WritesWhole r t35_metadata t old new → OnOk r (IsMessageRead seq m)
unfolding message_obu
t35_read (Ok x) seq m t old new is w = subst (IsMessageRead seq) (sym is) (only_rows_read t35_metadata t w.back)
t35_read (Err e) seq m t old new is w = tt

-- one message more
pub messages_more : (seq : Sequence) (ms : List Metadata) (k : ℕ) (m : Metadata) → k < length ms → m ≡ get_or ms k m → bytes_of_obus (messages_of seq (take (k + 1) ms)) ≡ bytes_of_obus (messages_of seq (take k ms)) ++ (message_obu seq m).bytes
messages_more seq ms k m within is =
    ap (λ l. bytes_of_obus (messages_of seq l)) (take_more ms k m within) ∙ ap bytes_of_obus (map-append (message_obu seq) (take k ms) (get_or ms k m ∷ []))
    ∙ flat_map-append (λ o. o.bytes) (messages_of seq (take k ms)) (messages_of seq (get_or ms k m ∷ []))
    ∙ ap (λ (l : List ℕ). bytes_of_obus (messages_of seq (take k ms)) ++ l) (append-nil (message_obu seq (get_or ms k m)).bytes)
    ∙ ap (λ (x : Metadata). bytes_of_obus (messages_of seq (take k ms)) ++ (message_obu seq x).bytes) (sym is)
