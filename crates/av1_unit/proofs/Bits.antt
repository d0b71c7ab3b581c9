-- Bits that a call wrote, as whole bytes.
use Rattle.std.proofs.Common.{◌≡◌, ◌-◌, ◌%◌, ◌≤◌, List, [], ◌∷◌, ◌++◌, Bool, true, false, None, length, refl, ◌∙◌, ap, subst, sym, arith, inl, inr, nat_le, length-append}
use Rattle.std.specs.Prelude.{Result, Ok, Err, OnOk, is_some, replicate}
use Rattle.std.proofs.lemmas.Bool.Decides.{nat_tests}
use Rattle.std.proofs.lemmas.List.{length-replicate}
use Rattle.av1_frame.specs.MetadataRules.{metadata_fits, metadata_rules}
use Rattle.av1_frame.specs.Message.{Message}
use Rattle.av1_frame.specs.declared.metadata.Metadata.{Metadata}
use Rattle.av1_frame.specs.declared.metadata.Metadata.TheVariants.{Cll, Mdcv, T35}
use Rattle.av1_frame.specs.declared.obu.ObuMetaType.TheVariants.{OBU_META_HDR_CLL, OBU_META_HDR_MDCV}
use Rattle.av1_frame.specs.declared.sequence.Sequence.{Sequence}
use Rattle.av1_geometry.specs.Rules.{first_broken, rule}
use Rattle.av1_header.specs.Metadata.{message_of, sequence_metadata, t35_metadata, MessageFits}
use Rattle.av1_header.specs.RowReading.{WritesWhole}
use Rattle.av1_header.specs.Rows.{Rows}
use Rattle.av1_model.specs.Bits.{byte_aligned, IsByteAligned}
use Rattle.av1_model.specs.WholeBytes.{to_bytes}
use Rattle.av1_unit.specs.Framing.{Obu, bits_of_rows, message_obu}
use Rattle.av1_unit.specs.Lengths.{IsMessage}

pub aligned : (bits : List Bool) → IsByteAligned (byte_aligned bits)
aligned bits = omega (arith, length-append bits (replicate ((8 - length bits % 8) % 8) false), length-replicate ((8 - length bits % 8) % 8) false)

-- the rows of an OBU, written into no bits, are the OBU
pub message_is : {X E S A : Type 0} (r : Result X E) (t : Rows S A) (s : S) (o : Obu) (old new : List Bool) → WritesWhole r t s old new → old ≡ [] → o.bytes ≡ to_bytes (byte_aligned (bits_of_rows t s))
    → OnOk r (IsMessage new o)
message_is (Ok x) t s o old new w none is =
    let e : new ≡ byte_aligned (bits_of_rows t s) = w.grown ∙ ap (λ (l : List Bool). byte_aligned (l ++ bits_of_rows t s)) none in
    record { whole = subst (λ (l : List Bool). IsByteAligned l) (sym e) (aligned (bits_of_rows t s)); is = ap to_bytes e ∙ sym is }
message_is (Err e) t s o old new w none is = tt

pub cll_bytes : (seq : Sequence) (m : Metadata) → m ≡ Cll → (message_obu seq m).bytes ≡ to_bytes (byte_aligned (bits_of_rows sequence_metadata (message_of OBU_META_HDR_CLL seq)))
unfolding message_obu
cll_bytes seq m is = ap (λ x. (message_obu seq x).bytes) is

pub mdcv_bytes : (seq : Sequence) (m : Metadata) → m ≡ Mdcv → (message_obu seq m).bytes ≡ to_bytes (byte_aligned (bits_of_rows sequence_metadata (message_of OBU_META_HDR_MDCV seq)))
unfolding message_obu
mdcv_bytes seq m is = ap (λ x. (message_obu seq x).bytes) is

pub t35_bytes : (seq : Sequence) (m : Metadata) (t : Message) → m ≡ T35 t → (message_obu seq m).bytes ≡ to_bytes (byte_aligned (bits_of_rows t35_metadata t))
unfolding message_obu
t35_bytes seq m t is = ap (λ x. (message_obu seq x).bytes) is

holds : (b : Bool) → first_broken (rule 50 b ∷ []) ≡ None → b ≡ true
holds true h = refl
holds false h = absurd cc

pub cll_fits : (seq : Sequence) (m : Metadata) → m ≡ Cll → first_broken (metadata_rules m seq) ≡ None → MessageFits 1 seq
unfolding metadata_fits
cll_fits seq m is h = inl (refl, holds (is_some seq.content_light) (ap (λ x. first_broken (metadata_rules x seq)) (sym is) ∙ h))

pub mdcv_fits : (seq : Sequence) (m : Metadata) → m ≡ Mdcv → first_broken (metadata_rules m seq) ≡ None → MessageFits 2 seq
unfolding metadata_fits
mdcv_fits seq m is h = inr (refl, holds (is_some seq.mastering_display) (ap (λ x. first_broken (metadata_rules x seq)) (sym is) ∙ h))

pub t35_fits : (seq : Sequence) (m : Metadata) (t : Message) → m ≡ T35 t → first_broken (metadata_rules m seq) ≡ None → length t.payload ≤ 65535
unfolding metadata_fits
t35_fits seq m t is h =
    let b : nat_le (length t.payload) 65535 ≡ true = holds (nat_le (length t.payload) 65535) (ap (λ x. first_broken (metadata_rules x seq)) (sym is) ∙ h) in
    grind (arith, nat_tests)
