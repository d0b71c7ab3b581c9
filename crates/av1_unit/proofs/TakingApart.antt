-- A unit is taken apart by the kinds and lengths of its OBUs.
use Rattle.std.proofs.Common.{◌≡◌, ℕ, suc, zero, ◌+◌, ◌*◌, ◌<◌, ◌≤◌, ◌++◌, List, [], ◌∷◌, true, false, Option, Some, None, option_map, option_and_then, length, map, take, drop, nat_le, refl, sym, ◌∙◌, ap, arith, append_assoc, length-append, if◌then◌else◌}
use Rattle.std.specs.Prelude.{◌==◌}
use Rattle.std.proofs.Math.Seq.{drop-append_seam, take-append_seam}
use Rattle.std.proofs.lemmas.Bool.Decides.{nat_tests}
use Rattle.std.proofs.lemmas.List.{append-nil}
use Rattle.av1_frame.specs.Obu.{obu_type_number}
use Rattle.av1_frame.specs.declared.obu.ObuType.{ObuType}
use Rattle.av1_frame.specs.declared.obu.ObuType.TheVariants.{OBU_FRAME, OBU_FRAME_HEADER, OBU_METADATA, OBU_PADDING, OBU_REDUNDANT_FRAME_HEADER, OBU_SEQUENCE_HEADER, OBU_TEMPORAL_DELIMITER, OBU_TILE_GROUP, OBU_TILE_LIST}
use Rattle.av1_model.specs.Codes.{leb128, leb128_read}
use Rattle.av1_model.proofs.CodesLeb128.{leb128-read}
use Rattle.av1_unit.specs.Apart.{kind_and_payload, kind_of_header, payload_of, take_obu, take_unit, with_length, with_obu, TakenObu, TakenUnit}
use Rattle.av1_unit.specs.Framing.{Obu, bytes_of_obus, obu_head}
use Rattle.av1_unit.proofs.Heads.{header_byte}

-- an OBU is its header, its length and a payload of this length
pub record IsObu (o : Obu) : Type 0 where
  pub payload : List ℕ
  pub size : length payload ≡ o.size
  pub is : o.bytes ≡ obu_head o.kind o.size ++ payload

kind_told : (kind : ObuType) → kind_of_header (8 * obu_type_number kind + 2) ≡ Some (obu_type_number kind)
kind_told OBU_SEQUENCE_HEADER = refl
kind_told OBU_TEMPORAL_DELIMITER = refl
kind_told OBU_FRAME_HEADER = refl
kind_told OBU_TILE_GROUP = refl
kind_told OBU_METADATA = refl
kind_told OBU_FRAME = refl
kind_told OBU_REDUNDANT_FRAME_HEADER = refl
kind_told OBU_TILE_LIST = refl
kind_told OBU_PADDING = refl

taken : (kind size : ℕ) (payload more : List ℕ) → length payload ≡ size → with_length kind (size, payload ++ more) ≡ Some (record { kind = kind; payload = payload; rest = more })
taken kind size payload more is =
    let enough : nat_le size (length (payload ++ more)) ≡ true = enough_of size (length (payload ++ more)) (omega (arith, is, length-append payload more)) in
    let front : take size (payload ++ more) ≡ payload = ap (λ n. take n (payload ++ more)) (sym is) ∙ take-append_seam payload more in
    let back : drop size (payload ++ more) ≡ more = ap (λ n. drop n (payload ++ more)) (sym is) ∙ drop-append_seam payload more in
    ap (λ b. if b then Some (record { kind = kind; payload = take size (payload ++ more); rest = drop size (payload ++ more) }) else None) enough
    ∙ (λ i. Some (record { kind = kind; payload = front i; rest = back i }))
  where
    enough_of : (n m : ℕ) → n ≤ m → nat_le n m ≡ true
    enough_of n m le = grind (arith, nat_tests)

pub payload_is : (o : Obu) (w : IsObu o) → payload_of o ≡ w.payload
payload_is o w = ap (drop (length (obu_head o.kind o.size))) w.is ∙ drop-append_seam (obu_head o.kind o.size) w.payload

-- the first OBU, whatever follows it
pub obu_taken : (o : Obu) (more : List ℕ) → IsObu o → take_obu (o.bytes ++ more) ≡ Some (record { kind = obu_type_number o.kind; payload = payload_of o; rest = more })
unfolding obu_head
obu_taken o more w =
    let kind = obu_type_number o.kind in
    let head : o.bytes ++ more ≡ (8 * kind + 2) ∷ (leb128 o.size ++ (w.payload ++ more)) =
    ap (λ (l : List ℕ). l ++ more) w.is
    ∙ ap (λ (l : List ℕ). l ++ leb128 o.size ++ w.payload ++ more) (header_byte o.kind)
    ∙ append_assoc ((8 * kind + 2) ∷ leb128 o.size) w.payload more in
    ap take_obu head ∙ ap (λ k. option_and_then (λ n. option_and_then (with_length n) (leb128_read (leb128 o.size ++ (w.payload ++ more)))) k) (kind_told o.kind)
    ∙ ap (option_and_then (with_length kind)) (leb128-read o.size (w.payload ++ more)) ∙ taken kind o.size w.payload more w.size
    ∙ ap (λ p. Some (record { kind = kind; payload = p; rest = more })) (sym (payload_is o w))

-- no frame
abbrev pub IsLeading : Obu → Type 0
IsLeading o = IsObu o × ((obu_type_number o.kind == obu_type_number OBU_FRAME) ≡ false)

abbrev pub AreLeading : List Obu → Type 0
AreLeading [] = Unit {0}
AreLeading (o ∷ os) = IsLeading o × AreLeading os

pub leading_append : (os ps : List Obu) → AreLeading os → AreLeading ps → AreLeading (os ++ ps)
leading_append [] ps h k = k
leading_append (o ∷ os) ps h k = (h.0, leading_append os ps h.1 k)

chosen : ObuType → ℕ → TakenObu → Option TakenUnit
chosen kind n o = if o.kind == obu_type_number kind then Some (record { obus = (o.kind, o.payload) ∷ []; rest = o.rest }) else option_map (with_obu (o.kind, o.payload)) (take_unit n o.rest)

-- a frame ends it
frame_taken : (n : ℕ) (o : Obu) (more : List ℕ) → IsObu o → (obu_type_number o.kind == obu_type_number OBU_FRAME) ≡ true → take_unit (suc n) (o.bytes ++ more) ≡ Some (record { obus = kind_and_payload o ∷ []; rest = more })
unfolding take_unit chosen
frame_taken n o more w is =
    ap (option_and_then (chosen OBU_FRAME n)) (obu_taken o more w)
    ∙ ap (λ b. if b then Some (record { obus = kind_and_payload o ∷ []; rest = more }) else option_map (with_obu (kind_and_payload o)) (take_unit n more)) is

other_taken : (n : ℕ) (o : Obu) (more : List ℕ) → IsObu o → (obu_type_number o.kind == obu_type_number OBU_FRAME) ≡ false → take_unit (suc n) (o.bytes ++ more) ≡ option_map (with_obu (kind_and_payload o)) (take_unit n more)
unfolding take_unit chosen
other_taken n o more w is =
    ap (option_and_then (chosen OBU_FRAME n)) (obu_taken o more w)
    ∙ ap (λ b. if b then Some (record { obus = kind_and_payload o ∷ []; rest = more }) else option_map (with_obu (kind_and_payload o)) (take_unit n more)) is

-- OBUs up to a frame, whatever follows
pub unit_taken : (n : ℕ) (os : List Obu) (o : Obu) (more : List ℕ) → length os < n → AreLeading os → IsObu o → (obu_type_number o.kind == obu_type_number OBU_FRAME) ≡ true
    → take_unit n (bytes_of_obus (os ++ o ∷ []) ++ more) ≡ Some (record { obus = map kind_and_payload (os ++ o ∷ []); rest = more })
unit_taken zero os o more few h w is = absurd (omega arith)
unit_taken (suc n) [] o more few h w is = ap (λ (l : List ℕ). take_unit (suc n) (l ++ more)) (append-nil o.bytes) ∙ frame_taken n o more w is
unit_taken (suc n) (p ∷ os) o more few h w is =
    let rest = bytes_of_obus (os ++ o ∷ []) ++ more in
    ap (take_unit (suc n)) (append_assoc p.bytes (bytes_of_obus (os ++ o ∷ [])) more) ∙ other_taken n p rest h.0.0 h.0.1
    ∙ ap (option_map (with_obu (kind_and_payload p))) (unit_taken n os o more (omega arith) h.1 w is)
