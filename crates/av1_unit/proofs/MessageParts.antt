-- A metadata OBU is a header, a length and a payload of this length.
use Rattle.std.proofs.Common.{◌≡◌, ℕ, suc, zero, ◌+◌, ◌-◌, ◌*◌, ◌/◌, ◌%◌, ◌^◌, ◌<◌, ◌++◌, List, [], ◌∷◌, Bool, true, false, All, length, take, drop, refl, sym, ◌∙◌, ap, subst, arith, append_assoc, length-append, if◌then◌else◌}
use Rattle.std.specs.Prelude.{◌==◌, codes, replicate, slice_index_or, unwrap_or}
use Rattle.std.proofs.lemmas.List.{length-drop, length-replicate, length-take-le}
use Rattle.std.proofs.lemmas.List.Elements.{All-append, All-cons}
use Rattle.av1_frame.specs.Message.{Message}
use Rattle.av1_frame.specs.declared.metadata.Metadata.{Metadata}
use Rattle.av1_frame.specs.declared.metadata.Metadata.TheVariants.{Cll, Mdcv, T35}
use Rattle.av1_frame.specs.declared.obu.ObuMetaType.TheVariants.{OBU_META_HDR_CLL, OBU_META_HDR_MDCV}
use Rattle.av1_frame.specs.declared.obu.ObuType.TheVariants.{OBU_METADATA}
use Rattle.av1_frame.specs.declared.sequence.ChromaticityPoint.{ChromaticityPoint}
use Rattle.av1_frame.specs.declared.sequence.ContentLight.{ContentLight}
use Rattle.av1_frame.specs.declared.sequence.MasteringDisplay.{MasteringDisplay}
use Rattle.av1_frame.specs.declared.sequence.Sequence.{Sequence}
use Rattle.av1_header.specs.Metadata.{content_light, mastering_display, message_of, no_display, no_light, obu_header, payload_byte, point, primaries, primary, sequence_metadata, t35_front, t35_metadata}
use Rattle.av1_header.specs.Rows.{Rows, each, fixed, joined, number_or, on, word_if, words, ◌>>=◌}
use Rattle.av1_header.specs.Rows.Rows.{Done, Flag, Number, Signed}
use Rattle.av1_header.proofs.RowLaws.{words-bind}
use Rattle.av1_model.specs.Bits.{bits_of, bits_of_bytes, byte_aligned, number_of, signed_bits_of, IsByteAligned}
use Rattle.av1_model.specs.Codes.{leb128}
use Rattle.av1_model.specs.WholeBytes.{bytes_from, to_bytes}
use Rattle.av1_model.proofs.BitsBytes.{bits_of_bytes-append, length-bits_of_bytes}
use Rattle.av1_model.proofs.BitsNumbers.{length-bits_of}
use Rattle.av1_model.proofs.CodesLeb128.{leb128-bytes, leb128-last}
use Rattle.av1_model.proofs.WholeBytes.{to_bytes-append}
use Rattle.av1_unit.specs.Framing.{bits_of_rows, message_obu, obu_head}
use Rattle.av1_unit.proofs.Bits.{aligned}
use Rattle.av1_unit.proofs.HeaderBytes.{bits_of_bytes-to_bytes, small_number}
use Rattle.av1_unit.proofs.Heads.{length-header}
use Rattle.av1_unit.proofs.TakingApart.{IsObu}

-- the bits of the header of a metadata OBU
abbrev head : List Bool
head = bits_of_rows obu_header OBU_METADATA

byte_aligned-append : (a b : List Bool) → length a % 8 ≡ 0 → byte_aligned (a ++ b) ≡ a ++ byte_aligned b
byte_aligned-append a b whole =
    let n : (8 - length (a ++ b) % 8) % 8 ≡ (8 - length b % 8) % 8 = omega (arith, length-append a b, whole) in
    ap (λ k. a ++ b ++ replicate k false) n ∙ append_assoc a b (replicate ((8 - length b % 8) % 8) false)

small_bytes : (n : ℕ) (bits : List Bool) → length bits ≡ 8 * n → All (λ b. b < 256) (bytes_from n bits)
small_bytes zero bits h = λ k d within. absurd (omega (arith, within))
small_bytes (suc n) bits h =
    let count : length (take 8 bits) ≡ 8 = length-take-le 8 bits (omega (arith, h)) in
    let few : number_of (take 8 bits) < 2 ^ length (take 8 bits) = small_number (take 8 bits) in
    let top : 2 ^ length (take 8 bits) ≡ 256 = ap (λ k. 2 ^ k) count in
    All-cons (λ b. b < 256) (number_of (take 8 bits)) (bytes_from n (drop 8 bits)) (omega (arith, few, top)) (small_bytes n (drop 8 bits) (omega (arith, length-drop 8 bits, h)))

length-bytes_from : (n : ℕ) (bits : List Bool) → length (bytes_from n bits) ≡ n
length-bytes_from zero bits = refl
length-bytes_from (suc n) bits = ap suc (length-bytes_from n (drop 8 bits))

-- bits that begin with a header and a length
parts : (bits rest : List Bool) (size : ℕ) → bits ≡ head ++ (bits_of_bytes (leb128 size) ++ rest) → (length rest + 7) / 8 ≡ size
    → IsObu (record { kind = OBU_METADATA; size = size; bytes = to_bytes (byte_aligned bits) })
unfolding obu_head
parts bits rest size is len =
    let leb = leb128 size in
    let all = byte_aligned rest in
    let payload = to_bytes all in
    let whole : IsByteAligned all = aligned rest in
    let bytes : bits_of_bytes payload ≡ all = bits_of_bytes-to_bytes all whole in
    let eight : length head ≡ 8 = length-header OBU_METADATA in
    let lebs : length (bits_of_bytes leb) ≡ 8 * length leb = length-bits_of_bytes leb in
    let joined_bits : byte_aligned bits ≡ head ++ bits_of_bytes (leb ++ payload) =
    ap byte_aligned is ∙ byte_aligned-append head (bits_of_bytes leb ++ rest) (omega (arith, eight)) ∙ ap (λ (l : List Bool). head ++ l) (byte_aligned-append (bits_of_bytes leb) rest (omega (arith, lebs)))
    ∙ ap (λ (l : List Bool). head ++ (bits_of_bytes leb ++ l)) (sym bytes) ∙ ap (λ (l : List Bool). head ++ l) (sym (bits_of_bytes-append leb payload)) in
    let count : length all ≡ 8 * (length all / 8) = omega (arith, whole) in
    let small : All (λ b. b < 256) (leb ++ payload) = All-append (λ b. b < 256) leb payload (leb128-bytes size) (small_bytes (length all / 8) all count) in
    let zeros : length all ≡ length rest + (8 - length rest % 8) % 8 = omega (arith, length-append rest (replicate ((8 - length rest % 8) % 8) false), length-replicate ((8 - length rest % 8) % 8) false) in
    record {
      payload = payload;
      size = length-bytes_from (length all / 8) all ∙ omega (arith, zeros, len);
      is = ap to_bytes joined_bits ∙ to_bytes-append head (leb ++ payload) eight small ∙ sym (append_assoc (to_bytes head) leb payload);
    }

-- the bits of the light of a sequence, behind the length
light_bits : ContentLight → List Bool
light_bits light = bits_of_bytes (leb128 1) ++ (bits_of 16 light.max_content_light_level ++ (bits_of 16 light.max_frame_average_light_level ++ (bits_of 1 1 ++ [])))

light_is : (seq : Sequence) → bits_of_rows sequence_metadata (message_of OBU_META_HDR_CLL seq) ≡ head ++ (bits_of_bytes (leb128 6) ++ light_bits (unwrap_or seq.content_light no_light))
unfolding sequence_metadata obu_header content_light mastering_display primaries primary number_or on each ◌>>=◌ bits_of light_bits
light_is seq = refl

one_byte : length (bits_of_bytes (leb128 1)) ≡ 8
one_byte = ap (λ (l : List ℕ). length (bits_of_bytes l)) (leb128-last 1 (omega arith)) ∙ length-bits_of_bytes (1 ∷ [])

light_long : (light : ContentLight) → length (light_bits light) ≡ 41
unfolding light_bits
light_long light = simp length-append (omega (arith, one_byte, length-bits_of 16 light.max_content_light_level, length-bits_of 16 light.max_frame_average_light_level, length-bits_of 1 1))

pub light_obu : (seq : Sequence) (m : Metadata) → m ≡ Cll → IsObu (message_obu seq m)
unfolding message_obu
light_obu seq m is =
    let light = unwrap_or seq.content_light no_light in
    subst (λ x. IsObu (message_obu seq x)) (sym is) (parts (bits_of_rows sequence_metadata (message_of OBU_META_HDR_CLL seq)) (light_bits light) 6 (light_is seq) (omega (arith, light_long light)))

two_bytes : ℕ → ℕ → List Bool → List Bool
two_bytes a b rest = bits_of 16 a ++ (bits_of 16 b ++ rest)

length-two_bytes : (a b : ℕ) (rest : List Bool) → length (two_bytes a b rest) ≡ 32 + length rest
unfolding two_bytes
length-two_bytes a b rest = simp length-append (omega (arith, length-bits_of 16 a, length-bits_of 16 b))

-- the bits of the display of a sequence, behind the length
end_bits : MasteringDisplay → List Bool
end_bits d = bits_of 32 d.max_luminance ++ (bits_of 32 d.min_luminance ++ (bits_of 1 1 ++ []))

primary_of : MasteringDisplay → ℕ → ChromaticityPoint
primary_of d i = slice_index_or d.primaries i (point 0 0)

display_bits : MasteringDisplay → List Bool
display_bits d =
    bits_of_bytes (leb128 2) ++ two_bytes (primary_of d 0).x (primary_of d 0).y
    (two_bytes (primary_of d 1).x (primary_of d 1).y (two_bytes (primary_of d 2).x (primary_of d 2).y (two_bytes d.white_point.x d.white_point.y (end_bits d))))

display_is : (seq : Sequence) → bits_of_rows sequence_metadata (message_of OBU_META_HDR_MDCV seq) ≡ head ++ (bits_of_bytes (leb128 26) ++ display_bits (unwrap_or seq.mastering_display no_display))
unfolding sequence_metadata obu_header content_light mastering_display primaries primary number_or on each ◌>>=◌ bits_of display_bits two_bytes end_bits primary_of
display_is seq = refl

two : length (bits_of_bytes (leb128 2)) ≡ 8
two = ap (λ (l : List ℕ). length (bits_of_bytes l)) (leb128-last 2 (omega arith)) ∙ length-bits_of_bytes (2 ∷ [])

end_long : (d : MasteringDisplay) → length (end_bits d) ≡ 65
unfolding end_bits
end_long d = simp length-append (omega (arith, length-bits_of 32 d.max_luminance, length-bits_of 32 d.min_luminance, length-bits_of 1 1))

display_long : (d : MasteringDisplay) → length (display_bits d) ≡ 201
unfolding display_bits
display_long d =
    let a = end_bits d in
    let b = two_bytes d.white_point.x d.white_point.y a in
    let c = two_bytes (primary_of d 2).x (primary_of d 2).y b in
    let e = two_bytes (primary_of d 1).x (primary_of d 1).y c in
    let f = two_bytes (primary_of d 0).x (primary_of d 0).y e in
    omega (
      arith,
      length-append (bits_of_bytes (leb128 2)) f,
      two,
      end_long d,
      length-two_bytes d.white_point.x d.white_point.y a,
      length-two_bytes (primary_of d 2).x (primary_of d 2).y b,
      length-two_bytes (primary_of d 1).x (primary_of d 1).y c,
      length-two_bytes (primary_of d 0).x (primary_of d 0).y e,
    )

pub display_obu : (seq : Sequence) (m : Metadata) → m ≡ Mdcv → IsObu (message_obu seq m)
unfolding message_obu
display_obu seq m is =
    let d = unwrap_or seq.mastering_display no_display in
    subst (λ x. IsObu (message_obu seq x)) (sym is) (parts (bits_of_rows sequence_metadata (message_of OBU_META_HDR_MDCV seq)) (display_bits d) 26 (display_is seq) (omega (arith, display_long d)))

words-on : {S T A : Type 0} (part : S → T) (t : Rows T A) (s : S) → words (on part t) s ≡ words t (part s)
unfolding on
words-on part (Done a) s = refl
words-on part (Flag name there other value next) s = ap (λ (ws : List (List Bool)). word_if there (value (part s) ∷ []) ∷ ws) (words-on part (next (if there then value (part s) else other)) s)
words-on part (Number name there other code value next) s = ap (λ (ws : List (List Bool)). word_if there (code.word (value (part s))) ∷ ws) (words-on part (next (if there then value (part s) else other)) s)
words-on part (Signed name there other n value next) s = ap (λ (ws : List (List Bool)). word_if there (signed_bits_of n (value (part s))) ∷ ws) (words-on part (next (if there then value (part s) else other)) s)

length-joined : (ws vs : List (List Bool)) → length (joined (ws ++ vs)) ≡ length (joined ws) + length (joined vs)
length-joined [] vs = omega arith
length-joined (w ∷ ws) vs = omega (arith, length-append w (joined (ws ++ vs)), length-append w (joined ws), length-joined ws vs)

byte_long : (i : ℕ) (payload : List ℕ) → length (joined (words (payload_byte i) payload)) ≡ 8
unfolding payload_byte number_or ◌>>=◌
byte_long i payload = omega (arith, length-append (bits_of 8 (slice_index_or payload i 0)) [], length-bits_of 8 (slice_index_or payload i 0))

payload_long : (n i : ℕ) (payload : List ℕ) → length (joined (words (each n i payload_byte) payload)) ≡ 8 * n
unfolding each
payload_long zero i payload = omega arith
payload_long (suc n) i payload =
    let rest : Rows (List ℕ) (Unit {0}) = each n (suc i) payload_byte in
    let split : words (each (suc n) i payload_byte) payload ≡ words (payload_byte i) payload ++ words rest payload = words-bind (payload_byte i) (λ _. rest) payload in
    omega (arith, ap (λ (ws : List (List Bool)). length (joined ws)) split, length-joined (words (payload_byte i) payload) (words rest payload), byte_long i payload, payload_long n (suc i) payload)

-- the rows of the payload of a message, and the last bit
payload_rows : ℕ → Rows Message ℕ
payload_rows n = on (λ m. m.payload) (each n 0 payload_byte) >>= λ _. fixed (codes "trailing_one_bit") 1 1

payload_rows_long : (n : ℕ) (m : Message) → length (joined (words (payload_rows n) m)) ≡ 8 * n + 1
unfolding payload_rows number_or
payload_rows_long n m =
    let bytes : Rows Message (Unit {0}) = on (λ x. x.payload) (each n 0 payload_byte) in
    let last : Rows Message ℕ = fixed (codes "trailing_one_bit") 1 1 in
    let split : words (payload_rows n) m ≡ words bytes m ++ words last m = words-bind bytes (λ _. last) m in
    let all : words bytes m ≡ words (each n 0 payload_byte) m.payload = words-on (λ x. x.payload) (each n 0 payload_byte) m in
    omega (arith, ap (λ (ws : List (List Bool)). length (joined ws)) split, length-joined (words bytes m) (words last m), ap (λ (ws : List (List Bool)). length (joined ws)) all, payload_long n 0 m.payload, length-append (bits_of 1 1) [], length-bits_of 1 1)

t35_bits : Message → ℕ → List Bool
t35_bits m n =
    bits_of_bytes (leb128 4) ++ (bits_of 8 m.country_code ++ (word_if (m.country_code == 255) (bits_of 8 m.country_code_extension_byte) ++ joined (words (payload_rows n) m)))

t35_is : (m : Message) → bits_of_rows t35_metadata m ≡ head ++ (bits_of_bytes (leb128 (length m.payload + t35_front m.country_code)) ++ t35_bits m (length m.payload + t35_front m.country_code - t35_front m.country_code))
unfolding t35_metadata obu_header number_or on ◌>>=◌ bits_of t35_bits payload_rows
t35_is m = refl

four : length (bits_of_bytes (leb128 4)) ≡ 8
four = ap (λ (l : List ℕ). length (bits_of_bytes l)) (leb128-last 4 (omega arith)) ∙ length-bits_of_bytes (4 ∷ [])

extension_long : (there : Bool) (n : ℕ) → length (word_if there (bits_of 8 n)) + 24 ≡ 8 * (if there then 4 else 3)
extension_long true n = omega (arith, length-bits_of 8 n)
extension_long false n = omega arith

t35_long : (m : Message) (n : ℕ) → n ≡ length m.payload → length (t35_bits m n) + 7 ≡ 8 * (length m.payload + t35_front m.country_code)
unfolding t35_bits
t35_long m n is =
    let ext = word_if (m.country_code == 255) (bits_of 8 m.country_code_extension_byte) in
    let rows = joined (words (payload_rows n) m) in
    omega (
      arith,
      is,
      four,
      length-append (bits_of_bytes (leb128 4)) (bits_of 8 m.country_code ++ (ext ++ rows)),
      length-append (bits_of 8 m.country_code) (ext ++ rows),
      length-append ext rows,
      length-bits_of 8 m.country_code,
      extension_long (m.country_code == 255) m.country_code_extension_byte,
      payload_rows_long n m,
    )

pub t35_obu : (seq : Sequence) (m : Metadata) (t : Message) → m ≡ T35 t → IsObu (message_obu seq m)
unfolding message_obu
t35_obu seq m t is =
    let size = length t.payload + t35_front t.country_code in
    let n = size - t35_front t.country_code in
    let count : n ≡ length t.payload = omega arith in
    subst (λ x. IsObu (message_obu seq x)) (sym is) (parts (bits_of_rows t35_metadata t) (t35_bits t n) size (t35_is t) (omega (arith, t35_long t n count)))
