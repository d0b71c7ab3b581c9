-- Headers are read back from bytes.
use Rattle.std.proofs.Common.{◌≡◌, ℕ, suc, zero, ◌+◌, ◌-◌, ◌*◌, ◌/◌, ◌%◌, ◌^◌, ◌<◌, ◌++◌, List, [], ◌∷◌, Bool, true, false, length, take, drop, refl, sym, ◌∙◌, ap, subst, arith, append_assoc}
use Rattle.std.specs.Prelude.{replicate}
use Rattle.std.proofs.Math.Nat.{pow-suc}
use Rattle.std.proofs.lemmas.List.{append-nil, length-drop, length-take-le, take-append-drop}
use Rattle.av1_header.specs.RowReading.{read, ReadsBack}
use Rattle.av1_header.specs.Rows.{Rows}
use Rattle.av1_model.specs.Bits.{bits_of, bits_of_bytes, byte_aligned, number_of, IsByteAligned}
use Rattle.av1_model.specs.WholeBytes.{bytes_from, to_bytes}
use Rattle.av1_model.proofs.BitsBytes.{bits_of_bytes-append}
use Rattle.av1_model.proofs.BitsNumbers.{bits_of-one_before, bits_of-zero, bits_of-zero_before}
use Rattle.av1_unit.specs.Framing.{bits_of_rows}
use Rattle.av1_unit.specs.HeaderReading.{BeginWith}
use Rattle.av1_unit.proofs.Bits.{aligned}

-- bits stand for a number that has these bits
pub small_number : (bits : List Bool) → number_of bits < 2 ^ length bits
small_number [] = omega arith
small_number (true ∷ bits) = omega (arith, small_number bits, pow-suc 2 (length bits))
small_number (false ∷ bits) = omega (arith, small_number bits, pow-suc 2 (length bits))

bits_of-number_of : (bits : List Bool) → bits_of (length bits) (number_of bits) ≡ bits
bits_of-number_of [] = bits_of-zero 0
bits_of-number_of (true ∷ bits) =
    let n : length (true ∷ bits) ≡ length bits + 1 = omega arith in
    ap (λ k. bits_of k (number_of (true ∷ bits))) n ∙ bits_of-one_before (length bits) (number_of bits) (small_number bits) ∙ ap (λ (l : List Bool). true ∷ l) (bits_of-number_of bits)
bits_of-number_of (false ∷ bits) =
    let n : length (false ∷ bits) ≡ length bits + 1 = omega arith in
    let v : number_of (false ∷ bits) ≡ number_of bits = omega arith in
    ap (λ k. bits_of k (number_of (false ∷ bits))) n ∙ ap (bits_of (length bits + 1)) v ∙ bits_of-zero_before (length bits) (number_of bits) (small_number bits) ∙ ap (λ (l : List Bool). false ∷ l) (bits_of-number_of bits)

bits_from : (n : ℕ) (bits : List Bool) → length bits ≡ 8 * n → bits_of_bytes (bytes_from n bits) ≡ bits
bits_from zero bits h = none bits (omega (arith, h))
  where
    none : (l : List Bool) → length l ≡ 0 → [] ≡ l
    none [] e = refl
    none (b ∷ l) e = absurd (omega arith)
bits_from (suc n) bits h =
    let count : length (take 8 bits) ≡ 8 = length-take-le 8 bits (omega (arith, h)) in
    let rest : length (drop 8 bits) ≡ 8 * n = omega (arith, length-drop 8 bits, h) in
    let byte : bits_of 8 (number_of (take 8 bits)) ≡ take 8 bits = ap (λ k. bits_of k (number_of (take 8 bits))) (sym count) ∙ bits_of-number_of (take 8 bits) in
    ap (λ (l : List Bool). l ++ bits_of_bytes (bytes_from n (drop 8 bits))) byte ∙ ap (λ (l : List Bool). take 8 bits ++ l) (bits_from n (drop 8 bits) rest) ∙ take-append-drop 8 bits

-- whole bytes have their bits
pub bits_of_bytes-to_bytes : (bits : List Bool) → IsByteAligned bits → bits_of_bytes (to_bytes bits) ≡ bits
bits_of_bytes-to_bytes bits whole = bits_from (length bits / 8) bits (omega (arith, whole))

-- a header that is read back from its bits is read from bytes that begin with it
pub header_read : {S A : Type 0} (rows : Rows S A) (s : S) (end : List Bool) (more : List ℕ) → ReadsBack rows s → BeginWith rows s (to_bytes (byte_aligned (bits_of_rows rows s ++ end)) ++ more)
header_read rows s end more back =
    let bits = bits_of_rows rows s in
    let zeros = replicate ((8 - length (bits ++ end) % 8) % 8) false in
    let rest = end ++ (zeros ++ bits_of_bytes more) in
    let is : bits_of_bytes (to_bytes (byte_aligned (bits ++ end)) ++ more) ≡ bits ++ rest =
    bits_of_bytes-append (to_bytes (byte_aligned (bits ++ end))) more ∙ ap (λ (l : List Bool). l ++ bits_of_bytes more) (bits_of_bytes-to_bytes (byte_aligned (bits ++ end)) (aligned (bits ++ end)))
    ∙ append_assoc (bits ++ end) zeros (bits_of_bytes more) ∙ append_assoc bits end (zeros ++ bits_of_bytes more) in
    (rest, ap (read rows) is ∙ back rest)

-- the same, where nothing comes behind the rows, and where no bytes come behind the header
pub rows_read : {S A : Type 0} (rows : Rows S A) (s : S) (more : List ℕ) → ReadsBack rows s → BeginWith rows s (to_bytes (byte_aligned (bits_of_rows rows s)) ++ more)
rows_read rows s more back = subst (λ (l : List Bool). BeginWith rows s (to_bytes (byte_aligned l) ++ more)) (append-nil (bits_of_rows rows s)) (header_read rows s [] more back)

pub only_rows_read : {S A : Type 0} (rows : Rows S A) (s : S) → ReadsBack rows s → BeginWith rows s (to_bytes (byte_aligned (bits_of_rows rows s)))
only_rows_read rows s back = subst (λ (l : List ℕ). BeginWith rows s l) (append-nil (to_bytes (byte_aligned (bits_of_rows rows s)))) (rows_read rows s [] back)

pub only_header_read : {S A : Type 0} (rows : Rows S A) (s : S) (end : List Bool) → ReadsBack rows s → BeginWith rows s (to_bytes (byte_aligned (bits_of_rows rows s ++ end)))
only_header_read rows s end back = subst (λ (l : List ℕ). BeginWith rows s l) (append-nil (to_bytes (byte_aligned (bits_of_rows rows s ++ end)))) (header_read rows s end [] back)
