-- The bytes of bits.
use Rattle.std.proofs.Common.{◌≡◌, ℕ, suc, ◌+◌, ◌/◌, ◌<◌, List, [], ◌∷◌, ◌++◌, Bool, length, drop, refl, sym, ◌∙◌, ap, arith, length-append}
use Rattle.std.specs.Prelude.{All}
use Rattle.std.proofs.lemmas.List.{take_at, drop_at, take_all}
use Rattle.std.proofs.lemmas.List.Elements.{All-head, All-tail}
use Rattle.std.proofs.Math.Nat.{mod-eq_of_lt}
use Rattle.av1_model.specs.Bits.{bits_of, bits_of_bytes, number_of}
use Rattle.av1_model.specs.WholeBytes.{bytes_from, to_bytes}
use Rattle.av1_model.proofs.BitsNumbers.{length-bits_of, number_of-bits_of}
use Rattle.av1_model.proofs.BitsBytes.{length-bits_of_bytes}

-- one byte and more
bytes_from-append : (n : ℕ) (first rest : List Bool) → length first ≡ 8 → bytes_from (n + 1) (first ++ rest) ≡ number_of first ∷ bytes_from n rest
bytes_from-append n first rest h =
    ap (λ (k : ℕ). bytes_from k (first ++ rest)) {y = suc n} (omega arith)
    ∙ ap (λ (l : List Bool). number_of l ∷ bytes_from n (drop 8 (first ++ rest))) (take_at first rest 8 h)
    ∙ ap (λ (l : List Bool). number_of first ∷ bytes_from n l) (drop_at first rest 8 h)

bytes_from-bits_of_bytes : (bytes : List ℕ) → All (λ b. b < 256) bytes → bytes_from (length bytes) (bits_of_bytes bytes) ≡ bytes
bytes_from-bits_of_bytes [] h = refl
bytes_from-bits_of_bytes (b ∷ bs) h =
    let small : b < 256 = All-head (λ n. n < 256) b bs h in
    let byte : number_of (bits_of 8 b) ≡ b = number_of-bits_of 8 b ∙ omega (arith, mod-eq_of_lt small) in
    ap (λ (k : ℕ). bytes_from k (bits_of_bytes (b ∷ bs))) {x = suc (length bs)} {y = length bs + 1} (omega arith)
    ∙ bytes_from-append (length bs) (bits_of 8 b) (bits_of_bytes bs) (length-bits_of 8 b)
    ∙ ap (λ (n : ℕ). n ∷ bytes_from (length bs) (bits_of_bytes bs)) byte
    ∙ ap (λ (l : List ℕ). b ∷ l) (bytes_from-bits_of_bytes bs (All-tail (λ n. n < 256) b bs h))

-- the bytes of the bits of bytes are these bytes
pub to_bytes-bits_of_bytes : (bytes : List ℕ) → All (λ b. b < 256) bytes → to_bytes (bits_of_bytes bytes) ≡ bytes
to_bytes-bits_of_bytes bytes h =
    let count : length (bits_of_bytes bytes) / 8 ≡ length bytes = omega (arith, length-bits_of_bytes bytes) in
    ap (λ n. bytes_from n (bits_of_bytes bytes)) count ∙ bytes_from-bits_of_bytes bytes h

-- a byte's bits before those of bytes
pub to_bytes-append : (first : List Bool) (bytes : List ℕ) → length first ≡ 8 → All (λ b. b < 256) bytes → to_bytes (first ++ bits_of_bytes bytes) ≡ to_bytes first ++ bytes
to_bytes-append first bytes h below =
    let count : length (first ++ bits_of_bytes bytes) / 8 ≡ length bytes + 1 = omega (arith, length-append first (bits_of_bytes bytes), length-bits_of_bytes bytes) in
    ap (λ n. bytes_from n (first ++ bits_of_bytes bytes)) count
    ∙ bytes_from-append (length bytes) first (bits_of_bytes bytes) h
    ∙ ap (λ (l : List ℕ). number_of first ∷ l) (bytes_from-bits_of_bytes bytes below)
    ∙ ap (λ (l : List ℕ). l ++ bytes) (alone first h)
  where
    alone : (first : List Bool) → length first ≡ 8 → number_of first ∷ [] ≡ to_bytes first
    alone first h =
        ap (λ (l : List Bool). number_of l ∷ []) (sym (take_all 8 first (omega (arith, h))))
        ∙ ap (λ (k : ℕ). bytes_from k first) {x = 1} (omega (arith, h))
