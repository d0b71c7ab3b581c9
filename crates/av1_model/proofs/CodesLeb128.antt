-- LEB128 is read back, and no other bytes that are read as the number are fewer.
use Rattle.std.proofs.Common.{◌≡◌, ℕ, zero, suc, ◌+◌, ◌-◌, ◌*◌, ◌/◌, ◌%◌, ◌<◌, ◌≤◌, List, [], ◌∷◌, ◌++◌, true, false, Option, Some, None, option_map, nat_lt, length, refl, sym, ◌∙◌, ap, arith, inl, inr, All, subst}
use Rattle.std.proofs.lemmas.List.Elements.{All-cons, All-head, All-tail}
use Rattle.std.proofs.lemmas.Bool.{cases_lt}
use Rattle.std.proofs.lemmas.Bool.Decides.{nat_tests}
use Rattle.av1_model.specs.Codes.{leb128_within, leb128, leb128_read}

read-last : (byte : ℕ) (bytes : List ℕ) → byte < 128 → leb128_read (byte ∷ bytes) ≡ Some (byte, bytes)
read-last byte bytes low = let test : nat_lt byte 128 ≡ true = grind (arith, nat_tests) in rw test refl

read-more : (byte : ℕ) (bytes : List ℕ) → 128 ≤ byte → leb128_read (byte ∷ bytes) ≡ option_map (λ r. (byte - 128 + 128 * r.0, r.1)) (leb128_read bytes)
read-more byte bytes high = let test : nat_lt byte 128 ≡ false = grind (arith, nat_tests) in rw test refl

within-last : (more v : ℕ) → v < 128 → leb128_within more v ≡ v ∷ []
within-last zero v low = refl
within-last (suc more) v low = let test : nat_lt v 128 ≡ true = grind (arith, nat_tests) in rw test refl

within-more : (more v : ℕ) → 128 ≤ v → leb128_within (suc more) v ≡ (128 + v % 128) ∷ leb128_within more (v / 128)
within-more more v high = let test : nat_lt v 128 ≡ false = grind (arith, nat_tests) in rw test refl

read-within : (more v : ℕ) (rest : List ℕ) → v ≤ more → leb128_read (leb128_within more v ++ rest) ≡ Some (v, rest)
read-within zero v rest enough = read-last v rest (omega (arith, enough))
read-within (suc more) v rest enough = elim (cases_lt v 128) [
  | inl low ↦ ap (λ (l : List ℕ). leb128_read (l ++ rest)) (within-last (suc more) v low) ∙ read-last v rest low
  | inr high ↦
      let byte = 128 + v % 128 in
      let value : byte - 128 + 128 * (v / 128) ≡ v = omega arith in
      ap (λ (l : List ℕ). leb128_read (l ++ rest)) (within-more more v high)
      ∙ read-more byte (leb128_within more (v / 128) ++ rest) (omega arith)
      ∙ ap (λ (o : Option (ℕ × List ℕ)). option_map (λ r. (byte - 128 + 128 * r.0, r.1)) o) (read-within more (v / 128) rest (omega (arith, enough, high)))
      ∙ ap (λ x. Some (x, rest)) value
]

within-enough : (more other v : ℕ) → v ≤ more → v ≤ other → leb128_within more v ≡ leb128_within other v
within-enough zero other v enough enough' = let low : v < 128 = omega (arith, enough) in within-last zero v low ∙ sym (within-last other v low)
within-enough (suc more) zero v enough enough' = let low : v < 128 = omega (arith, enough') in within-last (suc more) v low ∙ sym (within-last zero v low)
within-enough (suc more) (suc other) v enough enough' = elim (cases_lt v 128) [
  | inl low ↦ within-last (suc more) v low ∙ sym (within-last (suc other) v low)
  | inr high ↦
      within-more more v high ∙ ap (λ (l : List ℕ). (128 + v % 128) ∷ l) (within-enough more other (v / 128) (omega (arith, enough, high)) (omega (arith, enough', high))) ∙ sym (within-more other v high)
]

-- one byte is enough
pub leb128-last : (v : ℕ) → v < 128 → leb128 v ≡ v ∷ []
unfolding leb128
leb128-last v low = within-last v v low

-- more bytes follow
pub leb128-more : (v : ℕ) → 128 ≤ v → leb128 v ≡ (128 + v % 128) ∷ leb128 (v / 128)
unfolding leb128
leb128-more v high =
    let more = v - 1 in
    let e : v ≡ suc more = omega (arith, high) in
    ap (λ k. leb128_within k v) e ∙ within-more more v high ∙ ap (λ (l : List ℕ). (128 + v % 128) ∷ l) (within-enough more (v / 128) (v / 128) (omega (arith, high)) (omega arith))

-- the number is read back
pub leb128-read : (v : ℕ) (rest : List ℕ) → leb128_read (leb128 v ++ rest) ≡ Some (v, rest)
unfolding leb128
leb128-read v rest = read-within v v rest (omega arith)

bytes-within : (more v : ℕ) → v ≤ more → All (λ b. b < 256) (leb128_within more v)
bytes-within zero v enough = All-cons (λ b. b < 256) v [] (omega (arith, enough)) (λ k d within. absurd (omega (arith, within)))
bytes-within (suc more) v enough = elim (cases_lt v 128) [
  | inl low ↦ subst (λ (l : List ℕ). All (λ b. b < 256) l) (sym (within-last (suc more) v low)) (All-cons (λ b. b < 256) v [] (omega (arith, low)) (λ k d within. absurd (omega (arith, within))))
  | inr high ↦ subst (λ (l : List ℕ). All (λ b. b < 256) l) (sym (within-more more v high)) (All-cons (λ b. b < 256) (128 + v % 128) (leb128_within more (v / 128)) (omega arith) (bytes-within more (v / 128) (omega (arith, enough, high))))
]

-- each item is a byte
pub leb128-bytes : (v : ℕ) → All (λ b. b < 256) (leb128 v)
unfolding leb128
leb128-bytes v = bytes-within v v (omega arith)

abbrev value_of : Option (ℕ × List ℕ) → ℕ
value_of None = 0
value_of (Some r) = r.0

abbrev rest_of : Option (ℕ × List ℕ) → List ℕ
rest_of None = []
rest_of (Some r) = r.1

-- what was read after a byte that others follow
read_after : (low v : ℕ) (o : Option (ℕ × List ℕ)) → option_map {U = ℕ × List ℕ} (λ r. (low + 128 * r.0, r.1)) o ≡ Some (v, []) → (q : ℕ) × (o ≡ Some (q, [])) × (low + 128 * q ≡ v)
read_after low v None is = absurd (cc)
read_after low v (Some r) is = (r.0, ap (λ (l : List ℕ). Some (r.0, l)) (ap rest_of is), ap value_of is)

shortest-within : (bytes : List ℕ) (more v : ℕ) → v ≤ more → All (λ b. b < 256) bytes → leb128_read bytes ≡ Some (v, []) → length (leb128_within more v) ≤ length bytes
shortest-within [] more v enough small is = absurd (cc)
shortest-within (byte ∷ bytes) zero v enough small is = omega arith
shortest-within (byte ∷ bytes) (suc more) v enough small is = elim (cases_lt v 128) [
  | inl low ↦ rw (within-last (suc more) v low) (omega arith)
  | inr high ↦ elim (cases_lt byte 128) [
    | inl last ↦ let same : byte ≡ v = ap value_of (sym (read-last byte bytes last) ∙ is) in absurd (omega (arith, same, last, high))
    | inr follows ↦
        let after = read_after (byte - 128) v (leb128_read bytes) (sym (read-more byte bytes follows) ∙ is) in
        let top : byte < 256 = All-head (λ b. b < 256) byte bytes small in
        let value : v / 128 ≡ after.0 = omega (arith, after.2, top) in
        let read : leb128_read bytes ≡ Some (v / 128, []) = after.1 ∙ ap (λ q. Some (q, [])) (sym value) in
        let fewer : length (leb128_within more (v / 128)) ≤ length bytes =
        shortest-within bytes more (v / 128) (omega (arith, enough, high)) (All-tail (λ b. b < 256) byte bytes small) read in
        rw (within-more more v high) (omega (arith, fewer))
  ]
]

-- no other bytes that are read as the number are fewer
pub leb128-shortest : (v : ℕ) (bytes : List ℕ) → All (λ b. b < 256) bytes → leb128_read bytes ≡ Some (v, []) → length (leb128 v) ≤ length bytes
unfolding leb128
leb128-shortest v bytes small is = shortest-within bytes v v (omega arith) small is
