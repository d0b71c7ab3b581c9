-- What a reader does to take a code back from symbols, where each bit is a symbol of the distribution q: the trees of
-- literal(n), NS(n) and so on of the AV1 specification.
use Rattle.std.specs.Prelude.{◌≡◌, ℕ, zero, suc, ◌+◌, ◌-◌, ◌*◌, ◌^◌, ◌≤◌, ℤ, pos, ◌+ℤ◌, ◌-ℤ◌, unsigned_abs}
use Rattle.std.specs.Prelude.{List, [], ◌∷◌, map, Bool, nat_eq, nat_lt, nat_le, if◌then◌else◌}
use Rattle.av1_model.specs.Syntax.{Syntax, Leads, bind}
use Rattle.av1_model.specs.Syntax.Syntax.{Bad, Done, Ask}
use Rattle.av1_model.specs.Element.{Element}
use Rattle.av1_model.specs.Codes.{binary_digits, short_words, inverse_recenter_finite}

-- the symbols that code bits
abbrev pub bit_symbols : List Bool → List ℕ
bit_symbols bits = map (λ bit. if bit then 1 else 0) bits

module _ {Q : Type 0} (q : Q) where
  -- a bit, 0 or 1, and what follows it
  abbrev pub bit_then : {A : Type 0} → (ℕ → Syntax Q A) → Syntax Q A
  bit_then k = Ask q (λ s. if nat_lt s 2 then k s else Bad)

  -- n more bits below those of a number, the highest first
  abbrev pub bits_below : ℕ → ℕ → Syntax Q ℕ
  bits_below zero high = Done high
  bits_below (suc n) high = bit_then (λ s. bits_below n (2 * high + s))

  -- a number of n bits: L(n) of the AV1 specification
  unfoldable pub literal_tree : ℕ → Syntax Q ℕ
  literal_tree n = bits_below n 0

  -- one of n values, quasi-uniform: NS(n) of the AV1 specification
  unfoldable pub quniform_tree : ℕ → Syntax Q ℕ
  quniform_tree n =
      let m = short_words n in
      if nat_lt n 2 then Done 0
      else bind (literal_tree (binary_digits n - 1)) (λ v. if nat_lt v m then Done v else bit_then (λ s. Done (2 * v - m + s)))

  -- one of n values at width b, where the later ones are read as they are among the rest
  abbrev pub subexp_step_tree : ℕ → ℕ → Syntax Q ℕ → Syntax Q ℕ
  subexp_step_tree b n rest =
      if nat_le n (3 * 2 ^ b) then quniform_tree n
      else bit_then (λ more. if nat_eq more 0 then literal_tree b else bind rest (λ v. Done (2 ^ b + v)))

  -- the same at widths that rise by one, in so many steps, of which n are enough
  abbrev pub subexp_tree_from : ℕ → ℕ → ℕ → Syntax Q ℕ
  subexp_tree_from zero b n = Done 0
  subexp_tree_from (suc steps) b n = subexp_step_tree b n (subexp_tree_from steps (suc b) (n - 2 ^ b))

  -- one of n values, subexponential, at widths k, k, k + 1 and so on: decode_subexp_bool() of the AV1 specification
  unfoldable pub subexp_tree : ℕ → ℕ → Syntax Q ℕ
  subexp_tree n k = subexp_step_tree k n (subexp_tree_from n k (n - 2 ^ k))

  -- by the distance from r: decode_unsigned_subexp_with_ref_bool()
  abbrev pub refsubexp_tree : ℕ → ℕ → ℕ → Syntax Q ℕ
  refsubexp_tree n k r = bind (subexp_tree n k) (λ d. Done (inverse_recenter_finite n r d))

  -- one of the numbers from low on and below high: decode_signed_subexp_with_ref_bool()
  abbrev pub between_tree : ℤ → ℤ → ℕ → ℤ → Syntax Q ℤ
  between_tree low high k r =
      bind (refsubexp_tree (unsigned_abs (high -ℤ low)) k (unsigned_abs (r -ℤ low))) (λ v. Done (low +ℤ pos v))

  -- after n zeros, where so many bits may follow up to the first one
  abbrev pub golomb_tree_after : ℕ → ℕ → Syntax Q ℕ
  golomb_tree_after zero n = Bad
  golomb_tree_after (suc more) n =
      bit_then (λ s. if nat_eq s 0 then golomb_tree_after more (suc n) else bind (bits_below n 1) (λ v. Done (v - 1)))

  -- Exp-Golomb, of numbers below 2 ^ most - 1: golomb_length_bit and golomb_data_bit of the AV1 specification
  unfoldable pub golomb_tree : ℕ → Syntax Q ℕ
  golomb_tree most = golomb_tree_after most 0

  -- each symbol is coded by q, and nothing fits one past 1
  abbrev pub AsksOnly : {A : Type 0} → Syntax Q A → Type 0
  AsksOnly Bad = Unit {0}
  AsksOnly (Done a) = Unit {0}
  AsksOnly (Ask p k) = (p ≡ q) × ((s : ℕ) → 2 ≤ s → k s ≡ Bad) × ((s : ℕ) → AsksOnly (k s))

  -- a tree reads a code of these values: it reads bits alone, the bits of each value lead to it, and no other symbols do
  pub record ReadsCode {V : Type 0} (tree : Syntax Q V) (IsValue : V → Type 0) (word : V → List Bool) : Type 0 where
    pub asks : AsksOnly tree
    pub leads : (v : V) → IsValue v → Leads tree (bit_symbols (word v)) v
    pub one_path : (v : V) (symbols : List ℕ) → Leads tree symbols v → IsValue v × (symbols ≡ bit_symbols (word v))

-- a code as an element, whose symbols are its bits
abbrev pub code : {Q V : Type 0} → Syntax Q V → (V → List Bool) → Element Q V
code tree word = record { tree = tree; symbols = λ v. bit_symbols (word v) }

-- in every context a bit is as likely as not, and it changes no context
pub record IsFlat {Q C : Type 0} (contents : C → Q → List ℕ) (adapted : C → Q → ℕ → C) (q : Q) : Type 0 where
  pub even : (c : C) → contents c q ≡ 16384 ∷ 0 ∷ []
  pub same : (c : C) (s : ℕ) → adapted c q s ≡ c
