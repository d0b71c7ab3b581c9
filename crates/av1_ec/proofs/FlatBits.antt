-- Bits that are stored one after another.
use Rattle.std.proofs.Common.{◌≡◌, ℕ, suc, ◌-◌, ◌<◌, ◌≤◌, List, [], ◌∷◌, Bool, ap, sym, ◌∙◌, arith}
use Rattle.av1_model.specs.Bits.{has_bit, bits_of}
use Rattle.av1_model.specs.Interval.{Token}
use Rattle.av1_model.specs.Position.{Position, advance, advance_all}
use Rattle.av1_model.proofs.BitsNumbers.{bits_of-zero, bits_of-suc}
use Rattle.av1_ec.specs.declared.storage.WriterCheckpoint.{WriterCheckpoint}
use Rattle.av1_ec.specs.Checkpoint.{KeepsCheckpoints}
use Rattle.av1_ec.specs.Flat.{bool_token, flat_tokens}

-- what is kept twice is kept
pub keeps_both : {W : Type 0} (stored : W → ℕ) (IsReached : W → WriterCheckpoint → Type 0) (position_at : W → WriterCheckpoint → Position) (a b c : W) →
    KeepsCheckpoints stored IsReached position_at a b → KeepsCheckpoints stored IsReached position_at b c → KeepsCheckpoints stored IsReached position_at a c
keeps_both stored IsReached position_at a b c p q =
    record {
      more = omega (arith, p.more, q.more);
      reached = λ k h. q.reached k (p.reached k h);
      same = λ k h. q.same k (p.reached k h) ∙ p.same k h;
    }

-- tokens take back no bit
pub shift_rises : (p : Position) (ts : List Token) → p.shift ≤ (advance_all p ts).shift
shift_rises p [] = omega arith
shift_rises p (t ∷ ts) = let h : p.shift ≤ (advance p t).shift = omega arith in omega (arith, h, shift_rises (advance p t) ts)

-- the highest bit comes first
pub highest_first : (p : Position) (n v : ℕ) → 0 < n → advance_all p (flat_tokens (bits_of n v)) ≡ advance_all (advance p (bool_token 16384 (has_bit v (n - 1)))) (flat_tokens (bits_of (n - 1) v))
highest_first p n v h =
    let e : n ≡ suc (n - 1) = omega (arith, h) in
    ap (λ k. advance_all p (flat_tokens (bits_of k v))) e ∙ ap (λ (l : List Bool). advance_all p (flat_tokens l)) (bits_of-suc (n - 1) v)

-- while bits are left, the next one stays within what all of them take
pub next_within : (p q : Position) (n v most : ℕ) → 0 < n → advance_all p (flat_tokens (bits_of n v)) ≡ q → q.shift ≤ most → (advance p (bool_token 16384 (has_bit v (n - 1)))).shift ≤ most
next_within p q n v most h e b =
    let f : (advance_all (advance p (bool_token 16384 (has_bit v (n - 1)))) (flat_tokens (bits_of (n - 1) v))).shift ≡ q.shift = ap (λ (p : Position). p.shift) (sym (highest_first p n v h) ∙ e) in
    omega (arith, f, b, shift_rises (advance p (bool_token 16384 (has_bit v (n - 1)))) (flat_tokens (bits_of (n - 1) v)))

pub next_stored : (p p' q : Position) (n v : ℕ) → 0 < n → advance_all p (flat_tokens (bits_of n v)) ≡ q → p' ≡ advance p (bool_token 16384 (has_bit v (n - 1))) → advance_all p' (flat_tokens (bits_of (n - 1) v)) ≡ q
next_stored p p' q n v h e f = ap (λ p. advance_all p (flat_tokens (bits_of (n - 1) v))) f ∙ sym (highest_first p n v h) ∙ e

pub none_left : (p q : Position) (n v : ℕ) → n ≤ 0 → advance_all p (flat_tokens (bits_of n v)) ≡ q → p ≡ q
none_left p q n v h e =
    let z : n ≡ 0 = omega (arith, h) in
    sym (ap (λ k. advance_all p (flat_tokens (bits_of k v))) z ∙ ap (λ (l : List Bool). advance_all p (flat_tokens l)) (bits_of-zero v)) ∙ e
