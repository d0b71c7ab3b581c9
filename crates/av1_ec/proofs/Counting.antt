-- Counting the bits of tokens, without the low end.
use Rattle.std.proofs.Common.{◌≡◌, ℕ, ◌+◌, ◌-◌, ◌*◌, ◌%◌, ◌^◌, ◌≤◌, ap, subst, sym, ◌∙◌, arith}
use Rattle.std.proofs.Math.Logic.{∥∥₁_elim}
use Rattle.std.proofs.Math.Nat.{mod-eq_of_lt}
use Rattle.std.proofs.Props.{props}
use Rattle.std.specs.Int.{leading_zeros, w16}
use Rattle.av1_model.specs.Interval.{Token, IsToken, IsInterval, top, bottom}
use Rattle.av1_model.specs.Position.{advance}
use Rattle.av1_model.proofs.Positions.{advance_valid}
use Rattle.av1_model.proofs.Tokens.{whole_valid}
use Rattle.av1_ec.specs.Counter.{counter_position, IsCount}

-- the facts of a counter's ghost field
pub count_of : (range bits : ℕ) → ∥ IsCount range bits ∥₁ → IsCount range bits
count_of range bits h = ∥∥₁_elim h (hlevel props) (λ c. c)

pub count_begun : IsCount 32768 0
count_begun = record { interval = whole_valid; few = omega arith }

-- what a token leaves
pub record Counted (range bits width d : ℕ) (t : Token) : Type 0 where
  pub wide : 32768 ≤ width * 2 ^ d % 65536
  pub count : IsCount (width * 2 ^ d % 65536) (bits + d)
  pub range_is : width * 2 ^ d % 65536 ≡ (advance (counter_position range bits 0) t).range
  pub bits_is : bits + d ≡ (advance (counter_position range bits 0) t).shift

pub counted : (range bits width d : ℕ) (t : Token) → IsInterval (record { low = 0; range = range; shift = bits }) → IsToken t →
    width ≡ top range t - bottom range t → d ≡ leading_zeros w16 width → (advance (counter_position range bits 0) t).shift ≤ 2 ^ 28 + 2 ^ 24 → Counted range bits width d t
counted range bits width d t i v w f b =
    let w' = top range t - bottom range t in
    let d' = leading_zeros w16 w' in
    let f' : d ≡ d' = f ∙ ap (leading_zeros w16) w in
    let q = advance_valid (counter_position range bits 0) t i v in
    let m : width * 2 ^ d % 65536 ≡ w' * 2 ^ d' = (λ k. w k * 2 ^ f' k % 65536) ∙ mod-eq_of_lt q.below in
    let s : bits + d ≡ bits + d' = ap (λ n. bits + n) f' in
    record {
      wide = subst (λ z. 32768 ≤ z) (sym m) q.wide;
      count = rw (m, s) record { interval = q; few = b };
      range_is = m;
      bits_is = s;
    }
