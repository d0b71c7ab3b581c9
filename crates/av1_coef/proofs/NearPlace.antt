-- Levels from a place on.
use Rattle.std.proofs.Common.{◌≡◌, ℕ, ◌+◌, ◌-◌, ◌*◌, ◌/◌, ◌%◌, ◌^◌, ◌<◌, ◌≤◌, List, [], ◌∷◌, min, sum, map, length, take, drop, get_or, refl, ◌∙◌, ap, arith, add-mul}
use Rattle.std.proofs.lemmas.List.{get_or-drop, take_rest}
use Rattle.std.proofs.lemmas.Nat.{div-add-mod', pow_pos, mod_below}
use Rattle.std.proofs.Math.Nat.{mod-eq_of_lt}
use Rattle.std.proofs.Math.Pow.{pow_mono}
use Rattle.av1_geometry.specs.declared.tx_type.TxClass.{TxClass}
use Rattle.av1_coef.specs.Contexts.{Step, near_sum, base_steps, range_steps, range_magnitude}
use Rattle.av1_coef.specs.Padded.{level_in}

level_from : (h : ℕ) (levels : List ℕ) (c r x y : ℕ) → level_in h (drop (c * (h + 4) + r) levels) (0 + x) (0 + y) ≡ level_in h levels (c + x) (r + y)
level_from h levels c r x y =
    let e : (c * (h + 4) + r) + ((0 + x) * (h + 4) + (0 + y)) ≡ (c + x) * (h + 4) + (r + y) =
    let z : 0 + x ≡ x = omega arith in omega (arith, add-mul c x (h + 4), ap (λ k. k * (h + 4)) z) in
    get_or-drop (c * (h + 4) + r) levels ((0 + x) * (h + 4) + (0 + y)) 0 ∙ ap (λ k. get_or levels k 0) e

map_from : (most h : ℕ) (levels : List ℕ) (c r : ℕ) (steps : List Step) →
    map (λ (s : Step). min (level_in h (drop (c * (h + 4) + r) levels) (0 + s.columns) (0 + s.rows)) most) steps
    ≡ map (λ (s : Step). min (level_in h levels (c + s.columns) (r + s.rows)) most) steps
map_from most h levels c r [] = refl
map_from most h levels c r (s ∷ steps) =
    ap (λ a. min a most ∷ map (λ (s : Step). min (level_in h (drop (c * (h + 4) + r) levels) (0 + s.columns) (0 + s.rows)) most) steps) (level_from h levels c r s.columns s.rows)
    ∙ ap (λ l. min (level_in h levels (c + s.columns) (r + s.rows)) most ∷ l) (map_from most h levels c r steps)

sum_from : (most h : ℕ) (levels : List ℕ) (c r : ℕ) (steps : List Step) →
    near_sum most (level_in h (drop (c * (h + 4) + r) levels)) 0 0 steps ≡ near_sum most (level_in h levels) c r steps
sum_from most h levels c r steps = ap sum (map_from most h levels c r steps)

-- the place of a position among padded levels
position_padded : (h p : ℕ) → p + p / h * 4 ≡ p / h * (h + 4) + p % h
position_padded h p = omega (arith, div-add-mod' p h)

-- the levels from the place of a position on
tail_is : (h p : ℕ) (levels : List ℕ) → take (length levels - (p + p / h * 4)) (drop (p + p / h * 4) levels) ≡ drop (p / h * (h + 4) + p % h) levels
tail_is h p levels = take_rest levels (p + p / h * 4) ∙ ap (λ k. drop k levels) (position_padded h p)

module _ (class : TxClass) (h p : ℕ) (levels : List ℕ) where
  pub base_from : near_sum 3 (level_in h (take (length levels - (p + p / h * 4)) (drop (p + p / h * 4) levels))) 0 0 (base_steps class)
      ≡ near_sum 3 (level_in h levels) (p / h) (p % h) (base_steps class)
  base_from = ap (λ l. near_sum 3 (level_in h l) 0 0 (base_steps class)) (tail_is h p levels) ∙ sum_from 3 h levels (p / h) (p % h) (base_steps class)

  pub range_from : range_magnitude class (level_in h (take (length levels - (p + p / h * 4)) (drop (p + p / h * 4) levels))) 0 0
      ≡ range_magnitude class (level_in h levels) (p / h) (p % h)
  range_from =
      ap (λ l. range_magnitude class (level_in h l) 0 0) (tail_is h p levels)
      ∙ ap (λ n. min ((n + 1) / 2) 6) (sum_from 15 h levels (p / h) (p % h) (range_steps class))

-- what a shift of 1 comes to
shifted : (n : ℕ) → n ≤ 5 → 1 * 2 ^ n % 18446744073709551616 ≡ 2 ^ n
shifted n l = mod-eq_of_lt (omega (arith, pow_mono {i = n} {j = 5} l)) ∙ omega arith

-- so many rows are at most 32
few_rows : (n p : ℕ) → n ≤ 5 → p % 2 ^ n < 32
few_rows n p l = omega (arith, pow_mono {i = n} {j = 5} l, pow_pos n, mod_below p (2 ^ n) (pow_pos n))

-- the row of a position
pub row_is : (n p : ℕ) → n ≤ 5 → p % (1 * 2 ^ n % 18446744073709551616) ≡ p % 2 ^ n
row_is n p l = ap (λ m. p % m) (shifted n l)

pub row_few : (n p : ℕ) → n ≤ 5 → p % (1 * 2 ^ n % 18446744073709551616) < 32
row_few n p l = rw (shifted n l) (few_rows n p l)

pub some_rows : (n : ℕ) → n ≤ 5 → 0 < 1 * 2 ^ n % 18446744073709551616
some_rows n l = rw (shifted n l) (pow_pos n)

pub ruleset rows = (row_is, row_few, some_rows)
