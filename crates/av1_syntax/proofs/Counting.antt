-- What loop restoration costs.
use Rattle.std.proofs.Common.{◌≡◌, ℕ, zero, suc, ◌+◌, ◌*◌, ◌<◌, ◌≤◌, List, [], ◌∷◌, ◌++◌, Bool, true, false, if◌then◌else◌, length, drop, get_or, refl, sym, ap, ◌∙◌, arith, ℤ, pos, w8}
use mir.Val.{SFits, to_z, of_z}
use Rattle.std.proofs.lemmas.Int.{to_z-of_z}
use Rattle.std.proofs.lemmas.List.{length-append, length-map}
use Rattle.av1_ec.specs.CodeTrees.{bit_symbols}
use Rattle.av1_geometry.specs.declared.constants.TheConstants.{SGRPROJ_XQD_MIN, SGRPROJ_XQD_MAX}
use Rattle.av1_model.specs.Bits.{bits_of}
use Rattle.av1_model.specs.Cdf.{token_of}
use Rattle.av1_model.specs.Eighths.{eighths}
use Rattle.av1_model.specs.Interval.{Interval, Token, IsInterval, IsToken, narrow}
use Rattle.av1_model.proofs.BitsNumbers.{length-bits_of}
use Rattle.av1_model.proofs.Costs.{log_below}
use Rattle.av1_model.proofs.Tokens.{narrow_shift}
use Rattle.av1_syntax.specs.Restoration.{number_at, near_word, has_radius, weight_by, flat_bits_by, IsCost}
use Rattle.av1_syntax.specs.declared.restoration.RestorationFilter.TheVariants.{Sgrproj}

-- a symbol takes less than 14 bits
pub symbol_few : (i : Interval) (t : Token) (n : ℕ) → IsInterval i → IsToken t → eighths i + n ≡ eighths (narrow i t) → n ≤ 111
symbol_few i t n v w e = omega (arith, e, narrow_shift i t v w, log_below 3 i.range, log_below 3 (narrow i t).range)

-- a weight that has a pass
bits_long : (b : Bool) (word : List Bool) (n : ℕ) → b ≡ true → n ≡ 8 * length word → n ≡ 8 * length (if b then bit_symbols word else [])
bits_long false word n e h = absurd (let z : ⊥ = cc in z)
bits_long true word n e h = h ∙ sym (ap (λ k. 8 * k) (length-map word (λ bit. if bit then 1 else 0)))

pub weight_long : (set pass n : ℕ) (ref v : ℤ) → pass < 2 → SFits w8 ref → SFits w8 v → has_radius set pass ≡ true →
    n ≡ 8 * length (near_word (to_z w8 (of_z w8 (number_at SGRPROJ_XQD_MIN pass))) (to_z w8 (of_z w8 (number_at SGRPROJ_XQD_MAX pass))) 4 (to_z w8 (of_z w8 ref)) (to_z w8 (of_z w8 v))) → n ≡ 8 * length ((weight_by set pass ref).symbols v)
weight_long set zero n ref v l f g e h = bits_long (has_radius set 0) (near_word (number_at SGRPROJ_XQD_MIN 0) (number_at SGRPROJ_XQD_MAX 0) 4 ref v) n e (h ∙ (λ i. 8 * length (near_word (number_at SGRPROJ_XQD_MIN 0) (number_at SGRPROJ_XQD_MAX 0) 4 (to_z-of_z w8 ref f i) (to_z-of_z w8 v g i))))
weight_long set (suc zero) n ref v l f g e h = bits_long (has_radius set 1) (near_word (number_at SGRPROJ_XQD_MIN 1) (number_at SGRPROJ_XQD_MAX 1) 4 ref v) n e (h ∙ (λ i. 8 * length (near_word (number_at SGRPROJ_XQD_MIN 1) (number_at SGRPROJ_XQD_MAX 1) 4 (to_z-of_z w8 ref f i) (to_z-of_z w8 v g i))))
weight_long set (suc (suc pass)) n ref v l f g e h = absurd (omega (arith, l))

-- the set and both weights
second_at : (ws : List ℤ) → get_or (drop 1 ws) 0 (pos 0) ≡ get_or ws 1 (pos 0)
second_at [] = refl
second_at (a ∷ []) = refl
second_at (a ∷ b ∷ ws) = refl

flat_lengths : (set : ℕ) (xs ys : List ℕ) → length (bit_symbols (bits_of 4 set) ++ (xs ++ (ys ++ []))) ≡ 4 + (length xs + length ys)
flat_lengths set xs ys =
    let a = length-append (bit_symbols (bits_of 4 set)) (xs ++ (ys ++ [])) in
    let b = length-append xs (ys ++ []) in
    let c = length-append ys [] in
    let d = length-map {B = ℕ} (bits_of 4 set) (λ bit. if bit then 1 else 0) in
    let e = length-bits_of 4 set in
    omega (arith, a, b, c, d, e)

pub flat_long : (refs ws : List ℤ) (set m n : ℕ) → SFits w8 (number_at refs 0) → SFits w8 (number_at refs 1) → SFits w8 (number_at ws 0) → SFits w8 (number_at ws 1) →
    m ≡ 8 * length ((weight_by set 0 (to_z w8 (of_z w8 (number_at refs 0)))).symbols (to_z w8 (of_z w8 (number_at ws 0)))) → n ≡ 8 * length ((weight_by set 1 (to_z w8 (of_z w8 (number_at refs 1)))).symbols (to_z w8 (of_z w8 (number_at ws 1)))) →
    32 + m + n ≡ 8 * flat_bits_by refs (Sgrproj set ws)
flat_long refs ws set m n fr gr fw gw e h =
    let xs = (weight_by set 0 (number_at refs 0)).symbols (number_at ws 0) in
    let ys = (weight_by set 1 (number_at refs 1)).symbols (number_at ws 1) in
    let zs = (weight_by set 1 (number_at refs 1)).symbols (get_or (drop 1 ws) 0 (pos 0)) in
    let a : m ≡ 8 * length xs = e ∙ (λ i. 8 * length ((weight_by set 0 (to_z-of_z w8 (number_at refs 0) fr i)).symbols (to_z-of_z w8 (number_at ws 0) fw i))) in
    let b : n ≡ 8 * length ys = h ∙ (λ i. 8 * length ((weight_by set 1 (to_z-of_z w8 (number_at refs 1) gr i)).symbols (to_z-of_z w8 (number_at ws 1) gw i))) in
    let c : length zs ≡ length ys = ap (λ v. length ((weight_by set 1 (number_at refs 1)).symbols v)) (second_at ws) in
    let d : flat_bits_by refs (Sgrproj set ws) ≡ 4 + (length xs + length zs) = flat_lengths set xs zs in
    omega (arith, a, b, c, d)

-- both together
pub cost_sum : (i : Interval) (cdf numbers : List ℕ) (s kind bits m n : ℕ) → cdf ≡ numbers → s ≡ kind → IsCost i cdf s 0 m → n ≡ 8 * bits → IsCost i numbers kind bits (m + n)
cost_sum i cdf numbers s kind bits m n e f h g =
    let t : eighths (narrow i (token_of cdf s)) ≡ eighths (narrow i (token_of numbers kind)) = λ j. eighths (narrow i (token_of (e j) (f j))) in
    omega (arith, h, g, t)
