-- Which lanes come before a symbol.
use Rattle.std.proofs.Common.{◌≡◌, ℕ, ◌+◌, ◌-◌, ◌%◌, ◌<◌, ◌≤◌, List, length, Bool, true, false, cond, nat_lt, get_or, map, refl, ap, zero-add, ◌∙◌, mod-eq_of_lt, arith}
use Rattle.std.proofs.lemmas.Bool.Decides.{nat_tests}
use Rattle.av1_model.specs.Cdf.{rate, adapted}
use Rattle.av1_ec.specs.Learning.{moved}
use Rattle.std.proofs.lemmas.List.FromFn.{get_or-map-range_with_len}
use Rattle.std.specs.List.{range_with_len}
use lib.Lanes.{top}

top_of : (b : Bool) → top 15 (cond b 65535 0) ≡ b
top_of true = refl
top_of false = refl

pub comes_before : (at val i : ℕ) → at ≤ 8 → i < 8 →
    get_or (map (λ j. top 15 (cond (nat_lt ((j + at) % 65536) val) 65535 0)) (range_with_len 0 8)) i false ≡ nat_lt (at + i) val
comes_before at val i h l =
    let sum : (i + at) % 65536 ≡ at + i = mod-eq_of_lt (omega arith) ∙ omega arith in
    get_or-map-range_with_len (λ j. top 15 (cond (nat_lt ((j + at) % 65536) val) 65535 0)) 0 8 i i false l (zero-add i)
    ∙ top_of (nat_lt ((i + at) % 65536) val)
    ∙ ap (λ j. nat_lt j val) sum

-- the numbers of a piece that is read, moved and written back
pub moved_there : (old new lanes read : List ℕ) (at rate s k : ℕ) → at ≤ k → k < at + 8 →
    ((j : ℕ) → at ≤ j → j < at + 8 → get_or new j 0 ≡ get_or lanes (j - at) 0) →
    ((i : ℕ) → i < 8 → get_or lanes i 0 ≡ moved rate s (at + i) (get_or read i 0)) →
    ((i : ℕ) → i < 8 → get_or read i 0 ≡ get_or old (at + i) 0) →
    get_or new k 0 ≡ moved rate s k (get_or old k 0)
moved_there old new lanes read at rate s k u v put learned here =
    let i = k - at in
    let l : i < 8 = omega arith in
    let e : at + i ≡ k = omega arith in
    put k u v ∙ learned i l ∙ ap (moved rate s (at + i)) (here i l) ∙ ap (λ j. moved rate s j (get_or old j 0)) e

pub adapted_moved : (cdf : List ℕ) (s k : ℕ) → k + 1 < length cdf → adapted cdf s k ≡ moved (rate cdf) s k (get_or cdf k 0)
adapted_moved cdf s k h = grind (arith, nat_tests)
