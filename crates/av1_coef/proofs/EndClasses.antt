-- The classes of all ends, computed.
use Rattle.std.proofs.Common.{◌≡◌, ℕ, suc, zero, ◌+◌, ◌-◌, ◌*◌, ◌/◌, ◌^◌, ◌<◌, ◌≤◌, Bool, true, ◌&&◌, nat_eq, nat_lt, nat_le, min, subst, refl, sym, ◌∙◌, ap, arith, inl, inr}
use Rattle.std.specs.List.{range_with_len, list_all}
use Rattle.std.proofs.lemmas.Bool.{cases_eq}
use Rattle.std.proofs.lemmas.Bool.Decides.{nat_tests}
use Rattle.av1_geometry.specs.CoefficientTables.{eob_class, group_start, offset_bits}
use Rattle.av1_coef.proofs.Tests.{both, same, lt_of}

all_at : (p : ℕ → Bool) (a n k : ℕ) → list_all p (range_with_len a n) ≡ true → a ≤ k → k < a + n → p k ≡ true
all_at p a zero k h l m = absurd (omega (arith, l, m))
all_at p a (suc n) k h l m =
    let b = both (p a) (list_all p (range_with_len (a + 1) n)) h in
    elim (cases_eq a k) [ inl e ↦ ap p (sym e) ∙ b.0 | inr ne ↦ all_at p (a + 1) n k b.1 (omega (arith, l, ne)) (omega (arith, m)) ]

-- an end is one of its class
abbrev in_class : ℕ → ℕ → Bool
in_class t eob = nat_le 1 t && (nat_le t 11 && (nat_le (group_start t) eob && nat_lt (eob - group_start t) (2 ^ offset_bits t)))

abbrev has_class : ℕ → Bool
has_class eob = in_class (eob_class eob) eob

all_have : list_all has_class (range_with_len 1 1024) ≡ true
all_have = refl

-- ends from 33 on go by the greatest of their 32
abbrev goes_by_32 : ℕ → Bool
goes_by_32 eob = nat_eq (eob_class (32 * min ((eob - 1) / 32) 16 + 32)) (eob_class eob)

all_go : list_all goes_by_32 (range_with_len 33 992) ≡ true
all_go = refl

pub record EndOf (eob t : ℕ) : Type 0 where
  pub least : 1 ≤ t
  pub most : t ≤ 11
  pub from : group_start t ≤ eob
  pub few : eob - group_start t < 2 ^ offset_bits t

le_of : (a b : ℕ) → nat_le a b ≡ true → a ≤ b
le_of a b h = grind (arith, nat_tests)

end_in : (t eob : ℕ) → in_class t eob ≡ true → EndOf eob t
end_in t eob h =
    let a = both (nat_le 1 t) (nat_le t 11 && (nat_le (group_start t) eob && nat_lt (eob - group_start t) (2 ^ offset_bits t))) h in
    let b = both (nat_le t 11) (nat_le (group_start t) eob && nat_lt (eob - group_start t) (2 ^ offset_bits t)) a.1 in
    let d = both (nat_le (group_start t) eob) (nat_lt (eob - group_start t) (2 ^ offset_bits t)) b.1 in
    record { least = le_of 1 t a.0; most = le_of t 11 b.0; from = le_of (group_start t) eob d.0; few = lt_of (eob - group_start t) (2 ^ offset_bits t) d.1 }

end_of : (eob : ℕ) → 1 ≤ eob → eob ≤ 1024 → EndOf eob (eob_class eob)
end_of eob l m = end_in (eob_class eob) eob (all_at has_class 1 1024 eob all_have l (omega (arith, m)))

pub large_end : (eob : ℕ) → 33 ≤ eob → eob ≤ 1024 → eob_class (32 * min ((eob - 1) / 32) 16 + 32) ≡ eob_class eob
large_end eob l m = same (eob_class (32 * min ((eob - 1) / 32) 16 + 32)) (eob_class eob) (all_at goes_by_32 33 992 eob all_go l (omega (arith, m)))

pub end_as : (eob t : ℕ) → t ≡ eob_class eob → 1 ≤ eob → eob ≤ 1024 → EndOf eob t
end_as eob t e l m = subst (EndOf eob) (sym e) (end_of eob l m)
