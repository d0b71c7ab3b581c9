-- What the rules of tables say of each set.
use Rattle.std.proofs.Common.{◌≡◌, ℕ, zero, suc, ◌<◌, List, [], ◌∷◌, length, Bool, true, false, nat_eq, None, IsTrue, eqb-true, refl, arith}
use Rattle.std.specs.List.{list_all}
use Rattle.av1_cdf.specs.Tables.{table_rules, four_sets, of_size, valid_set, sets_agree, set_at}
use Rattle.av1_geometry.specs.Rules.{first_broken, rule}
use Rattle.av1_cdf.proofs.Cells.{both_true}

-- where no rule is broken, each holds
rules_hold : (a b c : Bool) → first_broken (rule 1 a ∷ rule 2 b ∷ rule 3 c ∷ []) ≡ None → IsTrue a × IsTrue b × IsTrue c
rules_hold false b c h = cc
rules_hold true false c h = cc
rules_hold true true false h = cc
rules_hold true true true h = (refl, refl, refl)

all_at : (p : List ℕ → Bool) (sets : List (List ℕ)) → IsTrue (list_all p sets) → (i : ℕ) → i < length sets → IsTrue (p (set_at sets i))
all_at p [] h i l = absurd (omega arith)
all_at p (s ∷ ss) h zero l = (both_true (p s) (list_all p ss) h).0
all_at p (s ∷ ss) h (suc i) l = all_at p ss (both_true (p s) (list_all p ss) h).1 i (omega arith)

pub four : (sets : List (List ℕ)) → first_broken (table_rules sets) ≡ None → length sets ≡ 4
four sets h = eqb-true (length sets) 4 (both_true (nat_eq (length sets) 4) (list_all of_size sets) (rules_hold (four_sets sets) (list_all valid_set sets) (sets_agree sets) h).0).0

pub whole : (sets : List (List ℕ)) → first_broken (table_rules sets) ≡ None → (i : ℕ) → i < 4 → length (set_at sets i) ≡ 5528
whole sets h i l =
    let n = four sets h in
    let r = rules_hold (four_sets sets) (list_all valid_set sets) (sets_agree sets) h in
    eqb-true (length (set_at sets i)) 5528 (all_at of_size sets (both_true (nat_eq (length sets) 4) (list_all of_size sets) r.0).1 i (omega (arith, n)))

pub valid : (sets : List (List ℕ)) → first_broken (table_rules sets) ≡ None → (i : ℕ) → i < 4 → IsTrue (valid_set (set_at sets i))
valid sets h i l =
    let n = four sets h in
    all_at valid_set sets (rules_hold (four_sets sets) (list_all valid_set sets) (sets_agree sets) h).1 i (omega (arith, n))
