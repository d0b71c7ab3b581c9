-- The fields by name, and the name of the one that has a place.
use Rattle.std.proofs.Common.{◌≡◌, ℕ, zero, suc, ◌<◌, ◌≤◌, List, [], ◌∷◌, IsTrue, arith, Option, Some, map, drop, get_or, length, drop-cons, ◌&&◌, cond, nat_le, nat_lt, true, ap, ◌∙◌}
use Rattle.std.specs.Borrow.{Bor}
use Rattle.std.specs.List.{All, list_all}
use Rattle.av1_cdf.specs.FieldMap.{entry_of, name_at}
use Rattle.av1_cdf.specs.Runs.{end_of}
use Rattle.av1_cdf.specs.declared.run.Run.{Run}
use Rattle.av1_cdf.proofs.Cells.{both_true, is_le, le_is, lt_is}

pub name_here : (place : ℕ) (es : List (Bor (List ℕ) × ℕ × ℕ)) (i : ℕ) (d : Bor (List ℕ) × ℕ × ℕ) → i < length es →
    (get_or es i d).1 ≤ place → place < (get_or es i d).2 → name_at place (map entry_of (drop i es)) ≡ Some (get_or es i d).0.now
name_here place es i d l a b =
    let e = get_or es i d in
    let rest : Option (List ℕ) = name_at place (map entry_of (drop (suc i) es)) in
    let t : nat_le e.1 place ≡ true = le_is e.1 place a in
    let u : nat_lt place e.2 ≡ true = lt_is place e.2 b in
    ap (λ xs. name_at place (map entry_of xs)) (drop-cons es i d l) ∙ (λ j. cond (t j && u j) (Some e.0.now) rest)

-- each of these runs lies in the context, where a test says so
pub all_fit : {X : Type 0} (run : X → Run) (xs : List X) → IsTrue (list_all (λ x. nat_le (end_of (run x)) 5528) xs) → All (λ x. end_of (run x) ≤ 5528) xs
all_fit run [] h k d l = absurd (omega arith)
all_fit run (x ∷ xs) h zero d l = is_le (end_of (run x)) 5528 (both_true (nat_le (end_of (run x)) 5528) _ h).0
all_fit run (x ∷ xs) h (suc k) d l = all_fit run xs (both_true (nat_le (end_of (run x)) 5528) _ h).1 k d (omega arith)
