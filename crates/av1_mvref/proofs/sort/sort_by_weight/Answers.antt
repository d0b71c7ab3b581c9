use Rattle.std.proofs.Common.{◌<◌, ℕ, length, map, get_or, ◌∙◌, ap, sym, subst, arith}
use Rattle.std.specs.Prelude.{All}
use Rattle.std.specs.List.Sorted.{IsPermutation}
use Rattle.std.proofs.lemmas.List.Sorted.{sum_by-IsPermutation, All-permutation}
use Rattle.arrayvec.proofs.ArrayVecLemmas.{items-with_items}
use Rattle.av1_mvref.specs.Sorted.{ranks_from, candidate_at}
use Rattle.av1_mvref.proofs.Sorting.{place-of-rank, sorted-ranks, ascending-from_sorted}
use Rattle.av1_mvref.proofs.sort.sort_by_weight.Goals as goal

pub ranked-list-requires-clause-places : goal.ranked-list-requires-clause-places
ranked-list-requires-clause-places c =
    let xs = c.args.stack.now.items in
    let made = c.as_mut_slice.ensures.value ∙ c.ranks-ranks.ensures ∙ ap (ranks_from 0) c.as_slice.ensures.value in
    let moved : IsPermutation (ranks_from 0 xs) c.sort_unstable.new.self = subst (λ rs. IsPermutation rs c.sort_unstable.new.self) made c.sort_unstable.ensures.permutation in
    let left = c.as_slice-3.ensures.value ∙ items-with_items c.ranks-ranks.result c.sort_unstable.new.self (c.sort_unstable.ensures.len ∙ ap length c.as_mut_slice.ensures.value) in
    let within : All (λ r. r.1 < length xs) (ranks_from 0 xs) = λ k d h. let p = place-of-rank 0 xs k d h in omega arith in
    let all = All-permutation (λ (r : ℕ × ℕ). r.1 < length xs) (ranks_from 0 xs) c.sort_unstable.new.self moved within in
    λ k d h.
    let long : k < length c.sort_unstable.new.self = subst (λ rs. k < length rs) left h in
    let a = all k d long in
    let b : (get_or c.as_slice-3.result.now k d).1 < length xs = subst (λ rs. (get_or rs k d).1 < length xs) (sym left) a in
    subst (λ ys. (get_or c.as_slice-3.result.now k d).1 < length ys) (sym c.as_slice-2.ensures.value) b

pub returns : goal.returns
returns c =
    let xs = c.args.stack.now.items in
    let made = c.as_mut_slice.ensures.value ∙ c.ranks-ranks.ensures ∙ ap (ranks_from 0) c.as_slice.ensures.value in
    let moved : IsPermutation (ranks_from 0 xs) c.sort_unstable.new.self = subst (λ rs. IsPermutation rs c.sort_unstable.new.self) made c.sort_unstable.ensures.permutation in
    let left = c.as_slice-3.ensures.value ∙ items-with_items c.ranks-ranks.result c.sort_unstable.new.self (c.sort_unstable.ensures.len ∙ ap length c.as_mut_slice.ensures.value) in
    c.ranked-list.ensures
    ∙ ap (λ ys. map (candidate_at ys) c.as_slice-3.result.now) c.as_slice-2.ensures.value
    ∙ ap (map (candidate_at xs)) left
    ∙ sorted-ranks xs c.sort_unstable.new.self (omega arith) (λ f. sum_by-IsPermutation f (ranks_from 0 xs) c.sort_unstable.new.self moved) (ascending-from_sorted c.sort_unstable.new.self c.sort_unstable.ensures.sorted)
