-- One entry more of an edge.
use Rattle.std.proofs.Common.{◌≡◌, ℕ, ◌+◌, ◌/◌, ◌%◌, ◌<◌, List, true, false, not, ◌||◌, max, nat_eq, length, get_or, take}
use Rattle.std.proofs.lemmas.List.Sums.{fold_more, count_by_more_yes, count_by_more_no}
use Rattle.std.proofs.lemmas.List.Folds.{list_any_more}
use Rattle.av1_blocks.specs.Coefficients.{greatest, signs, is_any}

pub greatest_more : (vs : List ℕ) (i d : ℕ) → i < length vs → greatest (take (i + 1) vs) ≡ max (greatest (take i vs)) (get_or vs i d % 64)
greatest_more vs i d h = fold_more (λ most v. max most (v % 64)) 0 vs i d h

pub signs_more_yes : (sign : ℕ) (vs : List ℕ) (i d : ℕ) → i < length vs → nat_eq (get_or vs i d / 64) sign ≡ true → signs sign (take (i + 1) vs) ≡ signs sign (take i vs) + 1
signs_more_yes sign vs i d h e = count_by_more_yes (λ v. nat_eq (v / 64) sign) vs i d h e

pub signs_more_no : (sign : ℕ) (vs : List ℕ) (i d : ℕ) → i < length vs → nat_eq (get_or vs i d / 64) sign ≡ false → signs sign (take (i + 1) vs) ≡ signs sign (take i vs)
signs_more_no sign vs i d h e = count_by_more_no (λ v. nat_eq (v / 64) sign) vs i d h e

pub any_more : (vs : List ℕ) (i d : ℕ) → i < length vs → is_any (take (i + 1) vs) ≡ (is_any (take i vs) || not (nat_eq (get_or vs i d) 0))
any_more vs i d h = list_any_more (λ v. not (nat_eq v 0)) vs i d h
