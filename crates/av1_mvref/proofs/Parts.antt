-- What groups of neighbours give together.
use Rattle.std.proofs.Common.{◌≡◌, ℕ, zero, suc, ◌+◌, ◌%◌, ◌^◌, ◌≤◌, List, [], ◌∷◌, ◌++◌, Bool, true, false, ◌||◌, map, refl, sym, ap, ◌∙◌, arith}
use Rattle.std.specs.Prelude.{◌&&◌, not}
use Rattle.std.specs.List.{list_any}
use Rattle.std.proofs.lemmas.List.Folds.{list_any-append}
use Rattle.std.proofs.lemmas.Nat.{mod-pow-add}
use Rattle.av1_blocks.specs.declared.block.Block.{Block}
use Rattle.av1_mvref.specs.declared.candidate.Wanted.{Wanted}
use Rattle.av1_mvref.specs.declared.neighbours.Matches.{Matches}
use Rattle.av1_mvref.specs.Neighbours.{Edge, Neighbour, neighbour, row_and_column}
use Rattle.av1_mvref.specs.Candidates.{gives, gives_new, matches_of, either}

pub matches-equal : (a b c d e f : Bool) → a ≡ d → b ≡ e → c ≡ f →
    let m : Matches = record { above = a; left = b; new = c } in
    let n : Matches = record { above = d; left = e; new = f } in m ≡ n
matches-equal a b c d e f p q r =
    ap (λ (v : Bool). let m : Matches = record { above = v; left = b; new = c } in m) p
    ∙ ap (λ (v : Bool). let m : Matches = record { above = d; left = v; new = c } in m) q
    ∙ ap (λ (v : Bool). let m : Matches = record { above = d; left = e; new = v } in m) r

pub matches-append : (w : Wanted) (ms ns : List Neighbour) → matches_of w (ms ++ ns) ≡ either (matches_of w ms) (matches_of w ns)
matches-append w ms ns =
    matches-equal _ _ _ _ _ _
    (list_any-append (λ n. n.is_above && gives w n) ms ns)
    (list_any-append (λ n. not n.is_above && gives w n) ms ns)
    (list_any-append (gives_new w) ms ns)

any_above : (w : Wanted) (e : Edge) (d : ℕ) (bs : List Block) → e.is_above ≡ true →
    list_any (λ n. n.is_above && gives w n) (map (neighbour e d) bs) ≡ list_any (gives w) (map (neighbour e d) bs)
any_above w e d [] h = refl
any_above w e d (b ∷ bs) h =
    ap (λ v. (v && gives w (neighbour e d b)) || list_any (λ n. n.is_above && gives w n) (map (neighbour e d) bs)) h
    ∙ ap (λ v. gives w (neighbour e d b) || v) (any_above w e d bs h)

none_above : (w : Wanted) (e : Edge) (d : ℕ) (bs : List Block) → e.is_above ≡ false →
    list_any (λ n. n.is_above && gives w n) (map (neighbour e d) bs) ≡ false
none_above w e d [] h = refl
none_above w e d (b ∷ bs) h =
    ap (λ v. (v && gives w (neighbour e d b)) || list_any (λ n. n.is_above && gives w n) (map (neighbour e d) bs)) h
    ∙ none_above w e d bs h

any_left : (w : Wanted) (e : Edge) (d : ℕ) (bs : List Block) → e.is_above ≡ false →
    list_any (λ n. not n.is_above && gives w n) (map (neighbour e d) bs) ≡ list_any (gives w) (map (neighbour e d) bs)
any_left w e d [] h = refl
any_left w e d (b ∷ bs) h =
    ap (λ v. (not v && gives w (neighbour e d b)) || list_any (λ n. not n.is_above && gives w n) (map (neighbour e d) bs)) h
    ∙ ap (λ v. gives w (neighbour e d b) || v) (any_left w e d bs h)

none_left : (w : Wanted) (e : Edge) (d : ℕ) (bs : List Block) → e.is_above ≡ true →
    list_any (λ n. not n.is_above && gives w n) (map (neighbour e d) bs) ≡ false
none_left w e d [] h = refl
none_left w e d (b ∷ bs) h =
    ap (λ v. (not v && gives w (neighbour e d b)) || list_any (λ n. not n.is_above && gives w n) (map (neighbour e d) bs)) h
    ∙ none_left w e d bs h

pub or_false : (a : Bool) → (a || false) ≡ a
or_false true = refl
or_false false = refl

-- a row and a column
pub matches-lines : (w : Wanted) (u l : Edge) (row column : ℕ) (us ls : List Block) → u.is_above ≡ true → l.is_above ≡ false →
    let above = map (neighbour u row) us in
    let left = map (neighbour l column) ls in
    let m : Matches = record { above = list_any (gives w) above; left = list_any (gives w) left; new = list_any (gives_new w) above || list_any (gives_new w) left } in
    m ≡ matches_of w (above ++ left)
matches-lines w u l row column us ls h k =
    let above = map (neighbour u row) us in
    let left = map (neighbour l column) ls in
    matches-equal _ _ _ _ _ _
    (sym (list_any-append (λ n. n.is_above && gives w n) above left
    ∙ ap (λ v. v || list_any (λ n. n.is_above && gives w n) left) (any_above w u row us h)
    ∙ ap (λ v. list_any (gives w) above || v) (none_above w l column ls k)
    ∙ or_false _))
    (sym (list_any-append (λ n. not n.is_above && gives w n) above left
    ∙ ap (λ v. v || list_any (λ n. not n.is_above && gives w n) left) (none_left w u row us h)
    ∙ any_left w l column ls k))
    (sym (list_any-append (gives_new w) above left))

-- one neighbour at a corner
pub matches-corner : (w : Wanted) (n : Neighbour) → n.is_above ≡ true →
    let m : Matches = record { above = gives w n; left = false; new = gives_new w n } in m ≡ matches_of w (n ∷ [])
matches-corner w n h =
    matches-equal _ _ _ _ _ _
    (sym (ap (λ v. (v && gives w n) || false) h ∙ or_false (gives w n)))
    (sym (ap (λ v. (not v && gives w n) || false) h))
    (sym (or_false (gives_new w n)))

-- a row and a column at the same distances
pub same-lines : (u l : Edge) (row column row_1 column_1 m n m_1 n_1 : ℕ) → row ≡ row_1 → column ≡ column_1 → m ≡ m_1 → n ≡ n_1 →
    row_and_column u l row column m n ≡ row_and_column u l row_1 column_1 m_1 n_1
same-lines u l row column row_1 column_1 m n m_1 n_1 p q r s =
    ap (λ k. row_and_column u l k column m n) p ∙ ap (λ k. row_and_column u l row_1 k m n) q
    ∙ ap (λ k. row_and_column u l row_1 column_1 k n) r ∙ ap (row_and_column u l row_1 column_1 m_1) s

-- a multiple of a power of two that is at least 2
pub multiple_even : (k x : ℕ) → x % 2 ^ k ≡ 0 → 2 ≤ 2 ^ k → x % 2 ≡ 0
multiple_even zero x h l = omega arith
multiple_even (suc k) x h l =
    let n : k + 1 ≡ suc k = omega arith in
    let e = mod-pow-add x k 1 in
    let z : x % 2 ^ (k + 1) ≡ 0 = ap (λ m. x % 2 ^ m) n ∙ h in
    omega arith
