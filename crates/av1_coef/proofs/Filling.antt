-- A loop that writes f of each index over a list.
use Rattle.std.proofs.Common.{◌≡◌, ℕ, ◌+◌, ◌<◌, List, [], ◌∷◌, ◌++◌, map, drop, set, get_or, length, sym, ap, ◌∙◌, arith, append_assoc}
use Rattle.std.specs.List.{range_with_len}
use Rattle.std.proofs.lemmas.List.{drop_more, get_or_append_left}
use Rattle.std.proofs.lemmas.List.FromFn.{length-map-range_with_len, map-range_with_len_more, get_or-map-range_with_len}
use Rattle.std.proofs.Math.Seq.{set-append_seam}

pub filled_more : {X : Type 0} (f : ℕ → X) (xs ys : List X) (i : ℕ) (y : X) → i < length xs → ys ≡ map f (range_with_len 0 i) ++ drop i xs → y ≡ f i →
    set ys i y ≡ map f (range_with_len 0 (i + 1)) ++ drop (i + 1) xs
filled_more f xs ys i y l e p =
    let front = map f (range_with_len 0 i) in
    let long : length front ≡ i = length-map-range_with_len f 0 i in
    ap (λ (w : List _). set w i y) (e ∙ ap (λ (w : List _). front ++ w) (drop_more xs i y l))
    ∙ sym (ap (λ j. set (front ++ (get_or xs i y ∷ drop (i + 1) xs)) j y) long)
    ∙ set-append_seam front (get_or xs i y) (drop (i + 1) xs) y
    ∙ ap (λ z. front ++ (z ∷ drop (i + 1) xs)) p
    ∙ sym (append_assoc front (f i ∷ []) (drop (i + 1) xs))
    ∙ ap (λ (w : List _). w ++ drop (i + 1) xs) (sym (map-range_with_len_more f 0 i i (omega arith)))

-- what is there at an index
pub filled_at : {X : Type 0} (f : ℕ → X) (xs ys : List X) (n i : ℕ) (d : X) → i < n → ys ≡ map f (range_with_len 0 n) ++ drop n xs → get_or ys i d ≡ f i
filled_at f xs ys n i d l e =
    ap (λ (w : List _). get_or w i d) e
    ∙ get_or_append_left (map f (range_with_len 0 n)) (drop n xs) d i (omega (arith, length-map-range_with_len f 0 n, l))
    ∙ get_or-map-range_with_len f 0 n i i d l (omega arith)
