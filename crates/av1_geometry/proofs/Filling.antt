-- A loop that writes f of each element of one list over another list.
use Rattle.std.proofs.Math.Seq.{take-length}
use Rattle.std.proofs.lemmas.List.{drop-replicate}
use Rattle.std.proofs.Common.{◌≡◌, ℕ, zero, suc, ◌+◌, ◌-◌, replicate, ◌<◌, List, [], ◌∷◌, ◌++◌, map, take, drop, set, get_or, length, refl, sym, ap, ◌∙◌, add-one, arith}

fill_step : {X Y : Type 0} (f : X → Y) (xs : List X) (zs : List Y) (i : ℕ) (d : X) → i < length xs → i < length zs → set (map f (take i xs) ++ drop i zs) i (f (get_or xs i d)) ≡ map f (take (suc i) xs) ++ drop (suc i) zs
fill_step f [] zs i d h k = absurd (omega (arith, h))
fill_step f (x ∷ xs) [] i d h k = absurd (omega (arith, k))
fill_step f (x ∷ xs) (z ∷ zs) zero d h k = refl
fill_step f (x ∷ xs) (z ∷ zs) (suc i) d h k = ap (λ ys. f x ∷ ys) (fill_step f xs zs i d (omega (arith, h)) (omega (arith, k)))

pub filled : {X Y : Type 0} (f : X → Y) (xs : List X) (zs ys : List Y) (i : ℕ) (d : X) (y : Y) → i < length xs → i < length zs → ys ≡ map f (take i xs) ++ drop i zs → y ≡ f (get_or xs i d) → set ys i y ≡ map f (take (i + 1) xs) ++ drop (i + 1) zs
filled f xs zs ys i d y h k e p =
    ap (λ v. set ys i v) p ∙ ap (λ (w : List _). set w i (f (get_or xs i d))) e ∙ fill_step f xs zs i d h k
    ∙ ap (λ j. map f (take j xs) ++ drop j zs) (sym (add-one i))

-- after the last element
pub filled_whole : {X Y : Type 0} (f : X → Y) (xs : List X) (z : Y) (ys : List Y) (n i : ℕ) → i ≡ length xs → ys ≡ map f (take i xs) ++ drop i (replicate n z) → ys ≡ map f xs ++ replicate (n - length xs) z
filled_whole f xs z ys n i e p =
    p ∙ ap (λ j. map f (take j xs) ++ drop j (replicate n z)) e
    ∙ ap (λ (w : List _). map f w ++ drop (length xs) (replicate n z)) (take-length xs)
    ∙ ap (λ (w : List _). map f xs ++ w) (drop-replicate (length xs) n z)
