-- Words that begin lists of bits.
use Rattle.std.proofs.Common.{◌≡◌, List, [], ◌∷◌, ◌++◌, length, refl}

-- words of one length at the front of equal lists are equal, and so is what follows
pub same_fronts : {X : Type 0} (front other xs ys : List X) → length front ≡ length other → front ++ xs ≡ other ++ ys → (front ≡ other) × (xs ≡ ys)
same_fronts [] [] xs ys size is = (refl, is)
same_fronts [] (b ∷ other) xs ys size is = absurd (cc)
same_fronts (a ∷ front) [] xs ys size is = absurd (cc)
same_fronts (a ∷ front) (b ∷ other) xs ys size is =
    let head : a ≡ b = cc in
    let tail : front ++ xs ≡ other ++ ys = cc in
    let rest = same_fronts front other xs ys (let e : length front ≡ length other = cc in e) tail in
    (let e : a ∷ front ≡ b ∷ other = let r = rest.0 in cc in e, rest.1)
