-- The first thing that is wrong, over lists of places.
use Rattle.std.proofs.Common.{◌≡◌, ℕ, suc, ◌+◌, ◌<◌, List, [], ◌∷◌, ◌++◌, Option, Some, None, drop, map, length, take, get_or, refl, sym, ◌∙◌, ap, arith}
use Rattle.std.specs.List.{enumerate_from}
use Rattle.std.proofs.Math.Seq.{take-suc}
use Rattle.std.proofs.lemmas.List.{length-take-le, map-append, take-append-drop}
use Rattle.av1_tile.specs.declared.error.UnitError.{UnitError}
use Rattle.av1_unit.specs.Findings.{first_of}

-- where nothing is wrong with the first places, the others count
pub first_of-none : (xs ys : List (Option UnitError)) → first_of xs ≡ None → first_of (xs ++ ys) ≡ first_of ys
first_of-none [] ys h = refl
first_of-none (None ∷ xs) ys h = first_of-none xs ys h
first_of-none (Some e ∷ xs) ys h = absurd cc

pub first_of-some : (xs ys : List (Option UnitError)) (e : UnitError) → first_of xs ≡ Some e → first_of (xs ++ ys) ≡ Some e
first_of-some [] ys e h = absurd cc
first_of-some (None ∷ xs) ys e h = first_of-some xs ys e h
first_of-some (Some f ∷ xs) ys e h = h

pub first_of-both : (xs ys : List (Option UnitError)) → first_of (xs ++ ys) ≡ None → (first_of xs ≡ None) × (first_of ys ≡ None)
first_of-both [] ys h = (refl, h)
first_of-both (None ∷ xs) ys h = first_of-both xs ys h
first_of-both (Some e ∷ xs) ys h = absurd cc

-- a place where nothing is wrong doesn't count
pub first_of-next : (place : Option UnitError) (places : List (Option UnitError)) → place ≡ None → first_of (place ∷ places) ≡ first_of places
first_of-next None places h = refl
first_of-next (Some e) places h = absurd cc

pub first_of-here : (place : Option UnitError) (places : List (Option UnitError)) (e : UnitError) → place ≡ Some e → first_of (place ∷ places) ≡ Some e
first_of-here None places e h = absurd cc
first_of-here (Some f) places e h = h

pub enumerate-append : {X : Type 0} (n : ℕ) (xs ys : List X) → enumerate_from n (xs ++ ys) ≡ enumerate_from n xs ++ enumerate_from (n + length xs) ys
enumerate-append n [] ys = let e : n ≡ n + 0 = omega arith in ap (λ k. enumerate_from k ys) e
enumerate-append n (x ∷ xs) ys =
    let e : n + 1 + length xs ≡ n + length (x ∷ xs) = omega arith in
    ap (λ l. (n, x) ∷ l) (enumerate-append (n + 1) xs ys ∙ ap (λ k. enumerate_from (n + 1) xs ++ enumerate_from k ys) e)

-- one more of a list, with its number
pub one_more : {X : Type 0} (xs : List X) (k j : ℕ) (d : X) → k < length xs → j ≡ k + 1 → enumerate_from 0 (take j xs) ≡ enumerate_from 0 (take k xs) ++ (k, get_or xs k d) ∷ []
one_more xs k j d within is =
    let len : length (take k xs) ≡ k = length-take-le k xs (omega arith) in
    let next : j ≡ suc k = omega arith in
    let place : 0 + length (take k xs) ≡ k = omega (arith, len) in
    ap (λ n. enumerate_from 0 (take n xs)) next ∙ ap (enumerate_from 0) (take-suc xs k d within) ∙ enumerate-append 0 (take k xs) (get_or xs k d ∷ [])
    ∙ ap (λ n. enumerate_from 0 (take k xs) ++ (n, get_or xs k d) ∷ []) place

module _ {X : Type 0} (v : ℕ × X → Option UnitError) where
  -- the first thing that is wrong with a list, by the verdict on each and its number
  abbrev pub found_in : List X → Option UnitError
  found_in xs = first_of (map v (enumerate_from 0 xs))

  split : (xs : List X) (k j : ℕ) (d : X) → k < length xs → j ≡ k + 1 → found_in (take j xs) ≡ first_of (map v (enumerate_from 0 (take k xs)) ++ v (k, get_or xs k d) ∷ [])
  split xs k j d within is =
      ap (λ l. first_of (map v l)) (one_more xs k j d within is) ∙ ap first_of (map-append v (enumerate_from 0 (take k xs)) ((k, get_or xs k d) ∷ []))

  -- nothing is wrong with one more
  pub right_more : (xs : List X) (k j : ℕ) (d : X) → k < length xs → j ≡ k + 1 → found_in (take k xs) ≡ None → v (k, get_or xs k d) ≡ None → found_in (take j xs) ≡ None
  right_more xs k j d within is before here =
      split xs k j d within is ∙ first_of-none (map v (enumerate_from 0 (take k xs))) (v (k, get_or xs k d) ∷ []) before ∙ first_of-next (v (k, get_or xs k d)) [] here

  -- the first with which something is wrong
  pub wrong_here : (xs : List X) (k : ℕ) (d : X) (e : UnitError) → k < length xs → found_in (take k xs) ≡ None → v (k, get_or xs k d) ≡ Some e → found_in xs ≡ Some e
  wrong_here xs k d e within before here =
      let j = k + 1 in
      let front : found_in (take j xs) ≡ Some e =
      split xs k j d within refl ∙ first_of-none (map v (enumerate_from 0 (take k xs))) (v (k, get_or xs k d) ∷ []) before ∙ first_of-here (v (k, get_or xs k d)) [] e here in
      let rest = enumerate_from (0 + length (take j xs)) (drop j xs) in
      ap found_in (sym (take-append-drop j xs)) ∙ ap (λ l. first_of (map v l)) (enumerate-append 0 (take j xs) (drop j xs))
      ∙ ap first_of (map-append v (enumerate_from 0 (take j xs)) rest) ∙ first_of-some (map v (enumerate_from 0 (take j xs))) (map v rest) e front
