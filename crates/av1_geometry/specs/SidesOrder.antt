-- The laws of the order of sizes: sizes that are known by their two sides are partially ordered by them.
use Rattle.std.proofs.Common.{◌≡◌, Bool, false, Option, Some, refl, sym, ap, ◌∙◌, subst, true≢false, option_map}
use Rattle.std.specs.declared.cmp.Ordering.{Ordering}
use Rattle.std.specs.declared.cmp.Ordering.TheVariants.{Less, Equal, Greater}
use Rattle.std.specs.Ordering.{ordering_reverse, ordering_then, is_gt, is_lt, is_eq, is_some_and}
use Rattle.std.specs.Cmp.{IsTotalOrder, IsPartialOrder, alike_right, tied_itself}
use Rattle.std.specs.Bool.{Decides}
use Rattle.av1_geometry.specs.Sides.{by_sides}

not_less : {A : Type 0} (o : Option Ordering) → is_some_and is_lt o ≡ false → o ≡ Some Less → A
not_less o f e = absurd (true≢false (sym (ap (is_some_and is_lt) e) ∙ f))

not_equal : {A : Type 0} (o : Option Ordering) → is_some_and is_eq o ≡ false → o ≡ Some Equal → A
not_equal o f e = absurd (true≢false (sym (ap (is_some_and is_eq) e) ∙ f))

turned : (a b : Ordering) → by_sides (ordering_reverse a) (ordering_reverse b) ≡ option_map ordering_reverse (by_sides a b)
turned Less Less = refl
turned Less Equal = refl
turned Less Greater = refl
turned Equal Less = refl
turned Equal Equal = refl
turned Equal Greater = refl
turned Greater Less = refl
turned Greater Equal = refl
turned Greater Greater = refl

-- of two steps that do not go down
climbs : {K : Type 0} {R : K → K → Ordering} → IsTotalOrder R → (x y z : K) (a b : Ordering) → R x y ≡ a → R y z ≡ b → is_gt a ≡ false →
    is_gt b ≡ false → R x z ≡ ordering_then a b
climbs o x y z Less Less p q h k = o.trans x y z p q
climbs o x y z Less Equal p q h k = sym (alike_right o y z x q) ∙ p
climbs o x y z Less Greater p q h k = absurd (true≢false k)
climbs o x y z Equal b p q h k = o.congr x y z p ∙ q
climbs o x y z Greater b p q h k = absurd (true≢false h)

width_up : (a b : Ordering) → by_sides a b ≡ Some Less → is_gt a ≡ false
width_up Less b e = refl
width_up Equal b e = refl
width_up Greater Less e = not_less (by_sides Greater Less) refl e
width_up Greater Equal e = not_less (by_sides Greater Equal) refl e
width_up Greater Greater e = not_less (by_sides Greater Greater) refl e

height_up : (a b : Ordering) → by_sides a b ≡ Some Less → is_gt b ≡ false
height_up a Less e = refl
height_up a Equal e = refl
height_up Less Greater e = not_less (by_sides Less Greater) refl e
height_up Equal Greater e = not_less (by_sides Equal Greater) refl e
height_up Greater Greater e = not_less (by_sides Greater Greater) refl e

both_up : (a b c d : Ordering) → by_sides a b ≡ Some Less → by_sides c d ≡ Some Less → by_sides (ordering_then a c) (ordering_then b d) ≡ Some Less
both_up Less Less c d e f = refl
both_up Less Equal c Less e f = refl
both_up Less Equal c Equal e f = refl
both_up Less Equal Less Greater e f = not_less (by_sides Less Greater) refl f
both_up Less Equal Equal Greater e f = not_less (by_sides Equal Greater) refl f
both_up Less Equal Greater Greater e f = not_less (by_sides Greater Greater) refl f
both_up Less Greater c d e f = not_less (by_sides Less Greater) refl e
both_up Equal Less Less d e f = refl
both_up Equal Less Equal d e f = refl
both_up Equal Less Greater Less e f = not_less (by_sides Greater Less) refl f
both_up Equal Less Greater Equal e f = not_less (by_sides Greater Equal) refl f
both_up Equal Less Greater Greater e f = not_less (by_sides Greater Greater) refl f
both_up Equal Equal c d e f = not_less (by_sides Equal Equal) refl e
both_up Equal Greater c d e f = not_less (by_sides Equal Greater) refl e
both_up Greater Less c d e f = not_less (by_sides Greater Less) refl e
both_up Greater Equal c d e f = not_less (by_sides Greater Equal) refl e
both_up Greater Greater c d e f = not_less (by_sides Greater Greater) refl e

both_equal : (a b : Ordering) → by_sides a b ≡ Some Equal → (a ≡ Equal) × (b ≡ Equal)
both_equal Less Less e = not_equal (by_sides Less Less) refl e
both_equal Less Equal e = not_equal (by_sides Less Equal) refl e
both_equal Less Greater e = not_equal (by_sides Less Greater) refl e
both_equal Equal Less e = not_equal (by_sides Equal Less) refl e
both_equal Equal Equal e = (refl, refl)
both_equal Equal Greater e = not_equal (by_sides Equal Greater) refl e
both_equal Greater Less e = not_equal (by_sides Greater Less) refl e
both_equal Greater Equal e = not_equal (by_sides Greater Equal) refl e
both_equal Greater Greater e = not_equal (by_sides Greater Greater) refl e

module _ {K : Type 0} {R S : K → K → Ordering} (r : IsTotalOrder R) (s : IsTotalOrder S) where
  abbrev order : K → K → Option Ordering
  order x y = by_sides (R x y) (S x y)

  level : (x y : K) → x ≡ y → order x y ≡ Some Equal
  level x y e = subst (λ z. order x z ≡ Some Equal) e (ap (λ a. by_sides a (S x x)) (tied_itself r x) ∙ ap (λ b. by_sides Equal b) (tied_itself s x))

  -- where equal sides make equal sizes
  pub ordered : (E : K → K → Bool) → ((x y : K) → Decides (E x y) (x ≡ y)) → ((x y : K) → R x y ≡ Equal → S x y ≡ Equal → x ≡ y) → IsPartialOrder E
      (λ x y. by_sides (R x y) (S x y))
  ordered E decides known = record {
    antisymm = λ x y. ap (λ a. by_sides a (S x y)) (r.antisymm x y) ∙ ap (λ b. by_sides (ordering_reverse (R y x)) b) (s.antisymm x y) ∙ turned (R y x) (S y x);
    trans = λ x y z p q.
        let w : R x z ≡ ordering_then (R x y) (R y z) = climbs r x y z (R x y) (R y z) refl refl (width_up _ (S x y) p) (width_up _ (S y z) q) in
        let h : S x z ≡ ordering_then (S x y) (S y z) = climbs s x y z (S x y) (S y z) refl refl (height_up (R x y) _ p) (height_up (R y z) _ q) in
        ap (λ a. by_sides a (S x z)) w ∙ ap (λ b. by_sides (ordering_then (R x y) (R y z)) b) h ∙ both_up (R x y) (S x y) (R y z) (S y z) p q;
    matches_eq = λ x y. (
      λ e. level x y ((decides x y).0 e),
      λ e. let b : (R x y ≡ Equal) × (S x y ≡ Equal) = both_equal (R x y) (S x y) e in
          (decides x y).1 (known x y b.0 b.1),
    );
    congr = λ x y z e. ap (λ v. order v z) ((decides x y).0 e);
  }
