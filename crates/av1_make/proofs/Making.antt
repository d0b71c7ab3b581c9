-- What makers make one after another.
use Rattle.std.specs.Prelude.{OnOk}
use Rattle.std.proofs.Common.{◌≡◌, Result, Ok, Err, ℕ, ◌+◌, ◌-◌, ◌<◌, ◌^◌, ◌*◌, ◌/◌, ◌%◌, ◌==◌, zero, suc, Bool, true, false, ◌++◌, sym, ap, subst, ◌∙◌, append_assoc, add-one, arith, refl, if◌then◌else◌}
use Rattle.std.proofs.lemmas.List.{append-nil}
use Rattle.av1_make.specs.declared.draws.Maker.{Maker}
use Rattle.av1_make.specs.declared.tree.Area.{Area}
use Rattle.av1_make.specs.Draws.{Draws, Makes, Making, after, draw, draw_all, drawn, nothing, ◌>>◌}
use Rattle.av1_make.specs.Tree.{Chooses, is_inside, leaf, node, parted, split, superblock, superblocks, whole}

pub makes_nothing : (maker : Maker) → Makes nothing maker maker
makes_nothing maker = record { items = sym (append-nil maker.items.items); state = refl }

pub makes_both : (first second : Making) (a b c : Maker) → Makes first a b → Makes second b c → Makes (first >> second) a c
unfolding ◌>>◌
makes_both first second a b c f s =
    record {
      items =
          s.items
          ∙ ap (λ xs. xs ++ (second b.state).items) f.items
          ∙ append_assoc a.items.items (first a.state).items (second b.state).items
          ∙ ap (λ state. a.items.items ++ ((first a.state).items ++ (second state).items)) f.state;
      state = s.state ∙ ap (λ state. (second state).state) f.state;
    }

-- what follows a draw
pub makes_drawn : (of : ℕ → Making) (number : ℕ) (a b c : Maker) → Draws number a b → Makes (of number) b c → Makes (draw of) a c
unfolding draw
makes_drawn of number a b c d m = record {
  items = m.items ∙ ap (λ v. v.items ++ (of number b.state).items) d.items ∙ ap (λ n. a.items.items ++ (of n b.state).items) d.value ∙ ap (λ state. a.items.items ++ (of (drawn a.state) state).items) d.state;
  state = m.state ∙ ap (λ n. (of n b.state).state) d.value ∙ ap (λ state. (of (drawn a.state) state).state) d.state;
}

-- the same, where the second may be refused
pub then_makes : {U E : Type 0} (r : Result U E) (first second : Making) (a b c : Maker) → Makes first a b → OnOk r (Makes second b c) → OnOk r (Makes (first >> second) a c)
then_makes (Ok u) first second a b c f s = makes_both first second a b c f s
then_makes (Err e) first second a b c f s = tt

pub then_drawn : {U E : Type 0} (r : Result U E) (of : ℕ → Making) (number : ℕ) (a b c : Maker) → Draws number a b → OnOk r (Makes (of number) b c) → OnOk r (Makes (draw of) a c)
then_drawn (Ok u) of number a b c d m = makes_drawn of number a b c d m
then_drawn (Err e) of number a b c d m = tt

-- what follows so many draws
pub makes_all_drawn : (n : ℕ) (of : (ℕ → ℕ) → Making) (a b c : Maker) → b.items ≡ a.items → b.state ≡ after n a.state → Makes (of (λ k. drawn (after k a.state))) b c → Makes (draw_all n of) a c
unfolding draw_all
makes_all_drawn n of a b c items state m =
    let here = of (λ k. drawn (after k a.state)) in
    record {
      items = m.items ∙ ap (λ v. v.items ++ (here b.state).items) items ∙ ap (λ s. a.items.items ++ (here s).items) state;
      state = m.state ∙ ap (λ s. (here s).state) state;
    }

-- what follows the choice whether a node stays whole
pub makes_whole : (fits is : Bool) (of : Bool → Making) (a b c : Maker) → Chooses fits is a b → Makes (of is) b c → Makes (whole fits of) a c
unfolding whole
makes_whole true is of a b c d m =
    makes_drawn (λ number. of (number % 2 == 0)) (drawn a.state) a b c (record { value = refl; items = d.items; state = d.state }) (subst (λ i. Makes (of i) b c) d.value m)
makes_whole false is of a b c d m =
    let n : Makes (of false) b c = subst (λ i. Makes (of i) b c) d.value m in
    record {
      items = n.items ∙ ap (λ v. v.items ++ (of false b.state).items) d.items ∙ ap (λ s. a.items.items ++ (of false s).items) d.state;
      state = n.state ∙ ap (λ s. (of false s).state) d.state;
    }

-- a node outside, one of the lowest level, and one above it
pub makes_outside : (area : Area) (level x y : ℕ) (maker : Maker) → is_inside area x y ≡ false → Makes (node area level x y) maker maker
makes_outside area zero x y maker out = rw out (makes_nothing maker)
makes_outside area (suc level) x y maker out = rw out (makes_nothing maker)

before_next : (level : ℕ) → suc level - 1 ≡ level
before_next level = omega arith

pub makes_parted : (area : Area) (level x y : ℕ) (a b : Maker) → 0 < level → is_inside area x y ≡ true → Makes (parted area level (2 ^ level) x y (node area (level - 1))) a b → Makes (node area level x y) a b
makes_parted area zero x y a b some inside m = absurd (omega (arith, some))
makes_parted area (suc level) x y a b some inside m =
    rw inside (subst (λ n. Makes (parted area (suc level) (2 ^ n) x y (node area level)) a b) (sym (add-one level))
    (subst (λ n. Makes (parted area (suc level) (2 ^ suc level) x y (node area n)) a b) (before_next level) m))

-- the same, where the last call may be refused
pub then_all_drawn : {U E : Type 0} (r : Result U E) (n : ℕ) (of : (ℕ → ℕ) → Making) (a b c : Maker) → b.items ≡ a.items → b.state ≡ after n a.state
    → OnOk r (Makes (of (λ k. drawn (after k a.state))) b c) → OnOk r (Makes (draw_all n of) a c)
then_all_drawn (Ok u) n of a b c items state m = makes_all_drawn n of a b c items state m
then_all_drawn (Err e) n of a b c items state m = tt

then_whole : {U E : Type 0} (r : Result U E) (fits is : Bool) (of : Bool → Making) (a b c : Maker) → Chooses fits is a b → OnOk r (Makes (of is) b c) → OnOk r (Makes (whole fits of) a c)
then_whole (Ok u) fits is of a b c d m = makes_whole fits is of a b c d m
then_whole (Err e) fits is of a b c d m = tt

-- a node that stays whole, and one that doesn't
pub leaf_parted : {U E : Type 0} (r : Result U E) (area : Area) (level half x y : ℕ) (quarter : ℕ → ℕ → Making) (a b c : Maker) → Chooses (is_inside area (x + half) (y + half)) true a b
    → OnOk r (Makes (leaf level x y) b c) → OnOk r (Makes (parted area level half x y quarter) a c)
unfolding parted
leaf_parted r area level half x y quarter a b c d m =
    then_whole r (is_inside area (x + half) (y + half)) true (λ is. if is then leaf level x y else split level half x y quarter) a b c d m

pub split_parted : {U E : Type 0} (r : Result U E) (area : Area) (level half x y : ℕ) (quarter : ℕ → ℕ → Making) (a b c : Maker) → Chooses (is_inside area (x + half) (y + half)) false a b
    → OnOk r (Makes (split level half x y quarter) b c) → OnOk r (Makes (parted area level half x y quarter) a c)
unfolding parted
split_parted r area level half x y quarter a b c d m =
    then_whole r (is_inside area (x + half) (y + half)) false (λ is. if is then leaf level x y else split level half x y quarter) a b c d m

pub then_parted : {U E : Type 0} (r : Result U E) (area : Area) (level half x y : ℕ) (a b : Maker) → 0 < level → half ≡ 2 ^ level → is_inside area x y ≡ true
    → OnOk r (Makes (parted area level half x y (node area (level - 1))) a b) → OnOk r (Makes (node area level x y) a b)
then_parted (Ok u) area level half x y a b some is inside m = makes_parted area level x y a b some inside (subst (λ n. Makes (parted area level n x y (node area (level - 1))) a b) is m)
then_parted (Err e) area level half x y a b some is inside m = tt

-- one superblock more
pub makes_one_more : (area : Area) (across k : ℕ) (a b c : Maker) → Makes (superblocks area across k) a b → Makes (superblock area (16 * (k % across)) (16 * (k / across))) b c
    → Makes (superblocks area across (k + 1)) a c
makes_one_more area across k a b c m n = rw (add-one k) (makes_both (superblocks area across k) (superblock area (16 * (k % across)) (16 * (k / across))) a b c m n)
