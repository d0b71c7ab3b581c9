-- Numbers that are drawn one after another, and items that they decide.
use Rattle.std.specs.Prelude.{◌≡◌, ℕ, ◌+◌, ◌*◌, ◌/◌, ◌%◌, ◌^◌, zero, suc, List, [], ◌∷◌, ◌++◌}
use Rattle.av1_step.specs.declared.unit.Item.{Item}
use Rattle.av1_step.specs.declared.unit.Item.TheVariants.{Step}
use Rattle.av1_step.specs.declared.step.TileStep.{TileStep}
use Rattle.av1_make.specs.declared.draws.Maker.{Maker}

-- the state of the draws after one more
unfoldable pub next : ℕ → ℕ
next state = (state * 1103515245 + 12345) % 2 ^ 31

-- what is drawn from a state: the upper bits of the next one
abbrev pub drawn : ℕ → ℕ
drawn state = next state / 2 ^ 16

-- the state after so many draws
abbrev pub after : ℕ → ℕ → ℕ
after zero state = state
after (suc n) state = next (after n state)

-- items, and the state of the draws after them
pub record Made : Type 0 where
  pub items : List Item
  pub state : ℕ

-- what is made from a state of the draws
abbrev pub Making : Type 0
Making = ℕ → Made

abbrev pub nothing : Making
nothing state = record { items = []; state = state }

abbrev pub one : Item → Making
one item state = record { items = item ∷ []; state = state }

abbrev pub step : TileStep → Making
step s = one (Step s)

-- the one and then the other, which goes on drawing where the first ended
infixr 5 ◌>>◌
unfoldable pub ◌>>◌ : Making → Making → Making
(first >> second) state = record { items = (first state).items ++ (second (first state).state).items; state = (second (first state).state).state }

-- a number is drawn, and decides what is made
unfoldable pub draw : (ℕ → Making) → Making
draw of state = of (drawn state) (next state)

-- so many numbers are drawn; the k-th of them is that after k draws
unfoldable pub draw_all : ℕ → ((ℕ → ℕ) → Making) → Making
draw_all n of state = of (λ k. drawn (after k state)) (after n state)

-- the items of a maker grow by what is made from its state
pub record Makes (making : Making) (before after : Maker) : Type 0 where
  pub items : after.items.items ≡ before.items.items ++ (making before.state).items
  pub state : after.state ≡ (making before.state).state

-- a maker has drawn a number
pub record Draws (number : ℕ) (before after : Maker) : Type 0 where
  pub value : number ≡ drawn before.state
  pub items : after.items ≡ before.items
  pub state : after.state ≡ next before.state
