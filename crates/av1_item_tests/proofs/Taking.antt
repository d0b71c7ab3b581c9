-- Items that are taken one after another.
use Rattle.std.proofs.Common.{◌≡◌, ◌<◌, ◌+◌, ℕ, List, [], ◌∷◌, ◌++◌, length, take, get_or, refl, sym, ap, subst, ◌∙◌}
use Rattle.std.proofs.lemmas.List.{take_more}
use Rattle.av1_ec.specs.declared.known.Known.{Ghosts}
use Rattle.av1_geometry.specs.declared.block_offset.TileBlockOffset.{TileBlockOffset}
use Rattle.av1_step.specs.declared.unit.Item.{Item}
use Rattle.av1_step.specs.declared.unit.Item.TheVariants.{Begin, Abandon}
use Rattle.av1_tile.specs.Items.{Stage, TakesOne, TakesAll}

module _ {W : Type 0} (writer : Ghosts W) where
  -- one more behind the others
  pub and_one : (from mid to : Stage W) (items : List Item) (item : Item) → TakesAll writer from mid items → TakesOne writer mid to item → TakesAll writer from to (items ++ item ∷ [])
  and_one from mid to [] item none one = (to, subst (λ (s : Stage W). TakesOne writer s to item) none one, refl)
  and_one from mid to (first ∷ items) item (between, came, all) one = (between, came, and_one between mid to items item all one)

  -- the next one of a list
  pub and_next : (from mid to : Stage W) (items : List Item) (i : ℕ) (item : Item) → i < length items → get_or items i item ≡ item
      → TakesAll writer from mid (take i items) → TakesOne writer mid to item → TakesAll writer from to (take (i + 1) items)
  and_next from mid to items i item lt is all one =
      let more : take (i + 1) items ≡ take i items ++ item ∷ [] = take_more items i item lt ∙ ap (λ x. take i items ++ x ∷ []) is in
      subst (λ (l : List Item). TakesAll writer from to l) (sym more) (and_one from mid to (take i items) item all one)

  -- a trial and the end that goes back
  pub trial_taken : (from begun mid to : Stage W) (place : TileBlockOffset) (items : List Item) → TakesOne writer from begun (Begin place) → TakesAll writer begun mid items → TakesOne writer mid to Abandon
      → TakesAll writer from to (Begin place ∷ (items ++ Abandon ∷ []))
  trial_taken from begun mid to place items begins all ends = (begun, begins, and_one begun mid to items Abandon all ends)
