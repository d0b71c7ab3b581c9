-- A unit as contracts see it: its members, with plain lists.
use Rattle.std.specs.Prelude.{List}
use Rattle.av1_step.specs.declared.unit.Item.{Item}
use Rattle.av1_step.specs.declared.unit.Unit as declared
use Rattle.av1_step.specs.Given.{Given, given_of}

-- what a reader is given, and the scripts of the tiles
pub record PlainUnit : Type 0 where
  pub given : Given
  pub scripts : List (List Item)

abbrev pub plain : declared.Unit → PlainUnit
plain u = record { given = given_of u; scripts = u.scripts.items }
