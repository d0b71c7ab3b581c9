-- What unit a text stands for or a number makes, in the words of a run.
use Rattle.std.specs.Prelude.{ℕ, List, [], ◌∷◌, Option, Some, None}
use Rattle.av1_input.specs.Fitted.{Fitted, Fits as FitsTable, Unfit as NotFits}
use Rattle.av1_input.specs.Unit.{Input, shape as input_shape}
use Rattle.av1_make.specs.Unit.{made_given, made_script}
use Rattle.av1_step.specs.declared.unit.Unit as declared
use Rattle.av1_tile.specs.declared.coding.Via.{Via}
use Rattle.av1_tile.specs.declared.coding.Via.TheVariants.{Direct}
use Rattle.av1_unit.specs.Plain.{PlainUnit, plain}

-- what a text is: no JSON, JSON that has at this path something that is no part of a unit, or a unit
pub data Shape : Type 0 where
  NoReading : Shape
  Unfit : List ℕ → Shape
  Fits : PlainUnit × Via → Shape

-- a unit and its way, as contracts see them
abbrev pub plain_with : declared.Unit × Via → PlainUnit × Via
plain_with found = (plain found.0, found.1)

abbrev pub shape_in : Option (Fitted Input) → Shape
shape_in None = NoReading
shape_in (Some (FitsTable i)) = Fits (record { given = i.given; scripts = i.scripts }, i.via)
shape_in (Some (NotFits path)) = Unfit path

abbrev pub shape : List ℕ → Shape
shape text = shape_in (input_shape text)

-- the unit that a number makes, of one tile
abbrev pub made_unit : ℕ → PlainUnit
made_unit n = record { given = made_given n; scripts = made_script n ∷ [] }

-- that unit, which is coded by an encoder
abbrev pub made : ℕ → Shape
made n = Fits (made_unit n, Direct)
