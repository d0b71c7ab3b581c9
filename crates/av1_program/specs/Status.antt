-- The program's statuses: their numbers and their lines.
use Rattle.std.specs.Prelude.{◌≡◌, ℕ, List, [], ◌++◌, codes, decimal, string_bytes}
use Rattle.av1_geometry.specs.declared.error.Rule.{Rule}
use Rattle.av1_tile.specs.declared.error.Place.{Place}
use Rattle.av1_tile.specs.declared.error.Place.TheVariants.{Tables, Scans, Sequence, Frame, Metadata, Scripts, Item, Obu}
use Rattle.av1_bits.specs.declared.transfer.ReadError.{ReadError}
use Rattle.av1_bits.specs.declared.transfer.ReadError.TheVariants as reading
use Rattle.av1_tile.specs.declared.error.UnitError.{UnitError}
use Rattle.av1_tile.specs.declared.error.UnitError.TheVariants as units
use Rattle.av1_input.specs.declared.error.ShapeError.{ShapeError}
use Rattle.av1_input.specs.declared.error.ShapeError.TheVariants as shapes
use Rattle.av1_program.specs.declared.status.Status.{Status}
use Rattle.av1_program.specs.declared.status.Status.TheVariants.{Sent, Usage, SourceFault, TooLarge, BadText, BadShape}
use Rattle.av1_program.specs.declared.status.Status.TheVariants.{Refused, BadScript, TooLong, SinkFault, OutOfMemory}

-- what the process ends with
abbrev pub number_of : Status → ℕ
number_of Sent = 0
number_of Usage = 1
number_of SourceFault = 2
number_of TooLarge = 3
number_of BadText = 4
number_of (BadShape path) = 5
number_of (Refused place rule) = 6
number_of (BadScript tile item) = 7
number_of (TooLong place) = 8
number_of SinkFault = 9
number_of OutOfMemory = 10

-- a place by its name and its numbers
unfoldable pub place_text : Place → List ℕ
place_text Tables = codes "tables"
place_text Scans = codes "scans"
place_text Sequence = codes "sequence"
place_text Frame = codes "frame"
place_text (Metadata index) = codes "metadata " ++ decimal index
place_text Scripts = codes "scripts"
place_text (Item tile item) = codes "tile " ++ decimal tile ++ codes " item " ++ decimal item
place_text (Obu index) = codes "obu " ++ decimal index

unfoldable pub refused_line : Place → Rule → List ℕ
refused_line place rule = codes "refused " ++ place_text place ++ codes " r" ++ decimal rule.0 ++ codes "\n"

unfoldable pub bad_script_line : ℕ → ℕ → List ℕ
bad_script_line tile item = codes "bad script " ++ place_text (Item tile item) ++ codes "\n"

unfoldable pub too_long_line : Place → List ℕ
too_long_line place = codes "too long " ++ place_text place ++ codes "\n"

unfoldable pub bad_shape_line : List ℕ → List ℕ
bad_shape_line path = codes "bad shape at " ++ path ++ codes "\n"

-- what `err` is told; of a unit that was sent, nothing
abbrev pub line_of : Status → List ℕ
line_of Sent = []
line_of Usage = codes "usage: av1_write write | raw | make N\n"
line_of SourceFault = codes "source fault\n"
line_of TooLarge = codes "input too large\n"
line_of BadText = codes "bad text\n"
line_of (BadShape path) = bad_shape_line (string_bytes path)
line_of (Refused place rule) = refused_line place rule
line_of (BadScript tile item) = bad_script_line tile item
line_of (TooLong place) = too_long_line place
line_of SinkFault = codes "sink fault\n"
line_of OutOfMemory = codes "out of memory\n"

-- it says that what stands at this path is no part of a unit
abbrev pub IsBadShape : List ℕ → Status → Type 0
IsBadShape path (BadShape p) = string_bytes p ≡ path
IsBadShape path _ = ⊥

-- its line is a text of the program, and takes no memory
abbrev pub HasFixedLine : Status → Type 0
HasFixedLine (BadShape path) = ⊥
HasFixedLine (Refused place rule) = ⊥
HasFixedLine (BadScript tile item) = ⊥
HasFixedLine (TooLong place) = ⊥
HasFixedLine _ = Unit {0}

-- what an error below means for the program
abbrev pub of_read_error : ReadError → Status
of_read_error reading.Fault = SourceFault
of_read_error reading.TooLarge = TooLarge
of_read_error reading.OutOfMemory = OutOfMemory

abbrev pub of_shape_error : ShapeError → Status
of_shape_error shapes.BadText = BadText
of_shape_error (shapes.BadShape path) = BadShape path
of_shape_error shapes.OutOfMemory = OutOfMemory

abbrev pub of_unit_error : UnitError → Status
of_unit_error (units.Refused place rule) = Refused place rule
of_unit_error (units.BadScript tile item) = BadScript tile item
of_unit_error (units.TooLong place) = TooLong place
of_unit_error units.SinkFault = SinkFault
of_unit_error units.OutOfMemory = OutOfMemory
