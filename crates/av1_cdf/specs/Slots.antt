-- Slots of the code as those of the layout.
use Rattle.std.specs.Prelude.{ℕ}
use Rattle.av1_cdf.specs.declared.cdf_offset.CDFOffset.{CDFOffset}
use Rattle.av1_cdf.specs.declared.run.Cell.{Cell}
use Rattle.av1_cdf.specs.Layout.{Slot, cell}

abbrev pub slot_of : CDFOffset → Slot
slot_of cdf = record { place = cdf.place; len = cdf.len }

-- the CDF that the number at a place belongs to
abbrev pub cell_of : ℕ → Cell
cell_of k = record { place = (cell k).place; len = (cell k).len }
