-- What the calls ask of a block and its references.
use Rattle.std.specs.Prelude.{◌≡◌, ◌%◌, ◌≤◌, IsTrue}
use Rattle.av1_geometry.specs.declared.block_offset.BlockOffset.{BlockOffset}
use Rattle.av1_geometry.specs.declared.block_size.BlockSize.{BlockSize}
use Rattle.av1_geometry.specs.declared.ref_type.RefType.{RefType}
use Rattle.av1_geometry.specs.BlockSize.{width_mi, height_mi}
use Rattle.av1_geometry.specs.RefType.{reference_number}
use Rattle.av1_mvref.specs.declared.candidate.Wanted.{Wanted}

-- the places of a block are multiples of its sides
pub record IsAligned (bo : BlockOffset) (size : BlockSize) : Type 0 where
  pub column : bo.x % width_mi size ≡ 0
  pub row : bo.y % height_mi size ≡ 0

-- one of the seven references of a frame
pub record IsReference (r : RefType) : Type 0 where
  pub first : 1 ≤ reference_number r
  pub last : reference_number r ≤ 7

-- the references that are looked for
pub record AreReferences (w : Wanted) : Type 0 where
  pub first : IsReference w.first
  pub second : IsTrue w.is_compound → IsReference w.second
