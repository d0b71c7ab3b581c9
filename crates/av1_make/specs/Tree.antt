-- How a superblock is parted, by what is drawn, and the items of all superblocks.
use Rattle.std.specs.Prelude.{◌≡◌, ℕ, Bool, false, zero, suc, ◌+◌, ◌*◌, ◌/◌, ◌%◌, ◌^◌, ◌==◌, ◌&&◌, nat_lt, if◌then◌else◌}
use Rattle.av1_geometry.specs.declared.block_size.BlockSize.{BlockSize}
use Rattle.av1_geometry.specs.declared.block_size.BlockSize.TheVariants.{BLOCK_8X8, BLOCK_16X16, BLOCK_32X32, BLOCK_64X64}
use Rattle.av1_geometry.specs.declared.partition_type.PartitionType.TheVariants.{PARTITION_NONE, PARTITION_SPLIT}
use Rattle.av1_step.specs.declared.unit.Item.{Item}
use Rattle.av1_step.specs.declared.unit.Item.TheVariants.{Begin, Keep, Abandon}
use Rattle.av1_step.specs.declared.step.TileStep.TheVariants.{Partition, RowStart}
use Rattle.av1_make.specs.declared.draws.Maker.{Maker}
use Rattle.av1_make.specs.declared.tree.Area.{Area}
use Rattle.av1_make.specs.Blocks.{block}
use Rattle.av1_make.specs.Draws.{Making, draw, drawn, next, nothing, one, step, ◌>>◌}

-- the square whose side is 8 samples, doubled so often
abbrev pub square : ℕ → BlockSize
square zero = BLOCK_8X8
square (suc zero) = BLOCK_16X16
square (suc (suc zero)) = BLOCK_32X32
square (suc (suc (suc level))) = BLOCK_64X64

-- a place lies inside
abbrev pub is_inside : Area → ℕ → ℕ → Bool
is_inside area x y = nat_lt x area.cols && nat_lt y area.rows

-- a node that is not parted
unfoldable pub leaf : ℕ → ℕ → ℕ → Making
leaf level x y = step (Partition x y (square level) PARTITION_NONE) >> block x y (square level)

-- a node that is parted into quarters, by what is made of a quarter at a place
unfoldable pub split : ℕ → ℕ → ℕ → ℕ → (ℕ → ℕ → Making) → Making
split level half x y quarter =
    step (Partition x y (square level) PARTITION_SPLIT)
    >> quarter x y
    >> quarter (x + half) y
    >> quarter x (y + half)
    >> quarter (x + half) (y + half)

-- whether a node stays whole: a number says so where both halves begin inside, and else it does not
unfoldable pub whole : Bool → (Bool → Making) → Making
whole fits of = if fits then draw (λ number. of (number % 2 == 0)) else of false

-- a node that lies inside
unfoldable pub parted : Area → ℕ → ℕ → ℕ → ℕ → (ℕ → ℕ → Making) → Making
parted area level half x y quarter = whole (is_inside area (x + half) (y + half)) (λ is. if is then leaf level x y else split level half x y quarter)

-- The node of a level at a place. Outside there is none, and those of the lowest level, which lie wholly inside, are not parted.
abbrev pub node : Area → ℕ → ℕ → ℕ → Making
node area zero x y = if is_inside area x y then leaf 0 x y else nothing
node area (suc level) x y = if is_inside area x y then parted area (suc level) (2 ^ (level + 1)) x y (node area level) else nothing

-- a superblock in a trial with this end
unfoldable pub trial : Area → ℕ → ℕ → Item → Making
trial area x y end = one (Begin record { 0 = record { x = x; y = y } }) >> node area 3 x y >> one end

-- the first superblock of a row begins the row
unfoldable pub begun : ℕ → Making
begun x = if x == 0 then step RowStart else nothing

-- a superblock is tried twice, and the second trial is kept
unfoldable pub superblock : Area → ℕ → ℕ → Making
superblock area x y = begun x >> trial area x y Abandon >> trial area x y Keep

-- the first superblocks in raster order, where a row has so many
abbrev pub superblocks : Area → ℕ → ℕ → Making
superblocks area across zero = nothing
superblocks area across (suc k) = superblocks area across k >> superblock area (16 * (k % across)) (16 * (k / across))

-- a maker has chosen whether a node stays whole
pub record Chooses (fits is : Bool) (before after : Maker) : Type 0 where
  pub value : is ≡ (fits && (drawn before.state % 2 == 0))
  pub items : after.items ≡ before.items
  pub state : after.state ≡ (if fits then next before.state else before.state)
