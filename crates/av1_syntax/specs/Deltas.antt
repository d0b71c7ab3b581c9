-- What a block adds to the levels of the loop filter.
use Rattle.std.specs.Prelude.{◌≡◌, ℕ, zero, suc, ◌+◌, ◌-◌, ◌^◌, ◌<◌, ◌≤◌, List, [], ◌∷◌, ◌++◌, min, nat_eq, nat_lt, Bool}
use Rattle.std.specs.Prelude.{if◌then◌else◌, Option, Some, None, codes, length, map, replicate, slice_index_or, sum, ℤ, pos, negsuc, ◌-ℤ◌, Result}
use Rattle.av1_blocks.specs.Grid.{Grid, block_at}
use Rattle.av1_cdf.specs.Distribution.{Distribution, Even}
use Rattle.av1_ec.specs.declared.known.Known.{Ghosts}
use Rattle.av1_geometry.specs.Cfl.{magnitude}
use Rattle.av1_geometry.specs.declared.block_offset.BlockOffset.{BlockOffset}
use Rattle.av1_model.specs.Element.{Element, known, ask, symbol, choose, after, renamed, nothing}
use Rattle.av1_syntax.specs.Calls.{adaptive, Coded}
use Rattle.av1_syntax.specs.Literals.{literal}
use Rattle.av1_syntax.specs.declared.context_writer.ContextWriter.{ContextWriter}

-- how many of these powers of two a size is above: delta_lf_rem_bits of the AV1 specification
abbrev pub rem_bits : ℕ → ℕ
rem_bits a = sum (map (λ p. if nat_lt p a then 1 else 0) (4 ∷ 8 ∷ 16 ∷ 32 ∷ 64 ∷ 128 ∷ 256 ∷ []))

-- the sizes that are above so many of them, by what they have above the last one: delta_lf_abs_bits
abbrev pub rest_of : ℕ → Element Distribution ℕ
rest_of n = renamed (literal (n + 1)) (λ v. v + 2 ^ (n + 1) + 1) (λ a. a - 2 ^ (n + 1) - 1)

-- a size from 3 on
abbrev pub rest_element : Element Distribution ℕ
rest_element = after (literal 3) rest_of rem_bits

-- a size, where 3 stands for 3 and above
abbrev pub size_after : ℕ → Element Distribution ℕ
size_after s = choose (nat_lt s 3) (known s) (choose (nat_eq s 3) rest_element nothing)

abbrev pub size_element : Distribution → Element Distribution ℕ
size_element q = ask q size_after (λ a. min a 3)

-- a number of a size, by its sign
abbrev pub signed_of : ℕ → ℕ → Option ℤ
signed_of a zero = Some (pos a)
signed_of a (suc zero) = Some (pos 0 -ℤ pos a)
signed_of a (suc (suc s)) = None

abbrev pub sign_bit : ℤ → ℕ
sign_bit (pos n) = 0
sign_bit (negsuc n) = 1

abbrev pub sign_element : ℕ → Element Distribution ℤ
sign_element a = choose (nat_eq a 0) (known (pos 0)) (symbol Even (signed_of a) sign_bit)

-- a delta: its size, and its sign where it is not zero
abbrev pub delta_element : Distribution → Element Distribution ℤ
delta_element q = after (size_element q) sign_element magnitude

abbrev pub delta_at : List ℤ → ℕ → ℤ
delta_at ds k = slice_index_or ds k (pos 0)

-- four deltas, of which the first ones are known, so many follow, and the others are zero
abbrev pub deltas_after : (ℕ → Distribution) → List ℤ → ℕ → Element Distribution (List ℤ)
deltas_after q done zero = known (done ++ replicate (4 - length done) (pos 0))
deltas_after q done (suc more) = after (delta_element (q (length done))) (λ d. deltas_after q (done ++ d ∷ []) more) (λ ds. delta_at ds (length done))

-- what codes the size of a delta, by whether a block has several
abbrev pub delta_slot : Bool → ℕ → Distribution
delta_slot multi k = if multi then adaptive (codes "deblock_delta_multi_cdf") (k ∷ []) else adaptive (codes "deblock_delta_cdf") []

-- how many deltas a block has: one for all, or one for each direction of luma and each plane of chroma
abbrev pub delta_count : Bool → ℕ → ℕ
delta_count multi planes = if multi then planes + 1 else 1

abbrev pub deltas_element : Bool → ℕ → Element Distribution (List ℤ)
deltas_element multi planes = deltas_after (delta_slot multi) [] (delta_count multi planes)

-- they went the path of the deltas of a block, or its beginning
abbrev pub DeltasCoded : {W U E : Type 0} → Ghosts W → Result U E → Grid → BlockOffset → Bool → ℕ → W → W → ContextWriter → ContextWriter → Type 0
DeltasCoded known r g bo multi planes w u old new =
    Coded known r (deltas_element multi planes) (block_at g bo.x bo.y).deblock_deltas w u old new

-- the sizes are at most so great, and past the count all are zero
pub record AreDeltas (most count : ℕ) (ds : List ℤ) : Type 0 where
  pub four : length ds ≡ 4
  pub small : (k : ℕ) → k < count → magnitude (delta_at ds k) ≤ most
  pub none : (k : ℕ) → count ≤ k → delta_at ds k ≡ pos 0
