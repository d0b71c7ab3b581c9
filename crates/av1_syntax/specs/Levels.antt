-- The levels of a transform block in scan order: their sizes up to 15 from the last to the first, then the signs and what the
-- sizes have above 14 from the first to the last.
use Rattle.std.specs.Prelude.{ℕ, zero, suc, ◌+◌, ◌-◌, ◌^◌, List, [], ◌∷◌, ◌++◌, Bool, true, false, if◌then◌else◌, nat_eq}
use Rattle.std.specs.Prelude.{nat_lt, min, map, length, slice_index, slice_index_or, ℤ, pos, negsuc, ◌-ℤ◌, unsigned_abs}
use Rattle.av1_cdf.specs.Distribution.{Distribution, Even}
use Rattle.av1_cdf.specs.Distribution.Distribution.{Adaptive}
use Rattle.av1_cdf.specs.Layout.{Slot}
use Rattle.av1_codes.specs.Codes.{golomb}
use Rattle.av1_ec.specs.CodeTrees.{code, golomb_tree}
use Rattle.av1_model.specs.Element.{Element, nothing, known, ask, choose, after, renamed, tested}
use Rattle.av1_syntax.specs.Flags.{flag}

-- what a symbol tells: below 3 the one, at 3 the other
abbrev pub by_three : ℕ → Element Distribution ℕ → Element Distribution ℕ → Element Distribution ℕ
by_three s small great = choose (nat_lt s 3) small (choose (nat_eq s 3) great nothing)

-- a size of which `a` is read, where at most so many symbols follow, up to the first below 3
abbrev pub range_after : Distribution → ℕ → ℕ → Element Distribution ℕ
range_after q zero a = known a
range_after q (suc more) a = ask q (λ s. by_three s (known (a + s)) (range_after q more (a + 3))) (λ size. min (size - a) 3)

-- a size from 3 to 15: coeff_br of the AV1 specification
unfoldable pub range_element : Distribution → Element Distribution ℕ
range_element q = range_after q 4 3

-- a size from `low` to 15, where 3 stands for 3 and above: coeff_base_eob and coeff_base
abbrev pub coeff_size_element : Distribution → Distribution → ℕ → Element Distribution ℕ
coeff_size_element base range low = ask base (λ s. by_three (s + low) (known (s + low)) (range_element range)) (λ size. min size 3 - low)

-- the least size, where these come later: the last one is not 0
abbrev pub least : List ℕ → ℕ
least [] = 1
least (a ∷ later) = 0

-- the sizes at the first so many places, where those that come later are read; `base` and `range` know a place and the sizes that come later
abbrev pub sizes_after : (ℕ → List ℕ → Distribution) → (ℕ → List ℕ → Distribution) → ℕ → List ℕ → Element Distribution (List ℕ)
sizes_after base range zero later = known later
sizes_after base range (suc c) later =
    after (coeff_size_element (base c later) (range c later) (least later)) (λ a. sizes_after base range c (a ∷ later)) (λ sizes. slice_index sizes c)

-- what a size has above 15, read no further than the twentieth zero: golomb_length_bit and golomb_data_bit
abbrev pub golomb_element : Element Distribution ℕ
golomb_element = code (golomb_tree Even 20) golomb

-- a size below 2^20, of which at most 15 is read
abbrev pub whole_element : ℕ → Element Distribution ℕ
whole_element a = choose (nat_lt a 15) (known a) (renamed (tested (λ v. nat_lt (v + 15) (2 ^ 20)) golomb_element) (λ v. v + 15) (λ size. size - 15))

-- the distribution of a sign: that of the first level learns
abbrev pub sign_by : Bool → Slot → Distribution
sign_by first s = if first then Adaptive s else Even

abbrev pub is_negative : ℤ → Bool
is_negative (pos n) = false
is_negative (negsuc n) = true

-- a level by its sign and its size
abbrev pub level_of : Bool → ℕ → ℤ
level_of true size = pos 0 -ℤ pos size
level_of false size = pos size

-- a level of which at most 15 is read
abbrev pub level_element : Distribution → ℕ → Element Distribution ℤ
level_element sign a =
    choose (nat_eq a 0) (known (pos 0)) (after (flag sign) (λ negative. renamed (whole_element a) (level_of negative) unsigned_abs) is_negative)

abbrev pub level_at : List ℤ → ℕ → ℤ
level_at levels k = slice_index_or levels k (pos 0)

-- levels, of which the first ones are read, and then these sizes up to 15; `sign` has the distribution of the sign at a place
abbrev pub levels_after : (ℕ → Distribution) → List ℤ → List ℕ → Element Distribution (List ℤ)
levels_after sign done [] = known done
levels_after sign done (a ∷ sizes) =
    after (level_element (sign (length done)) a) (λ level. levels_after sign (done ++ level ∷ []) sizes) (λ levels. level_at levels (length done))

-- the size of a level up to 15
abbrev pub cut_level : ℤ → ℕ
cut_level level = min (unsigned_abs level) 15

-- so many levels
abbrev pub levels_element : (ℕ → List ℕ → Distribution) → (ℕ → List ℕ → Distribution) → (ℕ → Distribution) → ℕ → Element Distribution (List ℤ)
levels_element base range sign n = after (sizes_after base range n []) (levels_after sign []) (map cut_level)
