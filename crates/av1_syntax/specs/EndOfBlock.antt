-- The end of a transform block, which is the number of its coefficients up to the last one that is not zero: eob_pt, eob_extra and
-- eob_extra_bit of the AV1 specification.
use Rattle.std.specs.Prelude.{ℕ, zero, suc, ◌+◌, ◌-◌, ◌*◌, ◌/◌, ◌%◌, ◌^◌, [], ◌∷◌, nat_lt, nat_le}
use Rattle.std.specs.Prelude.{if◌then◌else◌, Some, None, codes, List, Bool, min, slice_index_or, Option}
use Rattle.av1_cdf.specs.Distribution.{Distribution}
use Rattle.av1_geometry.specs.CoefficientTables.{eob_class, group_start, offset_bits}
use Rattle.av1_geometry.specs.TxSize.{tx_width_log2, tx_height_log2}
use Rattle.av1_geometry.specs.TxTables.{coded_size}
use Rattle.av1_geometry.specs.declared.tx_size.TxSize.{TxSize}
use Rattle.av1_coef.specs.Contexts.{coded_area, size_context}
use Rattle.av1_model.specs.Element.{Element, known, symbol, after, renamed, tested}
use Rattle.av1_syntax.specs.Calls.{adaptive}
use Rattle.av1_syntax.specs.Literals.{literal}

-- one of the numbers below n
abbrev pub below : ℕ → ℕ → Option ℕ
below n s = if nat_lt s n then Some s else None

-- a number of so many bits, of which the highest has a distribution of its own
abbrev pub extra_element : Distribution → ℕ → Element Distribution ℕ
extra_element highest zero = known 0
extra_element highest (suc low) =
    after (symbol highest (below 2) (λ b. b)) (λ b. renamed (literal low) (λ v. b * 2 ^ low + v) (λ e. e % 2 ^ low)) (λ e. e / 2 ^ low)

-- an end of a class, by its number in the class
abbrev pub end_in : (ℕ → Distribution) → ℕ → Element Distribution ℕ
end_in highest class = renamed (extra_element (highest class) (offset_bits class)) (λ e. group_start class + e) (λ n. n - group_start class)

-- one of the classes from 1 to n
abbrev pub class_element : Distribution → ℕ → Element Distribution ℕ
class_element q n = symbol q (λ s. if nat_lt s n then Some (s + 1) else None) (λ class. class - 1)

-- an end of at most so much
abbrev pub end_among : Distribution → ℕ → (ℕ → Distribution) → ℕ → Element Distribution ℕ
end_among q n highest most = tested (λ end. nat_le end most) (after (class_element q n) (end_in highest) eob_class)

-- the fields of the classes, by how often the area of a transform doubles that of 4x4, up to 6 times
abbrev pub class_fields : List (List ℕ)
class_fields =
    codes "eob_flag_cdf16"
    ∷ codes "eob_flag_cdf32"
    ∷ codes "eob_flag_cdf64"
    ∷ codes "eob_flag_cdf128"
    ∷ codes "eob_flag_cdf256"
    ∷ codes "eob_flag_cdf512"
    ∷ codes "eob_flag_cdf1024"
    ∷ []

-- the number of the field of a transform, by the area that is coded or by the whole
abbrev pub area_number : Bool → TxSize → ℕ
area_number by_coded size = let of = if by_coded then coded_size size else size in min (tx_width_log2 of + tx_height_log2 of - 4) 6

-- the end of a block of a transform of this size, in luma (0) or chroma (1), where the type is two-dimensional (0) or not (1)
abbrev pub end_element : Bool → TxSize → ℕ → ℕ → Element Distribution ℕ
end_element by_coded size p one_dimensional =
    let k = area_number by_coded size in
    end_among (adaptive (slice_index_or class_fields k []) (p ∷ one_dimensional ∷ [])) (5 + k)
    (λ class. adaptive (codes "eob_extra_cdf") (size_context size ∷ p ∷ (class - 3) ∷ []))
    (coded_area size)
