-- The rules of the tables that a tile's context is made of.
use Rattle.std.specs.Prelude.{ℕ, ◌+◌, ◌-◌, ◌*◌, List, [], ◌∷◌, length, slice_index, slice_index_or}
use Rattle.std.specs.Prelude.{Bool, ◌&&◌, ◌||◌, nat_eq, nat_lt, nat_le, if◌then◌else◌, codes}
use Rattle.std.specs.List.{list_all, list_any, range_with_len}
use Rattle.av1_cdf.specs.Layout.{Field, layout, named, cell, count_in, length_in, size_of_context}
use Rattle.av1_cdf.specs.Context.{is_count, uniform_numbers}
use Rattle.av1_geometry.specs.Rules.{Check, rule}

-- the fields that differ by quantizer
unfoldable pub coefficient_fields : List (List ℕ)
coefficient_fields =
    codes "txb_skip_cdf"
    ∷ codes "dc_sign_cdf"
    ∷ codes "eob_extra_cdf"
    ∷ codes "eob_flag_cdf16"
    ∷ codes "eob_flag_cdf32"
    ∷ codes "eob_flag_cdf64"
    ∷ codes "eob_flag_cdf128"
    ∷ codes "eob_flag_cdf256"
    ∷ codes "eob_flag_cdf512"
    ∷ codes "eob_flag_cdf1024"
    ∷ codes "coeff_base_eob_cdf"
    ∷ codes "coeff_base_cdf"
    ∷ codes "coeff_br_cdf"
    ∷ []

abbrev pub has_place : Field → ℕ → Bool
has_place f k = nat_le f.place k && nat_lt k (f.place + count_in f.dimensions * length_in f.dimensions)

-- whether a place lies in a field that differs by quantizer
unfoldable pub is_coefficient : ℕ → Bool
unfolding coefficient_fields
is_coefficient k = list_any (λ name. has_place (named name layout) k) coefficient_fields

abbrev pub of_size : List ℕ → Bool
of_size set = nat_eq (length set) size_of_context

-- four sets, each of the size of a context
abbrev pub four_sets : List (List ℕ) → Bool
four_sets sets = nat_eq (length sets) 4 && list_all of_size sets

-- whether the number at a place may stand there: padding is 0, a count at most 32, each other number is below 32768
-- and not above the one before it in its CDF
abbrev pub number_fits : List ℕ → ℕ → Bool
number_fits set k =
    let v = slice_index set k in
    if nat_lt (cell k).len 2 then nat_eq v 0
    else if is_count k then nat_le v 32
    else nat_lt v 32768 && (nat_eq k (cell k).place || nat_le v (slice_index set (k - 1)))

-- every CDF falls, and padding is 0
unfoldable pub valid_set : List ℕ → Bool
valid_set set = list_all (number_fits set) (range_with_len 0 size_of_context)

abbrev pub set_at : List (List ℕ) → ℕ → List ℕ
set_at sets i = slice_index_or sets i []

-- whether all sets have the same number at a place
abbrev pub same_at : List (List ℕ) → ℕ → Bool
same_at sets k = list_all (λ set. nat_eq (slice_index set k) (slice_index (set_at sets 0) k)) sets

-- sets agree outside the fields that differ by quantizer
unfoldable pub sets_agree : List (List ℕ) → Bool
sets_agree sets = list_all (λ k. is_coefficient k || same_at sets k) (range_with_len 0 size_of_context)

-- the rules of tables, by rising numbers
abbrev pub table_rules : List (List ℕ) → List Check
table_rules sets = rule 1 (four_sets sets) ∷ rule 2 (list_all valid_set sets) ∷ rule 3 (sets_agree sets) ∷ []

-- the set for a quantizer
abbrev pub set_number : ℕ → ℕ
set_number quantizer = if nat_le quantizer 20 then 0 else if nat_le quantizer 60 then 1 else if nat_le quantizer 120 then 2 else 3

-- four sets in which all symbols are equally likely
abbrev pub uniform_sets : List (List ℕ)
uniform_sets = uniform_numbers ∷ uniform_numbers ∷ uniform_numbers ∷ uniform_numbers ∷ []
