-- Rows that were worked out apart from these definitions, computed from the definitions alone.
use Rattle.std.proofs.Common.{◌≡◌, ℕ, ◌+◌, ◌*◌, List, [], ◌∷◌, Some, true, false, refl}
use Rattle.std.specs.Prelude.{nat_lt}
use Rattle.std.specs.Int.Count.{count_leading_zeros}
use Rattle.av1_model.specs.Interval.{Interval, whole, narrow, point, bits, final_bytes}
use Rattle.av1_model.specs.Cdf.{token_of, decoded_symbol, adapt}
use Rattle.av1_model.specs.Eighths.{eighths, log_digits}

-- two symbols of the same width
abbrev even : List ℕ
even = 16384 ∷ 0 ∷ []

-- the interval after each of the two, and after both
abbrev after_one : Interval
after_one = record { low = 32760; range = 32776; shift = 1 }

abbrev after_zero : Interval
after_zero = record { low = 0; range = 65520; shift = 2 }

abbrev after_one_zero : Interval
after_one_zero = record { low = 65520; range = 32776; shift = 2 }

narrow-one : narrow whole (token_of even 1) ≡ after_one
unfolding count_leading_zeros
narrow-one = refl

narrow-zero : narrow whole (token_of even 0) ≡ after_zero
unfolding count_leading_zeros
narrow-zero = refl

narrow-one_zero : narrow (narrow whole (token_of even 1)) (token_of even 0) ≡ after_one_zero
unfolding count_leading_zeros
narrow-one_zero = refl

-- tiles of no symbol and of these
final_bytes-whole : final_bytes whole ≡ 128 ∷ []
final_bytes-whole = refl

final_bytes-one : final_bytes after_one ≡ 192 ∷ []
final_bytes-one = refl

final_bytes-zero : final_bytes after_zero ≡ 32 ∷ []
final_bytes-zero = refl

final_bytes-one_zero : final_bytes after_one_zero ≡ 160 ∷ []
final_bytes-one_zero = refl

point-one : point 32760 * 16384 ≡ 49152
point-one = refl

point-one_zero : point 65520 * 16384 ≡ 81920
point-one_zero = refl

-- a low end just above a multiple: the next odd one, and not one more
point-above : point 16385 * 16384 ≡ 49152
point-above = refl

-- it lies in the interval, but with 14 digits of ones after it, it would not
point-above_in : nat_lt (point 16385 * 16384) (16385 + 32768) ≡ true
point-above_in = refl

point-above_filled : nat_lt (point 16385 * 16384 + 16383) (16385 + 32768) ≡ false
point-above_filled = refl

bits-whole : bits whole ≡ 1
bits-whole = refl

bits-one : bits after_one ≡ 2
bits-one = refl

bits-zero : bits after_zero ≡ 3
bits-zero = refl

eighths-whole : eighths whole ≡ 8
unfolding log_digits
eighths-whole = refl

eighths-one : eighths after_one ≡ 16
unfolding log_digits
eighths-one = refl

eighths-zero : eighths after_zero ≡ 17
unfolding log_digits
eighths-zero = refl

adapt-zero : adapt even 0 ≡ 15360 ∷ 1 ∷ []
adapt-zero = refl

adapt-one : adapt even 1 ≡ 17408 ∷ 1 ∷ []
adapt-one = refl

-- slower, and a count that stays
adapt-often : adapt (16384 ∷ 32 ∷ []) 0 ≡ 16128 ∷ 32 ∷ []
adapt-often = refl

decoded_symbol-one : decoded_symbol (192 ∷ []) whole even ≡ Some 1
decoded_symbol-one = refl

decoded_symbol-zero : decoded_symbol (32 ∷ []) whole even ≡ Some 0
decoded_symbol-zero = refl
