-- Chroma from luma: the signs and sizes of the two factors.
use Rattle.std.specs.Prelude.{ℕ, zero, suc, ℤ, pos, negsuc, slice_index, slice_get, unwrap_or, ◌-ℤ◌, [], ◌∷◌}
use Rattle.av1_geometry.specs.declared.cfl.CFLSign.{CFLSign}
use Rattle.av1_geometry.specs.declared.cfl.CFLSign.TheVariants.{CFL_SIGN_ZERO, CFL_SIGN_NEG, CFL_SIGN_POS}
use Rattle.av1_geometry.specs.declared.cfl.CFLParams.{CFLParams}

-- the place of a sign in the order of the enum
abbrev pub sign_number : CFLSign → ℕ
sign_number CFL_SIGN_ZERO = 0
sign_number CFL_SIGN_NEG = 1
sign_number CFL_SIGN_POS = 2

-- the sign of a number
abbrev pub sign_of : ℤ → CFLSign
sign_of (pos zero) = CFL_SIGN_ZERO
sign_of (pos (suc n)) = CFL_SIGN_POS
sign_of (negsuc n) = CFL_SIGN_NEG

-- the size of a number
abbrev pub magnitude : ℤ → ℕ
magnitude (pos n) = n
magnitude (negsuc n) = suc n

-- the number of this sign and size
abbrev pub signed : CFLSign → ℕ → ℤ
signed CFL_SIGN_ZERO n = pos 0
signed CFL_SIGN_NEG n = pos 0 -ℤ pos n
signed CFL_SIGN_POS n = pos n

-- the sign and the size of the factor of a chroma plane
abbrev pub sign_at : CFLParams → ℕ → CFLSign
sign_at p uv = unwrap_or (slice_get p.sign uv) CFL_SIGN_ZERO

abbrev pub scale_at : CFLParams → ℕ → ℕ
scale_at p uv = slice_index p.scale uv

-- the least negative factor for the first plane, none for the second
abbrev pub default_params : CFLParams
default_params = record { sign = CFL_SIGN_NEG ∷ CFL_SIGN_ZERO ∷ []; scale = 1 ∷ 0 ∷ [] }
