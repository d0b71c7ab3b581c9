-- The factors of chroma from luma.
use Rattle.std.specs.Prelude.{ℕ, ◌+◌, ◌-◌, ◌*◌, ◌<◌, ◌≤◌, List, [], ◌∷◌, if◌then◌else◌, nat_lt, Option, Some, None, codes, slice_get, ℤ, pos}
use Rattle.av1_cdf.specs.Distribution.{Distribution}
use Rattle.av1_geometry.specs.Cfl.{sign_number, sign_of, sign_at, scale_at, signed, magnitude}
use Rattle.av1_geometry.specs.declared.cfl.CFLParams.{CFLParams}
use Rattle.av1_geometry.specs.declared.cfl.CFLSign.{CFLSign}
use Rattle.av1_geometry.specs.declared.cfl.CFLSign.TheVariants.{CFL_SIGN_ZERO, CFL_SIGN_NEG, CFL_SIGN_POS}
use Rattle.av1_model.specs.Element.{Element, known, symbol, after, renamed}
use Rattle.av1_syntax.specs.Calls.{adaptive}

-- the signs of both factors, of which one is not zero: cfl_alpha_signs of the AV1 specification
abbrev pub joint_signs : List (CFLSign × CFLSign)
joint_signs =
    (CFL_SIGN_ZERO, CFL_SIGN_NEG)
    ∷ (CFL_SIGN_ZERO, CFL_SIGN_POS)
    ∷ (CFL_SIGN_NEG, CFL_SIGN_ZERO)
    ∷ (CFL_SIGN_NEG, CFL_SIGN_NEG)
    ∷ (CFL_SIGN_NEG, CFL_SIGN_POS)
    ∷ (CFL_SIGN_POS, CFL_SIGN_ZERO)
    ∷ (CFL_SIGN_POS, CFL_SIGN_NEG)
    ∷ (CFL_SIGN_POS, CFL_SIGN_POS)
    ∷ []

abbrev pub signs_of : ℕ → Option (CFLSign × CFLSign)
signs_of s = slice_get joint_signs s

abbrev pub signs_number : CFLSign × CFLSign → ℕ
signs_number signs = 3 * sign_number signs.0 + sign_number signs.1 - 1

abbrev pub signs_element : Element Distribution (CFLSign × CFLSign)
signs_element = symbol (adaptive (codes "cfl_sign_cdf") []) signs_of signs_number

-- a factor of a sign, from 1 to 16 in size
abbrev pub factor_of : CFLSign → ℕ → Option ℤ
factor_of own s = if nat_lt s 16 then Some (signed own (s + 1)) else None

abbrev pub factor_number : ℤ → ℕ
factor_number a = magnitude a - 1

-- a factor, where its sign and the other one's are known
abbrev pub factor_element : CFLSign → CFLSign → Element Distribution ℤ
factor_element CFL_SIGN_ZERO other = known (pos 0)
factor_element own other = symbol (adaptive (codes "cfl_alpha_cdf") ((3 * sign_number own + sign_number other - 3) ∷ [])) (factor_of own) factor_number

-- the first factor, and then the second
abbrev pub sizes_element : CFLSign × CFLSign → Element Distribution (ℤ × ℤ)
sizes_element signs = after (factor_element signs.0 signs.1) (λ u. renamed (factor_element signs.1 signs.0) (λ v. (u, v)) (λ f. f.1)) (λ f. f.0)

-- both factors: their signs, and then their sizes
abbrev pub factors_element : Element Distribution (ℤ × ℤ)
factors_element = after signs_element sizes_element (λ f. (sign_of f.0, sign_of f.1))

-- the factors of signs and sizes
abbrev pub factor_at : CFLParams → ℕ → ℤ
factor_at cfl uv = signed (sign_at cfl uv) (scale_at cfl uv)

abbrev pub factors_of : CFLParams → ℤ × ℤ
factors_of cfl = (factor_at cfl 0, factor_at cfl 1)

-- the factor of one plane, where both signs are known
abbrev pub factor_where : CFLParams → ℕ → Element Distribution ℤ
factor_where cfl uv = factor_element (sign_at cfl uv) (sign_at cfl (1 - uv))

-- factors from -16 to 16, of which one is not zero
pub record AreFactors (f : ℤ × ℤ) : Type 0 where
  pub first : magnitude f.0 ≤ 16
  pub second : magnitude f.1 ≤ 16
  pub some : 1 ≤ magnitude f.0 + magnitude f.1

-- one of the signs is not zero, and the sizes of those that are not are 1 to 16
pub record AreCoded (cfl : CFLParams) : Type 0 where
  pub some : 1 ≤ sign_number (sign_at cfl 0) + sign_number (sign_at cfl 1)
  pub scales : (uv : ℕ) → uv < 2 → 1 ≤ sign_number (sign_at cfl uv) → (1 ≤ scale_at cfl uv) × (scale_at cfl uv ≤ 16)
