-- Codes in a tile: each bit is a symbol of two.
use Rattle.std.specs.Prelude.{ℕ, List, [], ◌∷◌, Bool, if◌then◌else◌, map}
use Rattle.av1_model.specs.Cdf.{token_of}
use Rattle.av1_model.specs.Interval.{Token}

-- the token of a bool that is true f times in 32768
abbrev pub bool_token : ℕ → Bool → Token
bool_token f val = token_of (f ∷ 0 ∷ []) (if val then 1 else 0)

-- the tokens of bits, each of which is as likely as not
abbrev pub flat_tokens : List Bool → List Token
flat_tokens bits = map (bool_token 16384) bits
