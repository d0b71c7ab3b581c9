-- A message by ITU-T T.35 as contracts see it: its payload is a plain list.
use Rattle.std.specs.Prelude.{ℕ, List}

pub record Message : Type 0 where
  pub country_code : ℕ
  pub country_code_extension_byte : ℕ
  pub payload : List ℕ
