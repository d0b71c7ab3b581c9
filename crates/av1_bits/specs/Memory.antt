-- The sink and the source in memory, as contracts see them.
use Rattle.std.specs.Prelude.{ℕ, min, List, Bool, if◌then◌else◌}

-- what a sink in memory holds, how much it may hold, how it goes, and what has been called
pub record MemSinkState : Type 0 where
  pub held : List ℕ
  pub room : ℕ
  pub one_byte : Bool
  pub fails : List ℕ
  pub calls : ℕ
  pub faults : ℕ

-- what a source in memory has left, how it goes, and what has been called
pub record MemSourceState : Type 0 where
  pub left : List ℕ
  pub one_byte : Bool
  pub fails : List ℕ
  pub calls : ℕ
  pub faults : ℕ

-- how many of n bytes a call moves, where there is room for so many
abbrev pub moved : Bool → ℕ → ℕ → ℕ
moved one_byte n room = min n (if one_byte then min 1 room else room)
