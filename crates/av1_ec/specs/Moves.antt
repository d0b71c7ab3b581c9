-- What every move of a writer and a context keeps.
use Rattle.std.specs.Prelude.{ℕ, ◌+◌, ◌≤◌, List}
use Rattle.av1_cdf.specs.Context.{AreCdfs}
use Rattle.av1_cdf.specs.Log.{KeepsUndone}
use Rattle.av1_cdf.specs.declared.log.CDFContextLog.{CDFContextLog}
use Rattle.av1_ec.specs.Storing.{Keeps}
use Rattle.av1_ec.specs.declared.known.Known.{Ghosts}

-- valid distributions, at most so many bits more, and all that was kept to go back to
pub record Moves {W : Type 0} (known : Ghosts W) (most : ℕ) (old new : W) (old_log new_log : CDFContextLog) (before after : List ℕ) : Type 0 where
  pub cdfs : AreCdfs after
  pub near : (known.position new).shift ≤ (known.position old).shift + most
  pub kept : Keeps known old new
  pub undone : KeepsUndone old_log new_log before after
