-- Checkpoints of a writer, and what they stand for.
use Rattle.std.specs.Prelude.{◌≡◌, ℕ, ◌≤◌, List, length, take}
use Rattle.av1_ec.specs.declared.storage.WriterCheckpoint.{WriterCheckpoint}
use Rattle.av1_ec.specs.Encoder.{weight_of, IsEncoding, encoder_position}
use Rattle.av1_model.specs.Position.{Position}

-- how much was stored at a checkpoint
abbrev pub reach : WriterCheckpoint → ℕ
reach c = c.stream_size

-- no less is stored, and each checkpoint that is reached is still reached and stands for the same position
pub record KeepsCheckpoints {W : Type 0} (stored : W → ℕ) (IsReached : W → WriterCheckpoint → Type 0)
    (position_at : W → WriterCheckpoint → Position) (old new : W) : Type 0 where
  pub more : stored old ≤ stored new
  pub reached : (c : WriterCheckpoint) → IsReached old c → IsReached new c
  pub same : (c : WriterCheckpoint) → IsReached old c → position_at new c ≡ position_at old c

-- an encoder has the entries of a checkpoint, and they and the checkpoint's window are an encoding
pub record IsBeginning (entries : List ℕ) (c : WriterCheckpoint) : Type 0 where
  pub there : reach c ≤ length entries
  pub encoding : IsEncoding (take (reach c) entries) c.backend_var c.rng (weight_of c.cnt)

-- what these entries and the window stand for
abbrev pub beginning_position : List ℕ → ℕ → WriterCheckpoint → Position
beginning_position entries fake c = encoder_position (take (reach c) entries) c.backend_var c.rng c.cnt fake
