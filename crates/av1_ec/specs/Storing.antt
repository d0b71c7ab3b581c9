-- What every storing call asks and promises, in words of what is known of a writer.
use Rattle.std.specs.Prelude.{◌≡◌, ℕ, ◌+◌, ◌<◌, ◌≤◌, List, [], Result, IsOk, OnOk, OnErr, length, take}
use Rattle.av1_cdf.specs.Context.{contents, with_contents}
use Rattle.av1_cdf.specs.Log.{KeepsUndone, saves_of, spare as log_spare}
use Rattle.av1_cdf.specs.Layout.{Slot}
use Rattle.av1_cdf.specs.declared.log.CDFContextLog.{CDFContextLog}
use Rattle.av1_ec.specs.Checkpoint.{KeepsCheckpoints, reach}
use Rattle.av1_ec.specs.Recorder.{recorder_position, tokens_at}
use Rattle.av1_ec.specs.Writing.{HasFewBits}
use Rattle.av1_ec.specs.declared.known.Known.{Ghosts}
use Rattle.av1_ec.specs.declared.storage.WriterCheckpoint.{WriterCheckpoint}
use Rattle.av1_model.specs.Cdf.{adapt, token_of}
use Rattle.av1_model.specs.Interval.{Token}
use Rattle.av1_model.specs.Position.{Position, advance, advance_all}

module _ {W : Type 0} (known : Ghosts W) where
  -- no less is stored, and each checkpoint that is reached is still reached and stands for the same position
  abbrev pub Keeps : W → W → Type 0
  Keeps old new = KeepsCheckpoints known.stored known.IsReached known.position_at old new

  -- each checkpoint that is reached is still reached
  abbrev pub KeepsReached : W → W → Type 0
  KeepsReached old new = (c : WriterCheckpoint) → known.IsReached old c → known.IsReached new c

  -- so is each that reaches no further than this
  abbrev pub KeepsReachedUpTo : ℕ → W → W → Type 0
  KeepsReachedUpTo most old new = (c : WriterCheckpoint) → reach c ≤ most → known.IsReached old c → known.IsReached new c

  -- and it stands for the same position
  abbrev pub KeepsPositionsUpTo : ℕ → W → W → Type 0
  KeepsPositionsUpTo most old new =
      (c : WriterCheckpoint) → reach c ≤ most → known.IsReached old c → known.position_at new c ≡ known.position_at old c

  -- the tokens of a recorder
  abbrev pub tokens_of : W → List Token
  tokens_of w = tokens_at (known.position w)

  -- after a replay that comes to its end a recorder stands as a new one, with the fake bits that it had
  abbrev pub IsClearedIf : {U E : Type 0} → Result U E → W → W → Type 0
  IsClearedIf result old new = OnOk result (known.position new ≡ recorder_position [] 32768 0 (known.position old).fake)

  -- with these tokens a writer has no more bits than it may have
  abbrev pub HasBits : W → List Token → Type 0
  HasBits w tokens = HasFewBits (advance_all (known.position w) tokens)

  -- Stores so many tokens, all or none. It does where the spare is enough, which falls by no more. Every checkpoint stays.
  pub record StoresAll {U E : Type 0} (n : ℕ) (tokens : List Token) (result : Result U E) (old new : W) : Type 0 where
    pub ok : OnOk result (known.position new ≡ advance_all (known.position old) tokens)
    pub err : OnErr result (known.position new ≡ known.position old)
    pub room : n ≤ known.spare old → IsOk result
    pub spare : known.spare old ≤ known.spare new + n
    pub kept : Keeps old new

  -- Stores a symbol by a CDF of a context, which learns from it, and saves in the log what the CDF was, or does nothing.
  pub record Learns {U E : Type 0} (slot : Slot) (s : ℕ) (result : Result U E) (old new : W)
      (old_log new_log : CDFContextLog) (before after : List ℕ) : Type 0 where
    pub ok : OnOk result (known.position new ≡ advance (known.position old) (token_of (contents before slot) s))
    pub err : OnErr result (known.position new ≡ known.position old)
    pub adapted : OnOk result (after ≡ with_contents before slot (adapt (contents before slot) s))
    pub same : OnErr result (after ≡ before)
    pub undone : OnOk result (KeepsUndone old_log new_log before after)
    pub unsaved : OnErr result (saves_of new_log ≡ saves_of old_log)
    pub room : 0 < known.spare old → 0 < log_spare old_log → IsOk result
    pub spare : known.spare old ≤ known.spare new + 1
    pub log_spare : log_spare old_log ≤ log_spare new_log + 1
    pub kept : Keeps old new

-- Stores tokens in order, all where the spare is enough, or a beginning of them.
pub record StoresInTurn {W U E : Type 0} (position : W → Position) (spare : W → ℕ) (tokens : List Token)
    (result : Result U E) (old new : W) : Type 0 where
  pub ok : OnOk result (position new ≡ advance_all (position old) tokens)
  pub err : OnErr result ((n : ℕ) × (n < length tokens) × (position new ≡ advance_all (position old) (take n tokens)))
  pub room : length tokens ≤ spare old → IsOk result
  pub lowered : spare old ≤ spare new + length tokens
