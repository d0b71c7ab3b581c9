use Rattle.std.proofs.Common.{◌≡◌, ◌+◌, ◌≤◌, take}
use Rattle.av1_model.specs.Position.{advance_all}
use Rattle.av1_ec.specs.Checkpoint.{KeepsCheckpoints}
use Rattle.av1_ec.specs.Recorder.{tokens_in}
use Rattle.av1_ec.proofs.recorder.WriterBase+WriterRecorder.replay.Given as goal

abbrev pub invariant-loop-token : goal.invariant-loop-token
invariant-loop-token g l =
    record {
      stored : (goal.StorageBackend-dyn g l.dest.now).Known.position l.dest.now.1 ≡ advance_all ((goal.StorageBackend-dyn g l.fn.dest.now).Known.position l.fn.dest.now.1) (take l.token-index (tokens_in l.fn.self.s.storage.items));
      room : (goal.StorageBackend-dyn g l.fn.dest.now).Known.spare l.fn.dest.now.1 ≤ (goal.StorageBackend-dyn g l.dest.now).Known.spare l.dest.now.1 + l.token-index;
      kept : KeepsCheckpoints (λ z. (goal.StorageBackend-dyn g z).Known.stored z.1) (λ z. (goal.StorageBackend-dyn g z).Known.IsReached z.1) (λ z. (goal.StorageBackend-dyn g z).Known.position_at z.1) l.fn.dest.now l.dest.now;
    }
