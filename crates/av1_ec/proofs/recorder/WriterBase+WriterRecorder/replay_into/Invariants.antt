use Rattle.std.proofs.Common.{◌≡◌, ◌+◌, ◌≤◌, take}
use Rattle.av1_model.specs.Position.{advance_all}
use Rattle.av1_ec.specs.Storing.{Keeps}
use Rattle.av1_ec.specs.Recorder.{tokens_in}
use Rattle.av1_ec.proofs.recorder.WriterBase+WriterRecorder.replay_into.Given as goal

abbrev pub invariant-loop-recorded : goal.invariant-loop-recorded
invariant-loop-recorded g l =
    let d = g.D.Known in
    record {
      stored : d.position l.dest ≡ advance_all (d.position l.fn.dest) (take l.recorded-index (tokens_in l.fn.self.s.storage.items));
      room : d.spare l.fn.dest ≤ d.spare l.dest + l.recorded-index;
      kept : Keeps d l.fn.dest l.dest;
    }
