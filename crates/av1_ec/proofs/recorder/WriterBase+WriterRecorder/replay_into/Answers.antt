use Rattle.std.proofs.Common.{arith}
use Rattle.av1_ec.proofs.FlatBits.{keeps_both}
use Rattle.av1_ec.proofs.Recording.{recording_of}
use Rattle.av1_ec.proofs.Replaying.{token_valid, token_stored, token_within}
use Rattle.av1_ec.proofs.recorder.WriterBase+WriterRecorder.replay_into.Goals as goal

pub store-requires : goal.store-requires
store-requires g c =
    let i = c.loop-recorded.invariant in
    record {
      token = token_valid _ _ _ _ (recording_of _ _ _ c.args.self.now.window).valid c.deref-recorded-items.ensures.value c.loop-recorded-test.true;
      shift = token_within _ _ _ _ _ _ _ c.deref-recorded-items.ensures.value c.loop-recorded-test.true i.stored c.requires;
    }

pub loop-recorded-preserved : goal.loop-recorded-preserved
loop-recorded-preserved g c =
    let i = c.loop-recorded.invariant in
    let s = c.in_ok-store.ensures in
    record {
      stored = token_stored _ _ _ _ _ _ _ c.deref-recorded-items.ensures.value c.loop-recorded-test.true i.stored s.ok;
      room = omega (arith, i.room, s.spare);
      kept = keeps_both _ _ _ _ _ _ i.kept s.kept;
    }
