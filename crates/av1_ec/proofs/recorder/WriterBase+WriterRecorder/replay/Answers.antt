use Rattle.std.proofs.Common.{◌∙◌, arith}
use Rattle.av1_ec.proofs.Recording.{recording_of}
use Rattle.av1_ec.proofs.Replaying.{token_valid, token_stored, token_within}
use Rattle.av1_ec.proofs.recorder.WriterBase+WriterRecorder.replay.Goals as goal

pub store_into-requires : goal.store_into-requires
store_into-requires g c =
    let i = c.loop-token.invariant in
    record {
      token = token_valid _ _ _ _ (recording_of _ _ _ c.args.self.now.window).valid c.deref-token-items.ensures.value c.loop-token-test.true;
      shift = token_within _ _ _ _ _ _ _ c.deref-token-items.ensures.value c.loop-token-test.true i.stored c.requires;
    }

pub loop-token-preserved : goal.loop-token-preserved
loop-token-preserved g c =
    let i = c.loop-token.invariant in
    let s = c.in_ok-store_into.ensures in
    record {
      stored = token_stored _ _ _ _ _ _ _ c.deref-token-items.ensures.value c.loop-token-test.true i.stored s.ok;
      room = omega (arith, i.room, s.lowered);
      kept = record {
        more = omega (arith, i.kept.more, s.kept.more);
        reached = λ k h. s.kept.reached k (i.kept.reached k h);
        same = λ k h. s.kept.same k (i.kept.reached k h) ∙ i.kept.same k h;
      };
    }
