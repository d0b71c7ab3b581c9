use Rattle.std.proofs.Common.{ap, refl, rules}
use Rattle.av1_ec.specs.Recorder.{recorder_position, tokens_in}
use Rattle.av1_ec.specs.RecorderLaw.{recording_interval}
use Rattle.av1_ec.specs.Checkpoint.{reach}
use Rattle.av1_ec.proofs.Counting.{counted}
use Rattle.av1_ec.proofs.Growing.{longer, pushed, same_front, still_there}
use Rattle.av1_ec.proofs.Recording.{recording_of, recorded, tokens_pushed}
use Rattle.av1_ec.proofs.recorder.WriterBaseWriterRecorderStorageBackend.store.Goals as goal

pub invariant_of-self-2-clause-wide : goal.invariant_of-self-2-clause-wide
invariant_of-self-2-clause-wide c =
    (counted c.args.self.now.rng c.args.self.now.s.bits _ _ record { fl = c.args.fl; fh = c.args.fh; nms = c.args.nms } (recording_interval _ _ _ (recording_of _ _ _ c.args.self.now.window)) c.requires.token c.lr_compute-width.ensures.width refl c.requires.shift).wide

pub invariant_of-self-2-clause-window : goal.invariant_of-self-2-clause-window
invariant_of-self-2-clause-window c =
    ∣ recorded _ _ c.args.self.now.rng c.args.self.now.s.bits _ _ record { fl = c.args.fl; fh = c.args.fh; nms = c.args.nms } (recording_of _ _ _ c.args.self.now.window) c.requires.token c.lr_compute-width.ensures.width refl c.requires.shift
    (tokens_pushed _ _ _ c.in_ok-keep.ensures.ok) ∣₁

pub returns : goal.returns
returns c =
    let s = counted c.args.self.now.rng c.args.self.now.s.bits _ _ record { fl = c.args.fl; fh = c.args.fh; nms = c.args.nms } (recording_interval _ _ _ (recording_of _ _ _ c.args.self.now.window)) c.requires.token c.lr_compute-width.ensures.width refl c.requires.shift in
    let p = tokens_pushed _ _ _ c.in_ok-keep.ensures.ok in
    let recorded = c.args.self.now.s.storage.items in
    let tokens = tokens_in recorded in
    let begins = pushed tokens _ _ p in
    record {
      ok = λ k. recorder_position (p k) (s.range_is k) (s.bits_is k) c.args.self.now.fake_bits_frac;
      err = search rules;
      room = search rules;
      spare = search rules;
      kept = record {
        more = longer recorded _ (pushed recorded _ _ c.in_ok-keep.ensures.ok);
        reached = λ k h. still_there tokens _ k begins h;
        same = λ k h. ap (λ ts. recorder_position ts k.rng k.backend_var c.args.self.now.fake_bits_frac) (same_front tokens _ (reach k) begins h.there);
      };
    }
