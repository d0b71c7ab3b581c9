use Rattle.std.proofs.Common.{subst, sym}
use Rattle.av1_ec.specs.Recorder.{IsRecording, recorder_position}
use Rattle.av1_ec.specs.RecorderLaw.{recording_interval}
use Rattle.av1_ec.proofs.Recording.{tokens_cut, still_recorded, same_beginning}
use Rattle.av1_ec.proofs.recorder.WriterBaseWriterRecorderStorageBackend.rollback.Goals as goal

pub invariant_of-self-clause-wide : goal.invariant_of-self-clause-wide
invariant_of-self-clause-wide c = (recording_interval _ _ _ c.requires.recording).wide

pub invariant_of-self-clause-window : goal.invariant_of-self-clause-window
invariant_of-self-clause-window c =
    ∣ subst (λ ts. IsRecording ts c.args.checkpoint.now.rng c.args.checkpoint.now.backend_var) (sym (tokens_cut _ _ _ c.truncate.ensures.items)) c.requires.recording ∣₁

pub returns-clause-position : goal.returns-clause-position
returns-clause-position c =
    let e = tokens_cut _ _ _ c.truncate.ensures.items in
    λ k. recorder_position (e k) c.args.checkpoint.now.rng c.args.checkpoint.now.backend_var c.args.self.now.fake_bits_frac

pub returns-clause-reached : goal.returns-clause-reached
returns-clause-reached c = λ b m h. still_recorded _ _ _ b (tokens_cut _ _ _ c.truncate.ensures.items) c.requires.there m h

pub returns-clause-kept : goal.returns-clause-kept
returns-clause-kept c = λ b m h.
    let e = same_beginning _ _ _ _ (tokens_cut _ _ _ c.truncate.ensures.items) m in
    λ k. recorder_position (e k) b.rng b.backend_var c.args.self.now.fake_bits_frac
