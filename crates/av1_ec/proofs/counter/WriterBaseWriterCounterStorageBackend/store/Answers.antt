use Rattle.std.proofs.Common.{refl, rules}
use Rattle.av1_ec.specs.Counter.{counter_position}
use Rattle.av1_ec.proofs.Counting.{count_of, counted}
use Rattle.av1_ec.proofs.counter.WriterBaseWriterCounterStorageBackend.store.Goals as goal

pub invariant_of-self-clause-wide : goal.invariant_of-self-clause-wide
invariant_of-self-clause-wide c =
    (counted c.args.self.now.rng c.args.self.now.s.bits _ _ record { fl = c.args.fl; fh = c.args.fh; nms = c.args.nms } (count_of _ _ c.args.self.now.window).interval c.requires.token c.lr_compute-width.ensures.width refl c.requires.shift).wide

pub invariant_of-self-clause-window : goal.invariant_of-self-clause-window
invariant_of-self-clause-window c =
    ∣ (counted c.args.self.now.rng c.args.self.now.s.bits _ _ record { fl = c.args.fl; fh = c.args.fh; nms = c.args.nms } (count_of _ _ c.args.self.now.window).interval c.requires.token c.lr_compute-width.ensures.width refl c.requires.shift).count ∣₁

pub returns : goal.returns
returns c =
    let s = counted c.args.self.now.rng c.args.self.now.s.bits _ _ record { fl = c.args.fl; fh = c.args.fh; nms = c.args.nms } (count_of _ _ c.args.self.now.window).interval c.requires.token c.lr_compute-width.ensures.width refl c.requires.shift in
    record {
      ok = λ k. counter_position (s.range_is k) (s.bits_is k) c.args.self.now.fake_bits_frac;
      err = search rules;
      room = search rules;
      spare = search rules;
      kept = search rules;
    }
