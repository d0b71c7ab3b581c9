use Rattle.std.proofs.Common.{◌≡◌, ◌∙◌, ap, refl, arith, rules, length, take, vec_len, to_z, of_z, w16}
use Rattle.av1_ec.specs.Checkpoint.{reach}
use Rattle.av1_ec.specs.Encoder.{encoder_position}
use Rattle.av1_ec.proofs.Growing.{longer, same_front, still_begun}
use Rattle.av1_ec.proofs.Encoding.{encoding_of, part_below, part_fits, doublings_fit, stored, count_kept}
use Rattle.av1_ec.proofs.encoder.WriterBaseWriterEncoderStorageBackend.store.Goals as goal

pub make_room-requires-clause-low : goal.make_room-requires-clause-low
make_room-requires-clause-low c =
    part_below _ _ _ _ _ _ record { fl = c.args.fl; fh = c.args.fh; nms = c.args.nms } (encoding_of _ _ _ _ c.args.self.now.window) c.weight-weight.ensures.is c.requires.token c.lr_compute-above.ensures.above

pub overflow_add-low : goal.overflow_add-low
overflow_add-low c =
    record {
      fits = part_fits c.args.self.now.s.low c.lr_compute-above.result.0 c.weight-weight.result c.weight-weight.ensures.most
          (part_below _ _ _ _ _ _ record { fl = c.args.fl; fh = c.args.fh; nms = c.args.nms } (encoding_of _ _ _ _ c.args.self.now.window) c.weight-weight.ensures.is c.requires.token c.lr_compute-above.ensures.above);
    }

pub make_room-requires-clause-bits : goal.make_room-requires-clause-bits
make_room-requires-clause-bits c =
    doublings_fit c.args.self.now.rng _ record { fl = c.args.fl; fh = c.args.fh; nms = c.args.nms } c.args.self.now.wide (omega arith) c.requires.token c.lr_compute-above.ensures.width

pub make_room-requires-clause-carries : goal.make_room-requires-clause-carries
make_room-requires-clause-carries c = (encoding_of _ _ _ _ c.args.self.now.window).carries

pub overflow_shl-self-2 : goal.overflow_shl-self-2
overflow_shl-self-2 c =
    let h = doublings_fit c.args.self.now.rng _ record { fl = c.args.fl; fh = c.args.fh; nms = c.args.nms } c.args.self.now.wide (omega arith) c.requires.token c.lr_compute-above.ensures.width in
    omega (arith, h)

pub invariant_of-self-2-clause-wide : goal.invariant_of-self-2-clause-wide
invariant_of-self-2-clause-wide c =
    let s = stored _ _ _ _ _ _ _ _ _ _ c.args.self.now.fake_bits_frac _ (to_z w16 (of_z w16 c.count_of-self.result)) record { fl = c.args.fl; fh = c.args.fh; nms = c.args.nms }
    (encoding_of _ _ _ _ c.args.self.now.window) c.requires.token c.lr_compute-above.ensures.above c.lr_compute-above.ensures.width refl c.weight-weight.ensures.is
    (count_kept _ _ c.count_of-self.type_inv c.count_of-self.ensures.is) c.in_ok-make_room.ensures.ok c.requires.shift in
    s.wide

pub invariant_of-self-2-clause-window : goal.invariant_of-self-2-clause-window
invariant_of-self-2-clause-window c =
    let s = stored _ _ _ _ _ _ _ _ _ _ c.args.self.now.fake_bits_frac _ (to_z w16 (of_z w16 c.count_of-self.result)) record { fl = c.args.fl; fh = c.args.fh; nms = c.args.nms }
    (encoding_of _ _ _ _ c.args.self.now.window) c.requires.token c.lr_compute-above.ensures.above c.lr_compute-above.ensures.width refl c.weight-weight.ensures.is
    (count_kept _ _ c.count_of-self.type_inv c.count_of-self.ensures.is) c.in_ok-make_room.ensures.ok c.requires.shift in
    ∣ s.encoding ∣₁

pub returns : goal.returns
returns c =
    let s = stored _ _ _ _ _ _ _ _ _ _ c.args.self.now.fake_bits_frac _ (to_z w16 (of_z w16 c.count_of-self.result)) record { fl = c.args.fl; fh = c.args.fh; nms = c.args.nms }
    (encoding_of _ _ _ _ c.args.self.now.window) c.requires.token c.lr_compute-above.ensures.above c.lr_compute-above.ensures.width refl c.weight-weight.ensures.is
    (count_kept _ _ c.count_of-self.type_inv c.count_of-self.ensures.is) c.in_ok-make_room.ensures.ok c.requires.shift in
    let entries = c.args.self.now.s.precarry.items in
    let all : length entries ≡ vec_len c.args.self.now.s.precarry = search rules in
    let begins : take (length entries) c.make_room.new.precarry.items ≡ entries = ap (λ n. take n c.make_room.new.precarry.items) all ∙ c.in_ok-make_room.ensures.begins in
    record {
      ok = s.position;
      err = search rules;
      room = search rules;
      spare = search rules;
      kept = record {
        more = longer entries c.make_room.new.precarry.items begins;
        reached = λ k h. still_begun entries c.make_room.new.precarry.items k begins h;
        same = λ k h. ap (λ es. encoder_position es k.backend_var k.rng k.cnt c.args.self.now.fake_bits_frac) (same_front entries c.make_room.new.precarry.items (reach k) begins h.there);
      };
    }
