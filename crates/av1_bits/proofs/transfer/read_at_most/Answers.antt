use Rattle.std.proofs.Common.{◌≡◌, ◌∙◌, ◌+◌, length, arith}
use Rattle.av1_bits.proofs.Moving.{takes_more, grown_size, front_more, all_read}
use Rattle.av1_bits.proofs.transfer.read_at_most.Goals as goal

pub returns-then-n-eq0-clause-all : goal.returns-then-n-eq0-clause-all
returns-then-n-eq0-clause-all g c bytes is =
    let so_far = c.loop-bytes.invariant in
    let h = c.in_ok-n.ensures in
    let left = (so_far.taken.told bytes is).1 in
    all_read _ _ _ _ _ h.moved _ so_far.taken bytes is (so_far.front bytes is) ((h.end _ left (omega arith)).0 c.if-n-eq0.true) c.if-n-eq0.true

pub returns-then-n-most-clause-too_large : goal.returns-then-n-most-clause-too_large
returns-then-n-most-clause-too_large g c _ =
    let h = c.in_ok-n.ensures in
    (length c.loop-bytes.bytes.items + c.in_ok-n.n, omega arith, omega (arith, h.fits, c.loop-bytes.invariant.few), takes_more _ _ _ _ _ h.moved _ c.loop-bytes.invariant.taken h.untold)

pub loop-bytes-preserved : goal.loop-bytes-preserved
loop-bytes-preserved g c =
    let so_far = c.loop-bytes.invariant in
    let h = c.in_ok-n.ensures in
    let grown = c.in_ok-extend_from_slice.ensures in
    let size : length c.extend_from_slice.new.self.items ≡ length c.loop-bytes.bytes.items + c.in_ok-n.n =
    grown_size c.loop-bytes.bytes.items c.extend_from_slice.new.self.items c.read.new.buf c.in_ok-n.n grown.items (omega (arith, h.fits, c.read.auto.buf)) in
    record {
      few = omega (arith, size);
      taken = rw size (takes_more _ _ _ _ _ h.moved _ so_far.taken h.untold);
      front = λ all is. front_more _ _ _ _ _ h.moved _ _ grown.items size so_far.taken all is (so_far.front all is);
      count = h.count ∙ so_far.count;
    }

pub returns-in_err-extend_from_slice-clause-no_larger : goal.returns-in_err-extend_from_slice-clause-no_larger
returns-in_err-extend_from_slice-clause-no_larger g c _ =
    let h = c.in_ok-n.ensures in
    (length c.loop-bytes.bytes.items + c.in_ok-n.n, omega arith, takes_more _ _ _ _ _ h.moved _ c.loop-bytes.invariant.taken h.untold)
