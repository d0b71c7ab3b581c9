use Rattle.std.proofs.Common.{arith, rules}
use Rattle.av1_model.proofs.BitsNumbers.{length-bits_of}
use Rattle.av1_ec.proofs.FlatBits.{keeps_both, next_within, next_stored, none_left}
use Rattle.av1_ec.proofs.flat.store_word.Goals as goal

pub store_bit-requires : goal.store_bit-requires
store_bit-requires g c =
    next_within (g.B.Known.position c.loop-left.w) _ c.loop-left.left c.args.word.number _ (omega (arith, c.loop-left-test.true)) c.loop-left.invariant.rest c.requires

pub loop-left-preserved : goal.loop-left-preserved
loop-left-preserved g c =
    record {
      most = omega (arith, c.loop-left.invariant.most);
      room = omega (arith, c.loop-left.invariant.room, c.in_ok-store_bit.ensures.spare);
      spare = omega (arith, c.loop-left-test.true, c.loop-left.invariant.spare, c.in_ok-store_bit.ensures.spare);
      rest = next_stored (g.B.Known.position c.loop-left.w) _ _ c.loop-left.left c.args.word.number (omega (arith, c.loop-left-test.true)) c.loop-left.invariant.rest c.in_ok-store_bit.ensures.ok;
      kept = keeps_both _ _ _ _ _ _ c.loop-left.invariant.kept c.in_ok-store_bit.ensures.kept;
    }

pub returns : goal.returns
returns g c = record {
  ok = none_left _ _ c.loop-left.left c.args.word.number (omega (arith, c.loop-left-test.false)) c.loop-left.invariant.rest;
  err = search rules;
  room = search rules;
  spare = omega (arith, length-bits_of c.args.word.len c.args.word.number, c.loop-left.invariant.spare, c.loop-left-test.false);
  kept = c.loop-left.invariant.kept;
}

pub returns-in_err-ready : goal.returns-in_err-ready
returns-in_err-ready g c = record {
  ok = search rules;
  err = search rules;
  room = λ h. absurd (let is = c.in_err-ready.ensures.room (omega (arith, length-bits_of c.args.word.len c.args.word.number, h)) in cc);
  spare = search rules;
  kept = search rules;
}
