use Rattle.std.proofs.Common.{◌+◌, ◌*◌, ◌∙◌, min, refl, arith}
use Rattle.av1_cdf.specs.Distribution.Distribution.{Adaptive}
use Rattle.av1_cdf.specs.Slots.{slot_of}
use Rattle.av1_model.proofs.ComesLaws.{wrote_err}
use Rattle.av1_syntax.specs.Calls.{stands, coded_in, learnt_in}
use Rattle.av1_syntax.specs.Levels.{range_element}
use Rattle.av1_syntax.proofs.LevelWrites.{range_on, range_end, range_begun, range_starts}
use Rattle.av1_syntax.proofs.Moving.{moves_then, moves_none}
use Rattle.av1_syntax.proofs.context_writer.ContextWriter.write_coeff_range.Goals as goal

pub loop-turn-init : goal.loop-turn-init
loop-turn-init g c = record {
  read = refl;
  enough = c.requires.size;
  came = range_starts (Adaptive (slot_of c.args.cdf)) (stands g.W.Known c.args.w.now c.args.self.now);
  moves = moves_none g.W.Known (13 * 0) _ _ _ c.requires.cdfs;
  rest = refl;
}

pub loop-turn-preserved : goal.loop-turn-preserved
loop-turn-preserved g c =
    let q = Adaptive (slot_of c.args.cdf) in
    let i = c.loop-turn.invariant in
    let old = stands g.W.Known c.args.w.now c.args.self.now in
    let mid = stands g.W.Known c.loop-turn.w c.loop-turn.self in
    let new = stands g.W.Known c.symbol.new.w c.symbol.new.self in
    record {
      read = omega (arith, i.read);
      enough = omega (arith, c.min-s.ensures, c.if-s-lt3.false, i.enough);
      came = range_on (range_element q).tree q c.loop-turn.turn c.loop-turn.read old mid new i.came c.min-s.result (omega (arith, c.loop-turn-test.true)) (omega (arith, c.min-s.ensures, c.if-s-lt3.false)) c.in_ok-symbol.ensures.ok;
      moves = moves_then g.W.Known (13 * c.loop-turn.turn) 13 (13 * (c.loop-turn.turn + 1)) _ _ _ _ _ _ _ _ _ (omega arith) i.moves c.in_ok-symbol.ensures.moves;
      rest = c.symbol.ensures.rest ∙ i.rest;
    }

pub returns-in_err-symbol-clause-wrote : goal.returns-in_err-symbol-clause-wrote
returns-in_err-symbol-clause-wrote g c =
    let q = Adaptive (slot_of c.args.cdf) in
    let i = c.loop-turn.invariant in
    let old = stands g.W.Known c.args.w.now c.args.self.now in
    let mid = stands g.W.Known c.loop-turn.w c.loop-turn.self in
    let new = stands g.W.Known c.symbol.new.w c.symbol.new.self in
    wrote_err coded_in learnt_in c.from_residual.result (range_element q).tree (min c.args.size 15) old new c.from_residual.ensures.0
    (range_begun (range_element q).tree q c.loop-turn.turn c.loop-turn.read old mid new i.came (min c.args.size 15) (c.args.cdf.is_slot, c.requires.four) (omega (arith, i.read, i.enough, c.loop-turn-test.true))
    (omega (arith, i.read, i.enough, c.loop-turn-test.true)) c.in_err-symbol.ensures.err)

pub returns-then-s-lt3-clause-wrote : goal.returns-then-s-lt3-clause-wrote
returns-then-s-lt3-clause-wrote g c =
    let q = Adaptive (slot_of c.args.cdf) in
    let i = c.loop-turn.invariant in
    let old = stands g.W.Known c.args.w.now c.args.self.now in
    let mid = stands g.W.Known c.loop-turn.w c.loop-turn.self in
    let new = stands g.W.Known c.symbol.new.w c.symbol.new.self in
    range_end (range_element q).tree q c.loop-turn.turn c.loop-turn.read old mid new i.came c.min-s.result (min c.args.size 15) (omega (arith, c.loop-turn-test.true)) c.if-s-lt3.true
    (omega (arith, i.read, i.enough, c.loop-turn-test.true, c.if-s-lt3.true, c.min-s.ensures)) c.in_ok-symbol.ensures.ok

pub returns-then-s-lt3-clause-moves : goal.returns-then-s-lt3-clause-moves
returns-then-s-lt3-clause-moves g c = moves_then g.W.Known (13 * c.loop-turn.turn) 13 52 _ _ _ _ _ _ _ _ _ (omega (arith, c.loop-turn-test.true)) c.loop-turn.invariant.moves c.in_ok-symbol.ensures.moves
