use Rattle.std.proofs.Common.{◌≡◌, ◌∙◌, ap, arith}
use Rattle.av1_cdf.specs.Layout.{Slot}
use Rattle.av1_cdf.specs.Slots.{slot_of}
use Rattle.av1_geometry.specs.Cfl.{sign_at, scale_at}
use Rattle.av1_model.proofs.ComesLaws.{wrote_err}
use Rattle.av1_syntax.specs.Calls.{stands, coded_in, learnt_in}
use Rattle.av1_syntax.specs.Factors.{signs_number}
use Rattle.av1_syntax.proofs.Factors.{signs_begun, first_begun, factors_wrote}
use Rattle.av1_syntax.proofs.Slots.{cfl_sign_has}
use Rattle.av1_syntax.proofs.Moving.{moves_then}
use Rattle.av1_syntax.proofs.context_writer.ContextWriter.write_cfl_alphas.Goals as goal

pub symbol-requires-clause-s : goal.symbol-requires-clause-s
symbol-requires-clause-s g c =
    let long = ap (λ (s : Slot). s.len) c.cfl_sign_cdf.ensures ∙ cfl_sign_has.1 in
    omega (arith, long, c.joint_sign.ensures.bound)

pub returns-in_err-symbol-clause-wrote : goal.returns-in_err-symbol-clause-wrote
returns-in_err-symbol-clause-wrote g c =
    let cfl = c.args.cfl in
    let old = stands g.W.Known c.args.w.now c.args.self.now in
    let new = stands g.W.Known c.symbol.new.w c.symbol.new.self in
    wrote_err coded_in learnt_in c.from_residual.result _ _ old new c.from_residual.ensures.0
    (signs_begun (sign_at cfl 0) (sign_at cfl 1) (scale_at cfl 0) (scale_at cfl 1) c.requires.factors.some (c.requires.factors.scales 0 (omega arith)) (c.requires.factors.scales 1 (omega arith)) old new c.in_err-symbol.ensures.err)

pub returns-in_err-write_factor-clause-wrote : goal.returns-in_err-write_factor-clause-wrote
returns-in_err-write_factor-clause-wrote g c =
    let cfl = c.args.cfl in
    let old = stands g.W.Known c.args.w.now c.args.self.now in
    let mid = stands g.W.Known c.symbol.new.w c.symbol.new.self in
    let new = stands g.W.Known c.write_factor.new.w c.write_factor.new.self in
    let e : c.joint_sign.result ≡ signs_number (sign_at cfl 0, sign_at cfl 1) = omega (arith, c.joint_sign.ensures.value) in
    wrote_err coded_in learnt_in c.from_residual-in_err-write_factor.result _ _ old new c.from_residual-in_err-write_factor.ensures.0
    (first_begun (sign_at cfl 0) (sign_at cfl 1) (scale_at cfl 0) (scale_at cfl 1) c.requires.factors.some (c.requires.factors.scales 0 (omega arith)) (c.requires.factors.scales 1 (omega arith)) (slot_of c.cfl_sign_cdf.result) c.joint_sign.result old mid new
    c.cfl_sign_cdf.ensures e c.in_ok-symbol.ensures.ok c.in_err-write_factor.ensures.wrote)

pub returns-clause-wrote : goal.returns-clause-wrote
returns-clause-wrote g c =
    let cfl = c.args.cfl in
    let old = stands g.W.Known c.args.w.now c.args.self.now in
    let mid = stands g.W.Known c.symbol.new.w c.symbol.new.self in
    let late = stands g.W.Known c.write_factor.new.w c.write_factor.new.self in
    let new = stands g.W.Known c.write_factor-2.new.w c.write_factor-2.new.self in
    let e : c.joint_sign.result ≡ signs_number (sign_at cfl 0, sign_at cfl 1) = omega (arith, c.joint_sign.ensures.value) in
    factors_wrote (sign_at cfl 0) (sign_at cfl 1) (scale_at cfl 0) (scale_at cfl 1) c.requires.factors.some (c.requires.factors.scales 0 (omega arith)) (c.requires.factors.scales 1 (omega arith)) c.write_factor-2.result (slot_of c.cfl_sign_cdf.result) c.joint_sign.result
    old mid late new c.cfl_sign_cdf.ensures e c.in_ok-symbol.ensures.ok c.in_ok-write_factor.ensures.wrote c.write_factor-2.ensures.wrote

pub returns-in_err-write_factor-clause-moves : goal.returns-in_err-write_factor-clause-moves
returns-in_err-write_factor-clause-moves g c = moves_then g.W.Known 13 13 39 _ _ _ _ _ _ _ _ _ (omega arith) c.in_ok-symbol.ensures.moves c.in_err-write_factor.ensures.moves

pub returns-clause-moves : goal.returns-clause-moves
returns-clause-moves g c =
    moves_then g.W.Known 26 13 39 _ _ _ _ _ _ _ _ _ (omega arith) (moves_then g.W.Known 13 13 26 _ _ _ _ _ _ _ _ _ (omega arith) c.in_ok-symbol.ensures.moves c.in_ok-write_factor.ensures.moves) c.write_factor-2.ensures.moves
