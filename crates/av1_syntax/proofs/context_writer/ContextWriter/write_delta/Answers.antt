use Rattle.std.proofs.Common.{◌≡◌, ◌∷◌, [], refl, arith, w8}
use Rattle.av1_cdf.specs.Distribution.Distribution.{Adaptive, Fixed}
use Rattle.av1_cdf.specs.Slots.{slot_of}
use Rattle.av1_geometry.specs.Cfl.{magnitude}
use Rattle.av1_model.proofs.ComesLaws.{wrote_err}
use Rattle.std.proofs.lemmas.Int.{to_z-of_z}
use Rattle.av1_syntax.specs.Calls.{coded_in, learnt_in}
use Rattle.av1_syntax.specs.Deltas.{sign_bit}
use Rattle.av1_syntax.proofs.DeltaWrites.{delta_begun, delta_none, delta_wrote}
use Rattle.av1_syntax.proofs.Gathering.{two_numbers}
use Rattle.av1_syntax.proofs.Moving.{moves_then}
use Rattle.av1_syntax.proofs.context_writer.ContextWriter.write_delta.Goals as goal

pub fixed_symbol-requires-clause-cdf : goal.fixed_symbol-requires-clause-cdf
fixed_symbol-requires-clause-cdf g c = two_numbers 16384 (omega arith)

pub returns-in_err-write_size-clause-wrote : goal.returns-in_err-write_size-clause-wrote
returns-in_err-write_size-clause-wrote g c =
    let e : c.size_of-size.result ≡ magnitude c.args.delta = rw (to_z-of_z w8 c.args.delta c.ranges.delta) at c.size_of-size.ensures in
    wrote_err coded_in learnt_in c.from_residual.result _ _ _ _ c.from_residual.ensures.0 (delta_begun (Adaptive (slot_of c.args.cdf)) c.args.delta c.size_of-size.result _ _ e c.in_err-write_size.ensures.wrote)

pub returns-then-size-eq0-clause-wrote : goal.returns-then-size-eq0-clause-wrote
returns-then-size-eq0-clause-wrote g c =
    let e : c.size_of-size.result ≡ magnitude c.args.delta = rw (to_z-of_z w8 c.args.delta c.ranges.delta) at c.size_of-size.ensures in
    delta_none (Adaptive (slot_of c.args.cdf)) c.args.delta c.size_of-size.result _ _ e (omega (arith, c.if-size-eq0.true)) c.in_ok-write_size.ensures.wrote

pub returns-clause-wrote : goal.returns-clause-wrote
returns-clause-wrote g c =
    let e : c.size_of-size.result ≡ magnitude c.args.delta = rw (to_z-of_z w8 c.args.delta c.ranges.delta) at c.size_of-size.ensures in
    let s : c.sign_bit.result ≡ sign_bit c.args.delta = rw (to_z-of_z w8 c.args.delta c.ranges.delta) at c.sign_bit.ensures.value in
    delta_wrote c.fixed_symbol.result (Adaptive (slot_of c.args.cdf)) (Fixed (16384 ∷ 0 ∷ [])) c.args.delta c.size_of-size.result c.sign_bit.result _ _ _ e (omega (arith, c.if-size-eq0.false)) refl s c.in_ok-write_size.ensures.wrote c.fixed_symbol.ensures.ok c.fixed_symbol.ensures.err

pub returns-clause-moves : goal.returns-clause-moves
returns-clause-moves g c = moves_then g.W.Known 117 13 130 _ _ _ _ _ _ _ _ _ (omega arith) c.in_ok-write_size.ensures.moves c.fixed_symbol.ensures.moves
