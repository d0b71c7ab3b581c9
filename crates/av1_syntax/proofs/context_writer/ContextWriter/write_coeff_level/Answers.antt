use Rattle.std.proofs.Common.{◌≡◌, ◌-◌, Bool, unsigned_abs, w32, subst, arith}
use Rattle.std.proofs.lemmas.Int.{to_z-of_z}
use Rattle.av1_cdf.specs.Slots.{slot_of}
use Rattle.av1_model.specs.Comes.{Writes, Begins, Wrote}
use Rattle.av1_model.proofs.ComesLaws.{wrote_err}
use Rattle.av1_syntax.specs.Calls.{stands, coded_in, learnt_in}
use Rattle.av1_syntax.specs.Flags.{flag}
use Rattle.av1_syntax.specs.Levels.{sign_by, is_negative, level_element, cut_level, golomb_element}
use Rattle.av1_syntax.proofs.LevelWrites.{level_begun, level_small, level_great, some_size}
use Rattle.av1_syntax.proofs.context_writer.ContextWriter.write_coeff_level.Goals as goal

pub returns-in_err-write_coeff_sign-clause-wrote : goal.returns-in_err-write_coeff_sign-clause-wrote
returns-in_err-write_coeff_sign-clause-wrote g c =
    let v = c.args.level in
    let q = sign_by c.args.first (slot_of c.args.cdf) in
    let old = stands g.W.Known c.args.w.now c.args.self.now in
    let new = stands g.W.Known c.write_coeff_sign.new.w c.write_coeff_sign.new.self in
    let fits = to_z-of_z w32 v c.ranges.level in
    let sign : c.is_negative.result ≡ is_negative v = rw fits at c.is_negative.ensures in
    let some = some_size v c.if-level-eq0.false in
    wrote_err coded_in learnt_in c.from_residual.result (level_element q (cut_level v)).tree v old new c.from_residual.ensures.0
    (level_begun q v old new some c.requires.small (subst (λ (n : Bool). Begins coded_in learnt_in (flag q).tree n old new) sign c.in_err-write_coeff_sign.ensures.wrote))

pub returns-then-size-lt15-clause-wrote : goal.returns-then-size-lt15-clause-wrote
returns-then-size-lt15-clause-wrote g c =
    let v = c.args.level in
    let q = sign_by c.args.first (slot_of c.args.cdf) in
    let old = stands g.W.Known c.args.w.now c.args.self.now in
    let new = stands g.W.Known c.write_coeff_sign.new.w c.write_coeff_sign.new.self in
    let fits = to_z-of_z w32 v c.ranges.level in
    let sign : c.is_negative.result ≡ is_negative v = rw fits at c.is_negative.ensures in
    let size : c.unsigned_abs-size.result ≡ unsigned_abs v = rw fits at c.unsigned_abs-size.ensures.value in
    let some = some_size v c.if-level-eq0.false in
    level_small q v old new some (omega (arith, size, c.if-size-lt15.true)) (subst (λ (n : Bool). Writes coded_in learnt_in (flag q).tree n old new) sign c.in_ok-write_coeff_sign.ensures.wrote)

pub returns-clause-wrote : goal.returns-clause-wrote
returns-clause-wrote g c =
    let v = c.args.level in
    let q = sign_by c.args.first (slot_of c.args.cdf) in
    let old = stands g.W.Known c.args.w.now c.args.self.now in
    let mid = stands g.W.Known c.write_coeff_sign.new.w c.write_coeff_sign.new.self in
    let new = stands g.W.Known c.write_golomb.new.w c.write_coeff_sign.new.self in
    let fits = to_z-of_z w32 v c.ranges.level in
    let sign : c.is_negative.result ≡ is_negative v = rw fits at c.is_negative.ensures in
    let size : c.unsigned_abs-size.result ≡ unsigned_abs v = rw fits at c.unsigned_abs-size.ensures.value in
    level_great q v c.write_golomb.result old mid new (omega (arith, size, c.if-size-lt15.false)) c.requires.small (subst (λ (n : Bool). Writes coded_in learnt_in (flag q).tree n old mid) sign c.in_ok-write_coeff_sign.ensures.wrote)
    (subst (λ n. Wrote coded_in learnt_in c.write_golomb.result golomb_element.tree (n - 15) mid new) size c.write_golomb.ensures.wrote)
