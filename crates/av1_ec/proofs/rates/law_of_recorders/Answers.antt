use Rattle.std.proofs.Common.{◌∙◌, arith}
use Rattle.av1_model.proofs.Positions.{range_advanced_all, shift_advanced_all}
use Rattle.av1_ec.specs.Rate.{new_counter}
use Rattle.av1_ec.specs.Recorder.{tokens_in}
use Rattle.av1_ec.proofs.Recording.{recording_of}
use Rattle.av1_ec.proofs.rates.law_of_recorders.Goals as goal

pub returns-clause-range : goal.returns-clause-range
returns-clause-range c = λ q r s. range_advanced_all q new_counter (tokens_in c.args.w.now.s.storage.items) r s ∙ (recording_of _ _ _ c.args.w.now.window).range_after

pub returns-clause-shift : goal.returns-clause-shift
returns-clause-shift c = λ q r s. shift_advanced_all q new_counter (tokens_in c.args.w.now.s.storage.items) r s ∙ (recording_of _ _ _ c.args.w.now.window).shift_after

pub returns-clause-fits : goal.returns-clause-fits
returns-clause-fits c = λ q r s.
    let w = recording_of _ _ _ c.args.w.now.window in
    omega (arith, shift_advanced_all q new_counter (tokens_in c.args.w.now.s.storage.items) r s, w.shift_after, w.few)
