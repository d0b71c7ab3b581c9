use Rattle.std.proofs.Common.{◌≡◌, Bool, true, false, not, refl, sym, ◌∙◌}
use Rattle.std.specs.Prelude.{◌&&◌, if◌then◌else◌}
use Rattle.av1_header.proofs.RowLaws.{writing}
use Rattle.av1_header.specs.FrameFlags.{show_existing}
use Rattle.av1_header.proofs.frame_flags.write_show_existing.Goals as goal

either : (a b : Bool) → (if a then b else false) ≡ (a && b)
either true b = refl
either false b = refl

pub number_or-requires-clause-fits : goal.number_or-requires-clause-fits
number_or-requires-clause-fits c e = c.requires (sym (either (not c.args.reduced) c.args.fi.now.show_existing_frame) ∙ c.flag_or-existing.ensures.told ∙ e)

pub returns-clause-wrote : goal.returns-clause-wrote
unfolding show_existing
returns-clause-wrote c = search writing depth 8

pub returns-clause-value : goal.returns-clause-value
returns-clause-value c = sym c.flag_or-existing.ensures.told ∙ either (not c.args.reduced) c.args.fi.now.show_existing_frame
