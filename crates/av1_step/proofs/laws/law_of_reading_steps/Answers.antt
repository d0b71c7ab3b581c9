use Rattle.av1_model.specs.Interval.{final_bytes}
use Rattle.av1_model.proofs.Final.{holds_final}
use Rattle.av1_step.specs.Script.{after_all}
use Rattle.av1_step.proofs.ReadingBack.{sound_after_all, read_all}
use Rattle.av1_step.proofs.laws.law_of_reading_steps.Goals as goal

pub returns : goal.returns
returns c at steps sound allowed =
    let end = (after_all at steps).interval in
    read_all (final_bytes end) 0 at steps sound allowed (holds_final end (sound_after_all 0 at steps sound allowed).interval)
