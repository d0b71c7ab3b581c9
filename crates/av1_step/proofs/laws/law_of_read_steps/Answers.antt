use Rattle.av1_step.proofs.ReadingBack.{read_is}
use Rattle.av1_step.proofs.laws.law_of_read_steps.Goals as goal

pub returns : goal.returns
returns c at bytes questions steps end sound read =
    let r = read_is bytes 0 questions steps at end sound read in
    (r.asked, r.right, r.ends)
