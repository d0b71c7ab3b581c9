use Rattle.std.proofs.Common.{◌∙◌}
use Rattle.av1_program.proofs.Sending.{is_front}
use Rattle.av1_program.proofs.run.report_status.Goals as goal

pub returns-clause-front : goal.returns-clause-front
returns-clause-front g c =
    let is = c.as_bytes.ensures.value ∙ c.as_str.ensures.value ∙ c.with_line-status.ensures.line in
    is_front c.send_all.result _ _ _ (rw is at c.send_all.ensures.held) (rw is at c.send_all.ensures.front)
