use Rattle.std.proofs.Common.{◌≡◌, Option, inl, subst}
use Rattle.av1_program.specs.Run.{Explains, IsAnswer, IsAnswerTo}
use Rattle.av1_program.specs.Shape.{made}
use Rattle.av1_program.specs.declared.status.Status.{Status}
use Rattle.av1_program.specs.declared.status.Status.TheVariants.{Sent}
use Rattle.av1_program.specs.declared.words.Word.{Word}
use Rattle.av1_program.proofs.Asked.{made_answered, made_valid, read_answered, told_answer}
use Rattle.av1_program.proofs.run.run.Goals as goal

pub returns-in-Err-clause-answer : goal.returns-in-Err-clause-answer
returns-in-Err-clause-answer g c input given =
    told_answer c.report_status.result c.in-Err.status (IsAnswer input) _ c.report_status.ensures.status
    (read_answered c.in-Err.status _ input _ _ _ _ given.word given.told given.no_fault c.in-Err.ensures.why)

pub returns-in-Err-clause-answer_made : goal.returns-in-Err-clause-answer_made
returns-in-Err-clause-answer_made g c n is =
    let Why : Option Word → Type 0 =
    λ asked. Explains c.in-Err.status asked (g.R.Source.left c.args.source.now) (g.R.Source.left c.make.new.source) (g.R.Source.faults c.args.source.now) (g.R.Source.faults c.make.new.source) in
    told_answer c.report_status.result c.in-Err.status (IsAnswerTo (made n)) _ c.report_status.ensures.status
    (made_answered c.in-Err.status n _ _ _ _ (subst Why is c.in-Err.ensures.why))

pub returns-in-Err-clause-complete_made : goal.returns-in-Err-clause-complete_made
returns-in-Err-clause-complete_made g c n is valid still =
    let Why : Option Word → Type 0 =
    λ asked. Explains c.in-Err.status asked (g.R.Source.left c.args.source.now) (g.R.Source.left c.make.new.source) (g.R.Source.faults c.args.source.now) (g.R.Source.faults c.make.new.source) in
    let WasSent : Status → Type 0 = λ s. s ≡ Sent in
    told_answer c.report_status.result c.in-Err.status WasSent _ c.report_status.ensures.status
    (inl (made_valid c.in-Err.status n _ _ _ _ valid (subst Why is c.in-Err.ensures.why)))
