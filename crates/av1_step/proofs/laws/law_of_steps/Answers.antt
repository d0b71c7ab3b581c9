use Rattle.av1_step.specs.Step.{question_of}
use Rattle.av1_step.proofs.StepLaws.{leads, one_path, step_begun, still_faultless}
use Rattle.av1_step.proofs.laws.law_of_steps.Goals as goal

pub returns-clause-leads : goal.returns-clause-leads
returns-clause-leads c step t allowed cdfs kept = leads step t cdfs kept allowed

pub returns-clause-one_path : goal.returns-clause-one_path
returns-clause-one_path c step t symbols cdfs kept led = let p = one_path (question_of step) t symbols step cdfs kept led in (p.1, p.2)

pub returns-clause-fewer_bits : goal.returns-clause-fewer_bits
returns-clause-fewer_bits c step t bits fewer none h = still_faultless t bits fewer step h none

pub returns-clause-refused : goal.returns-clause-refused
returns-clause-refused c step t old new v kept b = step_begun step t old new v kept b
