use Rattle.av1_model.proofs.Encoded.{encoder_along, context-along, along_shift}
use Rattle.av1_model.proofs.reading.law_of_storing.Goals as goal

pub returns-clause-encoder : goal.returns-clause-encoder
returns-clause-encoder g c contents adapted t symbols at = encoder_along contents adapted t symbols at

pub returns-clause-context : goal.returns-clause-context
returns-clause-context g c contents adapted t symbols at = context-along contents adapted t symbols at

pub returns-clause-few_bits : goal.returns-clause-few_bits
returns-clause-few_bits g c contents adapted t symbols at v f = along_shift contents adapted t symbols at v f
