use Rattle.av1_model.proofs.ComesLaws.{comes_then, comes_within, begins_then, begins_first}
use Rattle.av1_model.proofs.writer.law_of_writers.Goals as goal

pub returns-clause-in_turn : goal.returns-clause-in_turn
returns-clause-in_turn g c contents adapted t u v old mid new h k = comes_then contents adapted t u v old mid new h k

pub returns-clause-within : goal.returns-clause-within
returns-clause-within g c contents adapted t u f old new h = comes_within contents adapted t u f old new h

pub returns-clause-refused_later : goal.returns-clause-refused_later
returns-clause-refused_later g c contents adapted t u a old mid new h b = begins_then contents adapted t u a old mid new h b

pub returns-clause-refused_first : goal.returns-clause-refused_first
returns-clause-refused_first g c contents adapted t f a b ss old new l h = begins_first contents adapted t f a b ss old new l h
