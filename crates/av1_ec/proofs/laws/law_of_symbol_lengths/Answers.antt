use Rattle.av1_model.specs.Cdf.{token_of}
use Rattle.av1_model.proofs.Positions.{advance_shift}
use Rattle.av1_model.proofs.Symbols.{token_valid}
use Rattle.av1_ec.proofs.laws.law_of_symbol_lengths.Goals as goal

pub returns : goal.returns
returns c p cdf s v h l = advance_shift p (token_of cdf s) v.interval (token_valid cdf s h l)
