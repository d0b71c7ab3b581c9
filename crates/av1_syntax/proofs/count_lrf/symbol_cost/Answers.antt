use Rattle.av1_model.specs.Cdf.{token_of}
use Rattle.av1_model.specs.Position.{interval_of}
use Rattle.av1_model.proofs.Symbols.{token_valid}
use Rattle.av1_syntax.proofs.Counting.{symbol_few}
use Rattle.av1_syntax.proofs.count_lrf.symbol_cost.Goals as goal

pub returns-clause-few : goal.returns-clause-few
returns-clause-few g c =
    symbol_few (interval_of (g.W.Known.position c.args.w.now)) (token_of c.args.cdf.now c.args.s) c.symbol_bits.result (g.met.W.Writer.valid c.args.w.now).interval (token_valid c.args.cdf.now c.args.s c.requires.cdf c.requires.s) c.symbol_bits.ensures
