use Rattle.std.proofs.Common.{arith}
use Rattle.av1_bench.proofs.Steps.{symbol_shift, stored_shift}
use Rattle.av1_bench.proofs.round.coded.Goals as goal

pub symbol-requires-clause-shift : goal.symbol-requires-clause-shift
symbol-requires-clause-shift g c =
    omega (arith, c.requires.shift, symbol_shift (g.W.Known.position c.args.w.now) c.args.cdf.now c.from.result (g.met.W.Writer.valid c.args.w.now) c.requires.cdf (omega arith))

pub returns : goal.returns
returns g c =
    record {
      shift = stored_shift c.symbol.result _ _ _ c.symbol.ensures.ok c.symbol.ensures.err (symbol_shift (g.W.Known.position c.args.w.now) c.args.cdf.now c.from.result (g.met.W.Writer.valid c.args.w.now) c.requires.cdf (omega arith));
    }
