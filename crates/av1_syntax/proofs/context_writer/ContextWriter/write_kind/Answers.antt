use Rattle.std.proofs.Common.{◌≤◌, arith}
use Rattle.av1_syntax.proofs.FilterWrites.{kind_wrote}
use Rattle.av1_syntax.proofs.context_writer.ContextWriter.write_kind.Goals as goal

pub returns-clause-wrote : goal.returns-clause-wrote
returns-clause-wrote g c =
    let some : 1 ≤ c.args.lrf_type = omega (arith, c.if-lrf_type-eq-RESTORE_NONE.false) in
    kind_wrote c.symbol.result c.args.lrf_type c.args.kind c.kind_symbol.result _ _ _ some c.requires.lrf_type c.requires.kind c.kind_slot.ensures.is c.kind_symbol.ensures c.symbol.ensures.ok c.symbol.ensures.err
