use Rattle.std.proofs.Common.{◌*◌, ◌^◌, ◌<◌, sym, subst, arith}
use Rattle.av1_syntax.specs.Calls.{Coded}
use Rattle.av1_syntax.specs.Literals.{literal}
use Rattle.av1_syntax.proofs.Moving.{moves_as}
use Rattle.av1_syntax.proofs.context_writer.ContextWriter.write_cdef.Goals as goal

pub literal-requires-clause-fits : goal.literal-requires-clause-fits
literal-requires-clause-fits g c = subst (λ v. v < 2 ^ c.args.bits) (sym c.from.ensures) c.requires.index

pub returns-clause-wrote : goal.returns-clause-wrote
returns-clause-wrote g c = subst (λ v. Coded g.W.Known c.literal.result (literal c.args.bits) v c.args.w.now c.literal.new.w c.args.self.now c.args.self.now) c.from.ensures c.literal.ensures.wrote

pub returns-clause-moves : goal.returns-clause-moves
returns-clause-moves g c = moves_as g.W.Known (13 * c.args.bits) 39 _ _ _ _ _ _ (omega (arith, c.requires.bits)) c.literal.ensures.moves
