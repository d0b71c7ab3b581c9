use Rattle.std.proofs.Common.{◌≡◌, ◌*◌, take, drop}
use Rattle.av1_model.specs.Comes.{Comes}
use Rattle.av1_syntax.specs.Calls.{stands, Moved, coded_in, learnt_in}
use Rattle.av1_syntax.specs.TransformSizes.{parts_of, parts_element, entered_parts}
use Rattle.av1_syntax.proofs.context_writer.ContextWriter.write_parts.Given as goal

abbrev pub invariant-loop-k : goal.invariant-loop-k
invariant-loop-k g l =
    let ps = parts_of l.bsize l.part in
    let bo = l.bo.0 in
    record {
      came : Comes coded_in learnt_in (parts_element bo l.bsize l.part ps l.fn.self.bc).tree (parts_element bo l.bsize l.part (drop l.k ps) l.self.bc).tree (stands g.W.Known l.fn.w l.fn.self) (stands g.W.Known l.w l.self);
      moves : Moved g.W.Known (13 * l.k) l.fn.w l.w l.fn.self l.self;
      entered : l.self.bc ≡ entered_parts bo l.part (take l.k ps) l.fn.self.bc;
    }
