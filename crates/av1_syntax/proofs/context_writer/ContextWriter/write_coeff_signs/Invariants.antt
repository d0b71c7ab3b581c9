use Rattle.std.proofs.Common.{◌≡◌, ◌*◌, ◌^◌, ◌≤◌, map}
use Rattle.av1_syntax.specs.Calls.{stands, Moved}
use Rattle.av1_syntax.proofs.CoeffLoops.{SignsCame, total_of}
use Rattle.av1_syntax.proofs.context_writer.ContextWriter.write_coeff_signs.Given as goal

abbrev pub invariant-loop-c : goal.invariant-loop-c
invariant-loop-c g l =
    let values = map g.T.Coefficient.value l.coeffs in
    record {
      came : SignsCame l.scan l.eob values l.fn.block.plane_type l.dc_sign_ctx l.c (stands g.W.Known l.fn.w l.fn.self) (stands g.W.Known l.w l.self);
      sum : l.total ≡ total_of l.scan l.eob values l.c;
      few : l.total ≤ 2 ^ 20 * l.c;
      moves : Moved g.W.Known (832 * l.c) l.fn.w l.w l.fn.self l.self;
      rest : l.self.bc ≡ l.fn.self.bc;
    }
