use Rattle.std.proofs.Common.{◌∙◌, sym, w8}
use mir.Val.{to_z, of_z}
use Rattle.av1_geometry.specs.declared.constants.TheConstants.{SGRPROJ_XQD_MIN, SGRPROJ_XQD_MAX}
use Rattle.av1_syntax.specs.Calls.{stands}
use Rattle.av1_syntax.specs.Restoration.{number_at, near_element}
use Rattle.av1_syntax.proofs.FilterWrites.{weight_wrote, by_reference}
use Rattle.av1_syntax.proofs.context_writer.ContextWriter.write_weight.Goals as goal

pub returns-clause-wrote : goal.returns-clause-wrote
returns-clause-wrote g c =
    let old = stands g.W.Known c.args.w.now c.args.self.now in
    let new = stands g.W.Known c.write_near.new.w c.args.self.now in
    let least = to_z w8 (of_z w8 (number_at SGRPROJ_XQD_MIN c.args.pass)) in
    let greatest = to_z w8 (of_z w8 (number_at SGRPROJ_XQD_MAX c.args.pass)) in
    weight_wrote c.write_near.result c.args.set c.args.pass c.args.reference c.args.weight old new c.requires.pass (sym c.has_pass.ensures ∙ c.if-not-has_pass.false)
    (by_reference c.write_near.result (near_element least greatest 4) c.args.reference c.args.weight old new c.ranges.reference c.ranges.weight c.write_near.ensures.wrote)
