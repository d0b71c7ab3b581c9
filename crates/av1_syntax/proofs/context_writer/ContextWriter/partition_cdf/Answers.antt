use Rattle.std.proofs.Common.{ap, ◌∙◌}
use Rattle.av1_cdf.specs.Layout.{Slot}
use Rattle.av1_syntax.specs.Partition.{partition_slot}
use Rattle.av1_syntax.proofs.Gathering.{slot_has}
use Rattle.av1_syntax.proofs.context_writer.ContextWriter.partition_cdf.Goals as goal

pub returns-clause-is : goal.returns-clause-is
returns-clause-is c = c.partition_slot.ensures ∙ ap partition_slot c.partition_plane_context.ensures

pub returns-clause-len : goal.returns-clause-len
returns-clause-len c =
    let is = c.partition_slot.ensures ∙ ap partition_slot c.partition_plane_context.ensures in
    ap (λ (s : Slot). s.len) is ∙ (slot_has c.args.self.now.bc c.args.bo.0 c.args.bsize c.requires.place.least c.requires.place.most).1
