use Rattle.std.proofs.Common.{◌∙◌}
use Rattle.av1_input.proofs.Left.{view_has}
use Rattle.av1_input.proofs.members.Members.has.Goals as goal

pub returns : goal.returns
returns c = c.contains_key.ensures ∙ view_has c.args.name.now c.args.self.now.left.entries
