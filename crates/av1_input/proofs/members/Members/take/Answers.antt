use Rattle.std.proofs.Common.{option_map, ap, ◌∙◌}
use Rattle.serde_json.specs.View.{view, members_view}
use Rattle.av1_input.proofs.Left.{view_found, view_without}
use Rattle.av1_input.proofs.members.Members.take.Goals as goal

pub returns-clause-found : goal.returns-clause-found
returns-clause-found c = ap (option_map view) c.remove.ensures.value ∙ view_found c.args.name.now c.args.self.now.left.entries

pub returns-clause-left : goal.returns-clause-left
returns-clause-left c = ap members_view c.remove.ensures.entries ∙ view_without c.args.name.now c.args.self.now.left.entries
