use Rattle.std.proofs.Common.{◌≡◌}
use Rattle.serde_json.specs.View.{members_view}
use Rattle.av1_input.specs.Rows.{no_stranger}
use Rattle.av1_input.proofs.members.first_name.Given as goal

abbrev pub invariant-loop-name : goal.invariant-loop-name
invariant-loop-name l = no_stranger (members_view l.left.entries) ≡ no_stranger (members_view l.name-iterator)
