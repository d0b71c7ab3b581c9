use Rattle.std.proofs.Common.{◌∙◌, append_assoc}
use Rattle.av1_program.specs.Status.{place_text}
use Rattle.av1_program.proofs.status.place_text.Goals as goal

pub returns-in_ok-format-in-Item : goal.returns-in_ok-format-in-Item
unfolding place_text
returns-in_ok-format-in-Item c = rw c.in-Item.is (c.in_ok-format-in-Item.ensures.ok ∙ simp append_assoc)
