use Rattle.std.specs.Prelude.{[]}
use Rattle.av1_input.specs.Item.{ref_frames, ref_frames_rows, nothing}
use Rattle.av1_input.specs.Rows.{closed}
use Rattle.av1_input.proofs.Rows.{computed, here, rest, ◌▸◌}
use Rattle.av1_input.proofs.item.ref_frames.Goals as goal

pub returns : goal.returns
returns c =
    let at_end = here (closed ref_frames) ref_frames_rows (nothing []) c.args.members ▸ c.required-refs.ensures in
    rest c.finish.result at_end (computed (closed (λ x. x)) c.of_references.ensures c.finish.ensures)
