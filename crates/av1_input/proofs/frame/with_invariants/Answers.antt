use Rattle.std.specs.Prelude.{[], ◌++◌}
use Rattle.av1_input.specs.Frame.{invariant_rows, size_rows, show_rows, reference_rows, motion_rows, quantizer_rows, mode_rows}
use Rattle.av1_input.proofs.Rows.{here, part, poured, so_far}
use Rattle.av1_input.proofs.frame.with_invariants.Goals as goal

pub returns : goal.returns
returns c =
    let at-0 = here so_far invariant_rows c.args.fi c.args.members.now in
    let at-1 = part size_rows (show_rows ++ (reference_rows ++ (motion_rows ++ (quantizer_rows ++ mode_rows)))) at-0 c.with_size-fi.ensures in
    let at-2 = part show_rows (reference_rows ++ (motion_rows ++ (quantizer_rows ++ mode_rows))) at-1 c.with_show-fi.ensures in
    let at-3 = part reference_rows (motion_rows ++ (quantizer_rows ++ mode_rows)) at-2 c.with_reference-fi.ensures in
    let at-4 = part motion_rows (quantizer_rows ++ mode_rows) at-3 c.with_motion-fi.ensures in
    let at-5 = part quantizer_rows mode_rows at-4 c.with_quantizer-fi.ensures in
    poured (part mode_rows [] at-5 c.with_mode.ensures)
