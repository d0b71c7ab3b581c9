use Rattle.std.specs.Prelude.{[], ◌++◌}
use Rattle.serde_json.specs.View.{view}
use Rattle.av1_frame.specs.Defaults.{still_sequence}
use Rattle.av1_input.specs.Rows.{closed}
use Rattle.av1_input.specs.Sequence.{sequence_rows, header_rows, tool_rows, force_rows, colour_rows}
use Rattle.av1_input.proofs.Rows.{begin, from, part, end}
use Rattle.av1_input.proofs.sequence.SequenceFromJson.from_json.Goals as goal

pub returns : goal.returns
returns c =
    let start = begin (closed (λ s. s)) sequence_rows still_sequence (view c.args.value) c.of-members.ensures in
    let headed = part header_rows (tool_rows ++ (force_rows ++ colour_rows)) start (from c.default.ensures c.with_header-seq.ensures) in
    let tooled = part tool_rows (force_rows ++ colour_rows) headed c.with_tool-seq.ensures in
    let forced = part force_rows colour_rows tooled c.with_force-seq.ensures in
    end c.finish.result (part colour_rows [] forced c.with_colour-seq.ensures) c.finish.ensures
