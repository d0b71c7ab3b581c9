use Rattle.serde_json.specs.View.{view}
use Rattle.av1_frame.specs.Defaults.{plain_state}
use Rattle.av1_input.specs.Frame.{invariant_rows}
use Rattle.av1_input.specs.FrameState.{state_rows}
use Rattle.av1_input.specs.Rows.{closed}
use Rattle.av1_input.specs.WholeFrame.{frame_of, nothing_of_frame, with_state}
use Rattle.av1_input.proofs.Rows.{begin, computed, end, from, second, whole_table}
use Rattle.av1_input.proofs.frame.FrameFromJson.from_json.Goals as goal

pub returns : goal.returns
returns c =
    let start = begin with_state invariant_rows nothing_of_frame (view c.args.value) c.of-members.ensures in
    let first = whole_table start (from c.nothing_of_frame.ensures c.with_invariants-fi.ensures) in
    let next = second (λ fi. closed (frame_of fi)) state_rows plain_state first in
    end c.finish.result (whole_table next (from c.default.ensures c.with_state-fs.ensures)) (computed (closed (λ f. f)) c.frame_of.ensures c.finish.ensures)
