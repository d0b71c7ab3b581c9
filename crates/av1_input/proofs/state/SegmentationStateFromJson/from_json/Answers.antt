use Rattle.serde_json.specs.View.{view}
use Rattle.av1_input.specs.FrameState.{segmentation_rows}
use Rattle.av1_frame.specs.Defaults.{no_segments}
use Rattle.av1_input.specs.Rows.{closed}
use Rattle.av1_input.proofs.Rows.{begin, ◌▸◌, end}
use Rattle.av1_input.proofs.state.SegmentationStateFromJson.from_json.Goals as goal

pub returns : goal.returns
returns c = end c.finish.result (begin (closed (λ s. s)) segmentation_rows no_segments (view c.args.value) c.of-members.ensures ▸ c.optional.ensures ▸ c.optional-2.ensures ▸ c.optional-3.ensures ▸ c.optional-4.ensures ▸ c.optional-5.ensures ▸ c.optional-6.ensures) c.finish.ensures
