use Rattle.serde_json.specs.View.{view}
use Rattle.av1_input.specs.FrameState.{plane_rows}
use Rattle.av1_frame.specs.Defaults.{unrestored}
use Rattle.av1_input.specs.Rows.{closed}
use Rattle.av1_input.proofs.Rows.{begin, ◌▸◌, end}
use Rattle.av1_input.proofs.state.RestorationPlaneConfigFromJson.from_json.Goals as goal

pub returns : goal.returns
returns c = end c.finish.result (begin (closed (λ s. s)) plane_rows unrestored (view c.args.value) c.of-members.ensures ▸ c.optional.ensures ▸ c.or.ensures) c.finish.ensures
