use Rattle.av1_header.proofs.RowLaws.{writing}
use Rattle.av1_header.specs.Segments.{segmentation_params}
use Rattle.av1_header.proofs.segments.write_segmentation.Goals as goal

pub returns-then-update_data : goal.returns-then-update_data
unfolding segmentation_params
returns-then-update_data c = search writing depth 8

pub returns-else-update_data : goal.returns-else-update_data
unfolding segmentation_params
returns-else-update_data c = search writing depth 8
