use Rattle.std.proofs.Common.{◌-◌, ◌/◌, ◌%◌, ◌^◌, refl}
use Rattle.av1_geometry.specs.ChromaSampling.{xdec_of}
use Rattle.av1_geometry.specs.TxSize.{tx_width_log2, tx_height_log2}
use Rattle.av1_blocks.specs.Edges.{halvings}
use Rattle.av1_blocks.proofs.GivenBack.{gives_back}
use Rattle.av1_blocks.proofs.GoingBack.{hides_partition, hides_tx_sides, hides_skip_reset, hides_plane, hides_over}
use Rattle.av1_blocks.proofs.laws.law_of_going_back.Goals as goal

pub returns-clause-partition : goal.returns-clause-partition
returns-clause-partition c = hides_partition

pub returns-clause-tx_sides : goal.returns-clause-tx_sides
returns-clause-tx_sides c = hides_tx_sides

pub returns-clause-skip_reset : goal.returns-clause-skip_reset
returns-clause-skip_reset c = hides_skip_reset

pub returns-clause-coefficients : goal.returns-clause-coefficients
returns-clause-coefficients c k s plane ydec v bo tx bc few start end = hides_plane k s plane (bo.x / 2 ^ halvings (xdec_of k.chroma_sampling) plane) (2 ^ (tx_width_log2 tx - 2)) (bo.y % 16 / 2 ^ ydec) (2 ^ (tx_height_log2 tx - 2)) v bc few start end

pub returns-clause-left_reset : goal.returns-clause-left_reset
returns-clause-left_reset c k s planes bc = refl

pub returns-clause-cdef_coded : goal.returns-clause-cdef_coded
returns-clause-cdef_coded c k s coded bc = refl

pub returns-clause-blocks : goal.returns-clause-blocks
returns-clause-blocks c = hides_over

pub returns-clause-start : goal.returns-clause-start
returns-clause-start c = gives_back
