use Rattle.av1_coef.proofs.CodedSizes.{width_few, height_few, area_few, room_few}
use Rattle.av1_coef.proofs.laws.law_of_coded_sizes.Goals as goal

pub returns : goal.returns
returns c = record { width = width_few; height = height_few; area = area_few; room = room_few }
