use Rattle.std.proofs.Common.{refl}
use Rattle.av1_input.proofs.sequence.RationalFromJson.none.Goals as goal

pub returns : goal.returns
returns c = refl
