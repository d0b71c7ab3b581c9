use Rattle.std.proofs.Common.{◌∙◌}
use Rattle.std.proofs.Math.Nat.{mod-eq_of_lt}
use Rattle.av1_model.proofs.BitsNumbers.{number_of-bits_of}
use Rattle.av1_model.proofs.codes.law_of_numbers.Goals as goal

pub returns : goal.returns
returns c n v fits = number_of-bits_of n v ∙ mod-eq_of_lt fits
