use Rattle.av1_codes.proofs.Words.{golomb_is, golomb_fits}
use Rattle.av1_codes.proofs.word.golomb_word.Goals as goal

pub invariant_of-result-clause-fits : goal.invariant_of-result-clause-fits
invariant_of-result-clause-fits c = golomb_fits _ _ c.binary_digits_of-digits.ensures.least c.binary_digits_of-digits.ensures.to

pub returns : goal.returns
returns c = golomb_is _ _ c.binary_digits_of-digits.ensures.value c.binary_digits_of-digits.ensures.least c.binary_digits_of-digits.ensures.to
