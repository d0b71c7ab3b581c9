use Rattle.av1_model.proofs.Paths.{along_then, fits_then}
use Rattle.av1_model.proofs.ReadBack.{along_valid}
use Rattle.av1_model.proofs.reading.law_of_coding.Goals as goal

pub returns-clause-valid : goal.returns-clause-valid
returns-clause-valid g c contents adapted t ss at v f = along_valid contents adapted t ss at v f

pub returns-clause-both : goal.returns-clause-both
returns-clause-both g c contents adapted t f xs ys a at h = along_then contents adapted t f xs ys a at h

pub returns-clause-fits : goal.returns-clause-fits
returns-clause-fits g c contents adapted t f xs ys a at l x y = fits_then contents adapted t f xs ys a at l x y
