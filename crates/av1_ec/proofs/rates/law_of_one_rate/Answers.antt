use Rattle.std.proofs.Common.{refl}
use Rattle.av1_ec.specs.Rate.{new_counter, new_recorder, new_encoder}
use Rattle.av1_ec.proofs.OneRate.{tell_alike, tell_frac_alike}
use Rattle.av1_ec.proofs.rates.law_of_one_rate.Goals as goal

pub returns-clause-counter : goal.returns-clause-counter
returns-clause-counter c = λ ts fake. tell_alike new_counter new_encoder ts fake refl refl refl

pub returns-clause-recorder : goal.returns-clause-recorder
returns-clause-recorder c = λ ts fake. tell_alike new_recorder new_encoder ts fake refl refl refl

pub returns-clause-counter_frac : goal.returns-clause-counter_frac
returns-clause-counter_frac c = λ ts fake. tell_frac_alike new_counter new_encoder ts fake refl refl refl

pub returns-clause-recorder_frac : goal.returns-clause-recorder_frac
returns-clause-recorder_frac c = λ ts fake. tell_frac_alike new_recorder new_encoder ts fake refl refl refl
