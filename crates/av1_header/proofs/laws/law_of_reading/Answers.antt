use Rattle.av1_header.proofs.ReadBack.{read_back}
use Rattle.av1_header.proofs.laws.law_of_reading.Goals as goal

pub returns : goal.returns
returns g c t s h rest = read_back t s rest h
