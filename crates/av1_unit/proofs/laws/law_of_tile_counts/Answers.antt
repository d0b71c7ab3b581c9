use Rattle.av1_unit.proofs.Counts.{few_tiles, one_tile}
use Rattle.av1_unit.proofs.laws.law_of_tile_counts.Goals as goal

pub returns-clause-some : goal.returns-clause-some
returns-clause-some c g given = one_tile g given

pub returns-clause-few : goal.returns-clause-few
returns-clause-few c g given = few_tiles g given
