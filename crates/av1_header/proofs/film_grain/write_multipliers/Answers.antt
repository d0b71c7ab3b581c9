use Rattle.av1_header.proofs.RowLaws.{writing}
use Rattle.av1_header.specs.FilmGrain.{multipliers}
use Rattle.av1_header.proofs.film_grain.write_multipliers.Goals as goal

pub returns : goal.returns
unfolding multipliers
returns c = search writing depth 8
