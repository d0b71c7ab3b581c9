use Rattle.av1_header.proofs.RowLaws.{writing}
use Rattle.av1_header.specs.FilmGrain.{coefficient}
use Rattle.av1_header.proofs.film_grain.write_coefficient.Goals as goal

pub returns : goal.returns
unfolding coefficient
returns c = search writing depth 8
