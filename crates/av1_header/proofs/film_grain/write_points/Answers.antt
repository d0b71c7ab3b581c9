use Rattle.av1_header.proofs.RowLaws.{writing}
use Rattle.av1_header.specs.FilmGrain.{points}
use Rattle.av1_header.proofs.film_grain.write_points.Goals as goal

pub returns : goal.returns
unfolding points
returns c = search writing depth 8
