use Rattle.av1_header.proofs.RowLaws.{writing}
use Rattle.av1_header.specs.FilmGrain.{all_points}
use Rattle.av1_header.proofs.film_grain.write_all_points.Goals as goal

pub returns : goal.returns
unfolding all_points
returns c = search writing depth 8
