use Rattle.av1_header.proofs.RowLaws.{writing}
use Rattle.av1_header.specs.FilmGrain.{point}
use Rattle.av1_header.proofs.film_grain.write_point.Goals as goal

pub returns : goal.returns
unfolding point
returns c = search writing depth 8
