use Rattle.av1_header.proofs.RowLaws.{writing}
use Rattle.av1_header.specs.FilmGrain.{grain_end}
use Rattle.av1_header.proofs.film_grain.write_grain_end.Goals as goal

pub returns : goal.returns
unfolding grain_end
returns c = search writing depth 8
