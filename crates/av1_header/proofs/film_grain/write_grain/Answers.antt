use Rattle.av1_header.proofs.RowLaws.{writing}
use Rattle.av1_header.specs.FilmGrain.{grain_rows}
use Rattle.av1_header.proofs.film_grain.write_grain.Goals as goal

pub returns : goal.returns
unfolding grain_rows
returns c = search writing depth 8
