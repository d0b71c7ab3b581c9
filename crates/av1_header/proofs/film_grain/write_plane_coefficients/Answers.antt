use Rattle.av1_header.proofs.RowLaws.{writing}
use Rattle.av1_header.specs.FilmGrain.{coefficients}
use Rattle.av1_header.proofs.film_grain.write_plane_coefficients.Goals as goal

pub returns : goal.returns
unfolding coefficients
returns c = search writing depth 8
