use Rattle.std.proofs.Common.{subst}
use Rattle.av1_header.specs.FilmGrain.{coefficient}
use Rattle.av1_header.specs.Rows.{Wrote, each}
use Rattle.av1_header.proofs.film_grain.write_chroma_coefficients.Goals as goal

pub returns : goal.returns
returns c = subst (λ k. Wrote (each k 0 coefficient) c.args.list.now tt c.args.refused.now c.write_coefficients.new.refused c.args.bits.now c.write_coefficients.new.bits) c.chroma_count.ensures c.write_coefficients.ensures
