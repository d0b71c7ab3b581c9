use Rattle.std.proofs.Common.{refl, ap, sym}
use Rattle.std.specs.Prelude.{unwrap_or}
use Rattle.av1_header.specs.FilmGrain.{applied_grain, no_grain}
use Rattle.av1_header.proofs.RowLaws.{flag_then, on_then, wrote_done}
use Rattle.av1_header.proofs.film_grain.write_applied_grain.Goals as goal

pub returns : goal.returns
unfolding applied_grain
returns c =
    on_then _ _ _ _ _ _ _ _ _ _ _ _ _ c.write_grain.ensures (sym (ap (λ o. unwrap_or o no_grain) c.requires.same))
    (flag_then _ _ _ _ _ _ _ _ _ _ _ _ _ _ _ _ _ c.flag_or.ensures refl refl c.is_limited.ensures
    (wrote_done _ _ _ _ _ refl))
