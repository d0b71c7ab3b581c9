use Rattle.std.proofs.Common.{◌≡◌, Bool, true, false, refl, sym, ap, ◌∙◌}
use Rattle.std.specs.Prelude.{is_some, if◌then◌else◌}
use Rattle.av1_header.specs.FilmGrain.{film_grain_params}
use Rattle.av1_header.proofs.RowLaws.{flag_then, wrote_else, wrote_done}
use Rattle.av1_header.proofs.film_grain.write_no_grain.Goals as goal

never : (there : Bool) → (if there then false else false) ≡ false
never true = refl
never false = refl

pub returns : goal.returns
unfolding film_grain_params
returns c = flag_then _ _ _ _ _ _ _ _ _ _ _ _ _ _ _ _ _ c.flag_or.ensures refl refl (sym (ap is_some c.requires)) (wrote_else _ _ _ _ _ _ _ _ _ (sym c.flag_or.ensures.told ∙ never c.args.there) (wrote_done _ _ _ _ _ refl))
