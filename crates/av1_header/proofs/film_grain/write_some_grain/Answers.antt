use Rattle.std.proofs.Common.{◌≡◌, Bool, true, false, refl, sym, ap, ◌∙◌}
use Rattle.std.specs.Prelude.{is_some, if◌then◌else◌}
use Rattle.av1_header.specs.FilmGrain.{film_grain_params}
use Rattle.av1_header.proofs.RowLaws.{flag_then, wrote_if, wrote_else, wrote_done}
use Rattle.av1_header.proofs.film_grain.write_some_grain.Goals as goal

-- what is applied is there
is_there : (there apply : Bool) → (if there then true else false) ≡ apply → apply ≡ true → there ≡ true
is_there true apply e k = refl
is_there false apply e k = e ∙ k

pub write_applied_grain-requires-clause-fits : goal.write_applied_grain-requires-clause-fits
write_applied_grain-requires-clause-fits c = (c.requires.fits (is_there _ _ c.flag_or-apply.ensures.told c.if-apply.true)).0

pub write_applied_grain-requires-clause-long : goal.write_applied_grain-requires-clause-long
write_applied_grain-requires-clause-long c = (c.requires.fits (is_there _ _ c.flag_or-apply.ensures.told c.if-apply.true)).1

pub returns-then-apply : goal.returns-then-apply
unfolding film_grain_params
returns-then-apply c = flag_then _ _ _ _ _ _ _ _ _ _ _ _ _ _ _ _ _ c.flag_or-apply.ensures refl refl (sym (ap is_some c.requires.same)) (wrote_if _ _ _ _ _ _ _ _ _ c.if-apply.true c.write_applied_grain.ensures)

pub returns-else-apply : goal.returns-else-apply
unfolding film_grain_params
returns-else-apply c = flag_then _ _ _ _ _ _ _ _ _ _ _ _ _ _ _ _ _ c.flag_or-apply.ensures refl refl (sym (ap is_some c.requires.same)) (wrote_else _ _ _ _ _ _ _ _ _ c.if-apply.false (wrote_done _ _ _ _ _ refl))
