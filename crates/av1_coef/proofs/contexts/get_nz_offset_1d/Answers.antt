use Rattle.std.proofs.Common.{ℕ, ◌≤◌, subst, sym}
use Rattle.av1_geometry.proofs.Lookup.{nz_offset_1d_at}
use Rattle.av1_coef.proofs.Offsets.{nz_offset_1d_few}
use Rattle.av1_coef.proofs.contexts.get_nz_offset_1d.Goals as goal

pub returns-clause-value : goal.returns-clause-value
returns-clause-value c = nz_offset_1d_at c.args.place _ c.requires

pub returns-clause-most : goal.returns-clause-most
returns-clause-most c = let few : ℕ → Type 0 = λ n. n ≤ 36 in subst few (sym (returns-clause-value c)) (nz_offset_1d_few c.args.place)
