use Rattle.std.proofs.Common.{ℕ, ◌≤◌, subst, sym, min}
use Rattle.av1_coef.proofs.Offsets.{nz_offset_few}
use Rattle.av1_coef.proofs.Offsets.{offset_value}
use Rattle.av1_coef.proofs.contexts.get_nz_offset_2d.Goals as goal

pub returns-clause-value : goal.returns-clause-value
returns-clause-value c =
    rw (c.from.ensures, c.unsigned_abs.ensures.value, c.number.ensures.value, c.min.ensures, c.min-2.ensures) (offset_value c.args.tx_size c.args.row c.args.col _ _ _)

pub returns-clause-most : goal.returns-clause-most
returns-clause-most c =
    let few : ℕ → Type 0 = λ n. n ≤ 21 in subst few (sym (returns-clause-value c)) (nz_offset_few c.args.tx_size (min c.args.row 4) (min c.args.col 4))
