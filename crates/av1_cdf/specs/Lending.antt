-- What the numbers of a context end as, where some of them are lent. No public clause cites this.
use Rattle.std.specs.Prelude.{ℕ, List}
use Rattle.std.specs.Borrow.{Lends, MutBor, Fml, u16, Array}
use Rattle.av1_cdf.specs.Context.{written_between}
use Rattle.av1_cdf.specs.declared.numbers.NumberArray.{NumberArray}
use Rattle.av1_cdf.specs.contracts.numbers.NumberArray.{the_row}

-- once the borrow r ends, its numbers stand from one place up to the other
abbrev pub LendsPart : MutBor NumberArray → ℕ → ℕ → MutBor (List ℕ) → Fml
LendsPart array from to r = Lends the_row (Array u16 0) array r (λ ws. record { xs = written_between array.now.xs from to ws })
