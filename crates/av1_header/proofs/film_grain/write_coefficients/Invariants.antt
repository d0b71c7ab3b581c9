use Rattle.std.proofs.Common.{◌-◌, Bool, List}
use Rattle.av1_header.specs.Rows.{Wrote, each}
use Rattle.av1_header.specs.FilmGrain.{coefficient}
use Rattle.av1_header.proofs.film_grain.write_coefficients.Given as goal

-- what is left and what was written make the whole
abbrev pub invariant-loop-i : goal.invariant-loop-i
invariant-loop-i l = (r : Bool) (new : List Bool) →
    Wrote (each (l.n - l.i) l.i (coefficient)) (l.coefficients) tt l.refused r l.bits new →
    Wrote (each l.n 0 (coefficient)) (l.coefficients) tt l.fn.refused r l.fn.bits new
