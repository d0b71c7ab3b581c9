use Rattle.std.proofs.Common.{◌-◌, Bool, List}
use Rattle.av1_header.specs.Rows.{Wrote, each}
use Rattle.av1_header.specs.FilmGrain.{point}
use Rattle.av1_header.proofs.film_grain.write_each_point.Given as goal

-- what is left and what was written make the whole
abbrev pub invariant-loop-i : goal.invariant-loop-i
invariant-loop-i l = (r : Bool) (new : List Bool) →
    Wrote (each (l.n - l.i) l.i (point)) (l.points) tt l.refused r l.bits new →
    Wrote (each l.n 0 (point)) (l.points) tt l.fn.refused r l.fn.bits new
