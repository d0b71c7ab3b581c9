use Rattle.std.proofs.Common.{◌-◌, Bool, List}
use Rattle.av1_header.specs.Rows.{Wrote, each, on}
use Rattle.std.specs.Prelude.{slice_index_or}
use Rattle.av1_geometry.specs.declared.frame_type.GlobalMVMode.TheVariants.{IDENTITY}
use Rattle.av1_header.specs.Filters.{global_param}
use Rattle.av1_header.proofs.filters.write_motions.Given as goal

-- what is left and what was written make the whole
abbrev pub invariant-loop-i : goal.invariant-loop-i
invariant-loop-i l = (r : Bool) (new : List Bool) →
    Wrote (each (l.n - l.i) l.i (λ i. on (λ fi. slice_index_or fi.globalmv_transformation_type i IDENTITY) (global_param l.high_precision))) (l.fi) tt l.refused r l.bits new →
    Wrote (each l.n 0 (λ i. on (λ fi. slice_index_or fi.globalmv_transformation_type i IDENTITY) (global_param l.high_precision))) (l.fi) tt l.fn.refused r l.fn.bits new
