use Rattle.std.proofs.Common.{◌≡◌, Vec, Global, map, length, true, ap, sym, subst, arith}
use Rattle.av1_coef.specs.declared.scans.Scan.{Scan}
use Rattle.av1_coef.specs.Scans.{of_each}
use Rattle.av1_coef.proofs.AllScans.{three_at}
use Rattle.av1_coef.proofs.scans.Scans.scan.Goals as goal

pub bounds-of_size-class_number : goal.bounds-of_size-class_number
bounds-of_size-class_number c =
    let lists = c.self.inside.scans.items in
    let each : of_each (map (λ (v : Vec Scan Global). v.items) lists) ≡ true = subst (λ s. of_each s ≡ true) (sym c.self.view_is) c.requires in
    omega (arith, three_at (Vec Scan Global) (λ v. v.items) lists c.number.result c.class_number.result c.index.result.now each c.number.ensures.bound c.index.ensures c.class_number.ensures.few, ap length c.as_slice-of_size.ensures.value)
